use Rattle.std.proofs.Common.{slice_index, subst, sym}
use Rattle.sym_expr.specs.declared.pool.Node.TheVariants.{Bin, Const, Sext, Slice, Un, Zext}
use Rattle.tree_laws.specs.Classes.{IsNodeOf, tree_at}
use Rattle.tree_laws.specs.Rules.{expression_at, num_of, part_expr}
use Rattle.tree_laws.proofs.Standing.{bin_node, const_part, part_stands, sext_part, slice_part, un_node, zext_part}
use Rattle.tree_laws.proofs.classes.Classes.part_node.Goals as goal

pub returns-in_ok-number-in-Const : goal.returns-in_ok-number-in-Const
returns-in_ok-number-in-Const c = λ exprs all.
    subst (λ p. IsNodeOf c.args.self.now (part_expr (tree_at c.args.self.now c.args.choice.now.classes.items) (slice_index c.args.choice.now.numbers.items) exprs p) (Const c.in_ok-small-in-Const.field-0 c.in_ok-number-in-Const.field-0)) (sym c.in-Const.is)
    (const_part c.args.self.now (num_of (slice_index c.args.choice.now.numbers.items) c.in-Const.w) (num_of (slice_index c.args.choice.now.numbers.items) c.in-Const.v) c.in_ok-small-in-Const.field-0 c.in_ok-number-in-Const.field-0 c.in_ok-small-in-Const.ensures.1 c.in_ok-number-in-Const.ensures.1)

pub returns-in_ok-class_at-in-Un : goal.returns-in_ok-class_at-in-Un
returns-in_ok-class_at-in-Un c = λ exprs all.
    subst (λ p. IsNodeOf c.args.self.now (part_expr (tree_at c.args.self.now c.args.choice.now.classes.items) (slice_index c.args.choice.now.numbers.items) exprs p) (Un c.in-Un.op c.in_ok-class_at-in-Un.field-0)) (sym c.in-Un.is)
    (un_node c.args.self.now c.in-Un.op (expression_at exprs c.in-Un.a) c.in_ok-class_at-in-Un.field-0 (part_stands c.args.self.now exprs c.args.classes.now c.in-Un.a c.in_ok-class_at-in-Un.field-0 all c.in_ok-class_at-in-Un.ensures.0 c.in_ok-class_at-in-Un.ensures.1))

pub returns-in_ok-class_at-in-Bin : goal.returns-in_ok-class_at-in-Bin
returns-in_ok-class_at-in-Bin c = λ exprs all.
    subst (λ p. IsNodeOf c.args.self.now (part_expr (tree_at c.args.self.now c.args.choice.now.classes.items) (slice_index c.args.choice.now.numbers.items) exprs p) (Bin c.in-Bin.op c.in_ok-left-in-Bin.left c.in_ok-class_at-in-Bin.field-0)) (sym c.in-Bin.is)
    (bin_node c.args.self.now c.in-Bin.op (expression_at exprs c.in-Bin.a) (expression_at exprs c.in-Bin.b) c.in_ok-left-in-Bin.left c.in_ok-class_at-in-Bin.field-0
    (part_stands c.args.self.now exprs c.args.classes.now c.in-Bin.a c.in_ok-left-in-Bin.left all c.in_ok-left-in-Bin.ensures.0 c.in_ok-left-in-Bin.ensures.1)
    (part_stands c.args.self.now exprs c.args.classes.now c.in-Bin.b c.in_ok-class_at-in-Bin.field-0 all c.in_ok-class_at-in-Bin.ensures.0 c.in_ok-class_at-in-Bin.ensures.1))

pub returns-in_ok-small-in-Slice : goal.returns-in_ok-small-in-Slice
returns-in_ok-small-in-Slice c = λ exprs all.
    subst (λ p. IsNodeOf c.args.self.now (part_expr (tree_at c.args.self.now c.args.choice.now.classes.items) (slice_index c.args.choice.now.numbers.items) exprs p) (Slice c.in_ok-of-in-Slice.of c.in_ok-high-in-Slice.high c.in_ok-small-in-Slice.field-0)) (sym c.in-Slice.is)
    (slice_part c.args.self.now (expression_at exprs c.in-Slice.a) c.in_ok-of-in-Slice.of (num_of (slice_index c.args.choice.now.numbers.items) c.in-Slice.hi) (num_of (slice_index c.args.choice.now.numbers.items) c.in-Slice.lo) c.in_ok-high-in-Slice.high c.in_ok-small-in-Slice.field-0
    (part_stands c.args.self.now exprs c.args.classes.now c.in-Slice.a c.in_ok-of-in-Slice.of all c.in_ok-of-in-Slice.ensures.0 c.in_ok-of-in-Slice.ensures.1) c.in_ok-high-in-Slice.ensures.1 c.in_ok-small-in-Slice.ensures.1)

pub returns-in_ok-small-in-Zext : goal.returns-in_ok-small-in-Zext
returns-in_ok-small-in-Zext c = λ exprs all.
    subst (λ p. IsNodeOf c.args.self.now (part_expr (tree_at c.args.self.now c.args.choice.now.classes.items) (slice_index c.args.choice.now.numbers.items) exprs p) (Zext c.in_ok-of-in-Zext.of c.in_ok-small-in-Zext.field-0)) (sym c.in-Zext.is)
    (zext_part c.args.self.now (expression_at exprs c.in-Zext.a) c.in_ok-of-in-Zext.of (num_of (slice_index c.args.choice.now.numbers.items) c.in-Zext.w) c.in_ok-small-in-Zext.field-0
    (part_stands c.args.self.now exprs c.args.classes.now c.in-Zext.a c.in_ok-of-in-Zext.of all c.in_ok-of-in-Zext.ensures.0 c.in_ok-of-in-Zext.ensures.1) c.in_ok-small-in-Zext.ensures.1)

pub returns-in_ok-small-in-Sext : goal.returns-in_ok-small-in-Sext
returns-in_ok-small-in-Sext c = λ exprs all.
    subst (λ p. IsNodeOf c.args.self.now (part_expr (tree_at c.args.self.now c.args.choice.now.classes.items) (slice_index c.args.choice.now.numbers.items) exprs p) (Sext c.in_ok-of-in-Sext.of c.in_ok-small-in-Sext.field-0)) (sym c.in-Sext.is)
    (sext_part c.args.self.now (expression_at exprs c.in-Sext.a) c.in_ok-of-in-Sext.of (num_of (slice_index c.args.choice.now.numbers.items) c.in-Sext.w) c.in_ok-small-in-Sext.field-0
    (part_stands c.args.self.now exprs c.args.classes.now c.in-Sext.a c.in_ok-of-in-Sext.of all c.in_ok-of-in-Sext.ensures.0 c.in_ok-of-in-Sext.ensures.1) c.in_ok-small-in-Sext.ensures.1)
