use Rattle.std.proofs.Common.{Bool, if◌then◌else◌, sym, ap, subst, ◌∙◌}
use Rattle.src_model.specs.Written.{model_of_src_node}
use Rattle.src_model.specs.Meaning.{shape_width, operand_width}
use Rattle.src_model.proofs.FittingLemmas.{sides_wide}
use Rattle.rec_bits.specs.Operators.{IsWidth}
use Rattle.src_model.proofs.Narrow.{small}
use Rattle.src_model.proofs.widths.operand_width.Goals as goal

pub written_width-requires : goal.written_width-requires
written_width-requires c =
    let x = model_of_src_node c.args.x.now.node in
    let y = model_of_src_node c.args.y.now.node in
    small c.args.word (operand_width c.args.word x y) y c.requires.word (sides_wide c.args.word x y c.requires.word c.requires.left c.requires.right) c.requires.right

pub written_width-requires-else-is_literal : goal.written_width-requires-else-is_literal
written_width-requires-else-is_literal c =
    let x = model_of_src_node c.args.x.now.node in
    let y = model_of_src_node c.args.y.now.node in
    small c.args.word (operand_width c.args.word x y) x c.requires.word (sides_wide c.args.word x y c.requires.word c.requires.left c.requires.right) c.requires.left

pub returns-then-is_literal-clause-wide : goal.returns-then-is_literal-clause-wide
returns-then-is_literal-clause-wide c =
    let word = c.args.word in
    let x = model_of_src_node c.args.x.now.node in
    let y = model_of_src_node c.args.y.now.node in
    let o = ap (λ (b : Bool). if b then shape_width word word y else shape_width word word x) (sym c.is_literal.ensures ∙ c.if-is_literal.true) in
    subst IsWidth (o ∙ sym c.written_width.ensures) (sides_wide word x y c.requires.word c.requires.left c.requires.right)

pub returns-else-is_literal-clause-wide : goal.returns-else-is_literal-clause-wide
returns-else-is_literal-clause-wide c =
    let word = c.args.word in
    let x = model_of_src_node c.args.x.now.node in
    let y = model_of_src_node c.args.y.now.node in
    let o = ap (λ (b : Bool). if b then shape_width word word y else shape_width word word x) (sym c.is_literal.ensures ∙ c.if-is_literal.false) in
    subst IsWidth (o ∙ sym c.written_width-else-is_literal.ensures) (sides_wide word x y c.requires.word c.requires.left c.requires.right)
