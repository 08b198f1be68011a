use Rattle.std.proofs.Common.{◌≡◌, ℕ, Bool, false, None, ap, ◌∙◌, subst, sym}
use Rattle.std.specs.Bool.{OnFalse}
use Rattle.std.proofs.lemmas.Bool.{OnFalse_at, OnTrue_at}
use Rattle.net_model.specs.Exprs.{ExprModel, un, bin, model_of_expr}
use Rattle.form_model.specs.Trees.{model_of_tree}
use Rattle.form_model.specs.Matches.{matched}
use Rattle.form_model.specs.Shapes.{is_shape}
use Rattle.tree_grammar.proofs.ValueLemmas.{no_number, no_operands_match}
use Rattle.tree_grammar.proofs.takes.+taking.Goals as goal

pub may_take-returns-in-Un : goal.may_take-returns-in-Un
may_take-returns-in-Un t c =
    let e : un c.in-Un.op (model_of_expr c.deref-in-Un.result.now) ≡ model_of_expr c.args.value.now = ap (λ a. un c.in-Un.op (model_of_expr a)) c.deref-in-Un.ensures ∙ sym (ap model_of_expr c.in-Un.is) in
    subst (λ (v : ExprModel). OnFalse c.may_take_one.result ((temps : ℕ) (whole : Bool) → matched temps v (model_of_tree c.args.tree.now) whole ≡ None)) e c.may_take_one.ensures

pub may_take-returns-then-is_number_tree : goal.may_take-returns-then-is_number_tree
may_take-returns-then-is_number_tree t c =
    let e : bin c.in-Bin.op (model_of_expr c.in-Bin.a.value) (model_of_expr c.in-Bin.b.value) ≡ model_of_expr c.args.value.now = sym (ap model_of_expr c.in-Bin.is) in
    subst (λ (v : ExprModel). OnFalse c.is_field_shape-then-is_number_tree.result ((temps : ℕ) (whole : Bool) → matched temps v (model_of_tree c.args.tree.now) whole ≡ None)) e
    (no_number c.is_field_shape-then-is_number_tree.result c.in-Bin.op (model_of_expr c.in-Bin.a.value) (model_of_expr c.in-Bin.b.value) (model_of_tree c.args.tree.now) (c.is_field_shape-then-is_number_tree.ensures ∙ ap is_shape (sym e)) (sym c.is_number_tree.ensures ∙ c.if-is_number_tree.true))

pub may_take-returns-else-is_number_tree : goal.may_take-returns-else-is_number_tree
may_take-returns-else-is_number_tree t c =
    let e : bin c.in-Bin.op (model_of_expr c.in-Bin.a.value) (model_of_expr c.in-Bin.b.value) ≡ model_of_expr c.args.value.now = sym (ap model_of_expr c.in-Bin.is) in
    subst (λ (b : Bool). OnFalse b ((temps : ℕ) (whole : Bool) → matched temps (model_of_expr c.args.value.now) (model_of_tree c.args.tree.now) whole ≡ None)) (sym c.if-is_number_tree.false)
    (subst (λ (v : ExprModel). (temps : ℕ) (whole : Bool) → matched temps v (model_of_tree c.args.tree.now) whole ≡ None) e
    (no_operands_match false c.in-Bin.op (model_of_expr c.in-Bin.a.value) (model_of_expr c.in-Bin.b.value) (model_of_tree c.args.tree.now) (sym c.is_number_tree.ensures ∙ c.if-is_number_tree.false)
    (λ temps. OnFalse_at c.if-is_bin.false c.is_bin.ensures.no (matched temps (model_of_expr c.in-Bin.a.value)) (matched temps (model_of_expr c.in-Bin.b.value)) c.in-Bin.op)))

pub may_take-returns-then-is_bin : goal.may_take-returns-then-is_bin
may_take-returns-then-is_bin t c =
    let e : bin c.in-Bin.op (model_of_expr c.deref-then-is_bin.result.now) (model_of_expr c.deref-then-is_bin-2.result.now) ≡ model_of_expr c.args.value.now =
    ap (λ a. bin c.in-Bin.op (model_of_expr a) (model_of_expr c.deref-then-is_bin-2.result.now)) c.deref-then-is_bin.ensures
    ∙ ap (λ b. bin c.in-Bin.op (model_of_expr c.in-Bin.a.value) (model_of_expr b)) c.deref-then-is_bin-2.ensures
    ∙ sym (ap model_of_expr c.in-Bin.is) in
    subst (λ (v : ExprModel). OnFalse c.may_take_two.result ((temps : ℕ) (whole : Bool) → matched temps v (model_of_tree c.args.tree.now) whole ≡ None)) e
    (no_operands_match c.may_take_two.result c.in-Bin.op (model_of_expr c.deref-then-is_bin.result.now) (model_of_expr c.deref-then-is_bin-2.result.now) (model_of_tree c.args.tree.now) (OnTrue_at c.if-is_bin.true c.is_bin.ensures.yes) c.may_take_two.ensures)
