use Rattle.std.proofs.Common.{◌≡◌, None, sym, subst}
use Rattle.std.specs.Bool.{OnFalse}
use Rattle.net_model.specs.Exprs.{ExprModel}
use Rattle.form_model.specs.Trees.{model_of_tree}
use Rattle.form_model.specs.Matches.{shape_match}
use Rattle.tree_grammar.proofs.ValueLemmas.{shown_number}
use Rattle.tree_grammar.proofs.takes.may_be_shown.Goals as goal

pub returns : goal.returns
returns c =
    let t = model_of_tree c.args.tree.now in
    subst (λ b. OnFalse b ((shape : ExprModel) → shape_match shape t ≡ None)) (sym c.is_number_tree.ensures) (shown_number t)
