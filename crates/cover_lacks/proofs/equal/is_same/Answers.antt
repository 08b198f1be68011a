use Rattle.std.proofs.Common.{sym, ◌∙◌}
use Rattle.std.proofs.lemmas.Bool.{OnFalse_from, OnTrue_from}
use Rattle.form_model.specs.Trees.{model_of_tree}
use Rattle.cover_lacks.proofs.ListedLemmas.{same_exact, same_none}
use Rattle.cover_lacks.proofs.equal.is_same.Goals as goal

pub returns-clause-yes : goal.returns-clause-yes
returns-clause-yes c = OnTrue_from c.same.result _ (λ e. same_exact (model_of_tree c.args.a.now) (model_of_tree c.args.b.now) (sym c.same.ensures ∙ e))

pub returns-clause-no : goal.returns-clause-no
returns-clause-no c = OnFalse_from c.same.result _ (λ e. same_none c.args.a.now (model_of_tree c.args.b.now) (sym c.same.ensures ∙ e))
