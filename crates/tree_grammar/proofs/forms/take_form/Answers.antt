use Rattle.std.proofs.Common.{ap}
use Rattle.tree_grammar.specs.Leaves.{model_of_destination, value_at}
use Rattle.tree_grammar.proofs.NumberLemmas.{stands_ok}
use Rattle.tree_grammar.proofs.forms.take_form.Goals as goal

pub returns-else-r-id-clause-at : goal.returns-else-r-id-clause-at
returns-else-r-id-clause-at c = stands_ok _ _ _ _ _ _ (ap (λ p. value_at (model_of_destination p) c.args.goal.at) c.in-Register.is) c.take.ensures.at

pub returns-in-File-destination-clause-at : goal.returns-in-File-destination-clause-at
returns-in-File-destination-clause-at c = stands_ok _ _ _ _ _ _ (ap (λ p. value_at (model_of_destination p) c.args.goal.at) c.in-File-destination.is) c.take-in-File.ensures.at

pub returns-in-Test-clause-at : goal.returns-in-Test-clause-at
returns-in-Test-clause-at c = stands_ok _ _ _ _ _ _ (ap (λ p. value_at (model_of_destination p) c.args.goal.at) c.in-Test.is) c.take-in-Branch.ensures.at
