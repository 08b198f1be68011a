use Rattle.dual_bank.proofs.Joined.{done_same, tree_same}
use Rattle.dual_bank.proofs.Lying.{banked_does}
use Rattle.dual_bank.proofs.laws.law_of_banked.Goals as goal

pub returns-clause-values : goal.returns-clause-values
returns-clause-values c = tree_same

pub returns-clause-effects : goal.returns-clause-effects
returns-clause-effects c = done_same

pub returns-clause-meaning : goal.returns-clause-meaning
returns-clause-meaning c = banked_does
