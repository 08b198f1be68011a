use Rattle.bank_view.proofs.Formed.{view_formed}
use Rattle.bank_view.proofs.Ruled.{view_kept}
use Rattle.bank_view.proofs.laws.law_of_rules.Goals as goal

pub returns-clause-formed : goal.returns-clause-formed
returns-clause-formed c = λ n h. view_formed n h

pub returns-clause-kept : goal.returns-clause-kept
returns-clause-kept c = λ n order k. view_kept n order k
