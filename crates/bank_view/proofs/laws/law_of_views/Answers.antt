use Rattle.bank_view.proofs.Clocks.{same, both, one}
use Rattle.bank_view.proofs.laws.law_of_views.Goals as goal

pub returns-clause-values : goal.returns-clause-values
returns-clause-values c = λ d order places k vo s word is w n lt. same d order k places vo s word is w n lt

pub returns-clause-both : goal.returns-clause-both
returns-clause-both c = λ d order places k vo s word is w h. both d order k places vo s word is w h

pub returns-clause-one : goal.returns-clause-one
returns-clause-one c = λ d order places k vo s word is w never. one d order k places vo s word is w never
