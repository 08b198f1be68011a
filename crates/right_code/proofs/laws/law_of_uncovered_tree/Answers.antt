use Rattle.right_code.proofs.Bare.{no_bare, one_bare}
use Rattle.right_code.proofs.laws.law_of_uncovered_tree.Goals as goal

pub returns-clause-one : goal.returns-clause-one
returns-clause-one c = λ task number other a b. one_bare task number other a b

pub returns-clause-none : goal.returns-clause-none
returns-clause-none c = λ task number h b. no_bare task number h b
