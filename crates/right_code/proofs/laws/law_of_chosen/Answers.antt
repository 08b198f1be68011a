use Rattle.right_code.proofs.Right.{job_covered}
use Rattle.right_code.proofs.laws.law_of_chosen.Goals as goal

pub returns : goal.returns
returns c = λ task checked isas v number job at choice chosen. job_covered task checked isas v number job at choice chosen
