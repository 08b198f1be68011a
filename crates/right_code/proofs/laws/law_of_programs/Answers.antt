use Rattle.right_code.proofs.Right.{bounded_image, right_image}
use Rattle.right_code.proofs.laws.law_of_programs.Goals as goal

pub returns-clause-reach : goal.returns-clause-reach
returns-clause-reach c = λ task checked image made room reached. right_image task checked image made room reached

pub returns-clause-bound : goal.returns-clause-bound
returns-clause-bound c = λ task checked image made bound reach has within room. bounded_image task checked image made bound reach has within room
