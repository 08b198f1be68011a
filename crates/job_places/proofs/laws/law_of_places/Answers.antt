use Rattle.src_model.specs.Written.{stmts_of}
use Rattle.job_places.proofs.Counts.{of_stmts}
use Rattle.job_places.proofs.laws.law_of_places.Goals as goal

pub returns : goal.returns
returns c = λ m program. of_stmts m (stmts_of program.body)
