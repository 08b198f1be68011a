use Rattle.std.proofs.Common.{refl}
use Rattle.code_gen.proofs.covers.plan_one.Goals as goal

pub returns-in-Err-NoCover-clause-refused : goal.returns-in-Err-NoCover-clause-refused
returns-in-Err-NoCover-clause-refused c = (refl, c.plan_job.ensures.none (rw c.in-Err-NoCover.field-0-is at c.in-Err-NoCover.is))
