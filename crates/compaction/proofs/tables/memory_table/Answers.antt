use Rattle.std.proofs.lemmas.Result.{IfOk-from_err}
use Rattle.compaction.proofs.tables.memory_table.Goals as goal

pub returns-in_err-push-clause-long : goal.returns-in_err-push-clause-long
returns-in_err-push-clause-long c = IfOk-from_err c.from_residual.result _ c.from_residual.ensures.0

pub returns-in_err-push-clause-readers : goal.returns-in_err-push-clause-readers
returns-in_err-push-clause-readers c = IfOk-from_err c.from_residual.result _ c.from_residual.ensures.0
