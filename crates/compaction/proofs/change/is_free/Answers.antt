use Rattle.std.proofs.lemmas.Result.{IfOk-from_err}
use Rattle.compaction.proofs.change.is_free.Goals as goal

pub returns-in_err-is_read_by_either : goal.returns-in_err-is_read_by_either
returns-in_err-is_read_by_either c = IfOk-from_err c.from_residual-in_err-is_read_by_either.result _ c.from_residual-in_err-is_read_by_either.ensures.0

pub returns-in_err-reads_from : goal.returns-in_err-reads_from
returns-in_err-reads_from c = IfOk-from_err c.from_residual.result _ c.from_residual.ensures.0
