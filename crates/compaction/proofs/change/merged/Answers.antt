use Rattle.std.proofs.lemmas.Result.{IfOk-from_err}
use Rattle.compaction.proofs.change.merged.Goals as goal

pub returns-in_err-both-clause-merged : goal.returns-in_err-both-clause-merged
returns-in_err-both-clause-merged c = IfOk-from_err c.from_residual-in_err-both.result _ c.from_residual-in_err-both.ensures.0

pub returns-in_err-word-clause-merged : goal.returns-in_err-word-clause-merged
returns-in_err-word-clause-merged c = IfOk-from_err c.from_residual-in_err-word.result _ c.from_residual-in_err-word.ensures.0

pub returns-in_err-reads_across-clause-merged : goal.returns-in_err-reads_across-clause-merged
returns-in_err-reads_across-clause-merged c = IfOk-from_err c.from_residual.result _ c.from_residual.ensures.0
