use Rattle.std.proofs.lemmas.Result.{IfOk-from_err}
use Rattle.compaction.proofs.draft.live_behind.Goals as goal

pub returns-in_err-lives : goal.returns-in_err-lives
returns-in_err-lives c = IfOk-from_err c.from_residual.result _ c.from_residual.ensures.0
