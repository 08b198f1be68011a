use Rattle.std.proofs.lemmas.Result.{IfOk-from_err}
use Rattle.ctl_bdd.proofs.legal.gate_legal.Goals as goal

pub returns-in_err-id-in-Bus-clause-within : goal.returns-in_err-id-in-Bus-clause-within
returns-in_err-id-in-Bus-clause-within c = IfOk-from_err c.from_residual.result _ c.from_residual.ensures.0

pub returns-in_err-id-in-Bus-clause-words : goal.returns-in_err-id-in-Bus-clause-words
returns-in_err-id-in-Bus-clause-words c = IfOk-from_err c.from_residual.result _ c.from_residual.ensures.0
