use Rattle.std.proofs.lemmas.Result.{IfOk-from_err}
use Rattle.form_set.proofs.words.clobbers.Goals as goal

pub kept_registers-requires-clause-ready : goal.kept_registers-requires-clause-ready
kept_registers-requires-clause-ready c = c.requires.ready

pub kept_registers-requires-clause-ids : goal.kept_registers-requires-clause-ids
kept_registers-requires-clause-ids c = c.requires.ids

pub kept_registers-requires-clause-words : goal.kept_registers-requires-clause-words
kept_registers-requires-clause-words c = c.requires.words

pub returns-in_err-kept-clause-grows : goal.returns-in_err-kept-clause-grows
returns-in_err-kept-clause-grows c = c.kept_registers.ensures.grows

pub returns-clause-grows : goal.returns-clause-grows
returns-clause-grows c = c.kept_registers.ensures.grows

pub returns-in_err-kept-clause-clobbers : goal.returns-in_err-kept-clause-clobbers
returns-in_err-kept-clause-clobbers c = IfOk-from_err c.from_residual.result _ c.from_residual.ensures.0
