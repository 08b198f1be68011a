use Rattle.std.proofs.lemmas.Result.{IfOk-from_err}
use Rattle.bit_bdd.proofs.CallerLemmas.{extends_trans}
use Rattle.compaction.proofs.change.change_of.Goals as goal

pub returns-in_err-first-in-None-clause-grows : goal.returns-in_err-first-in-None-clause-grows
returns-in_err-first-in-None-clause-grows c = extends_trans c.args.book.now c.merged.new.book c.moved.new.book c.merged.ensures.grows c.moved.ensures.grows

pub returns-in-Some-2-clause-grows : goal.returns-in-Some-2-clause-grows
returns-in-Some-2-clause-grows c = extends_trans c.args.book.now c.merged.new.book c.moved.new.book c.merged.ensures.grows c.moved.ensures.grows

pub returns-in-None-2-clause-grows : goal.returns-in-None-2-clause-grows
returns-in-None-2-clause-grows c = extends_trans c.args.book.now c.merged.new.book c.moved.new.book c.merged.ensures.grows c.moved.ensures.grows

pub returns-in_err-both-clause-change : goal.returns-in_err-both-clause-change
returns-in_err-both-clause-change c = IfOk-from_err c.from_residual.result _ c.from_residual.ensures.0

pub returns-in_err-first-in-None-clause-change : goal.returns-in_err-first-in-None-clause-change
returns-in_err-first-in-None-clause-change c = IfOk-from_err c.from_residual-in_err-first-in-None.result _ c.from_residual-in_err-first-in-None.ensures.0
