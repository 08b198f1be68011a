use Rattle.bit_bdd.proofs.CallerLemmas.{extends_refl}
use Rattle.std.proofs.lemmas.Result.{IfOk-from_err}
use Rattle.form_set.proofs.listing.number_reach.Goals as goal

pub jump_reach-requires-clause-ready : goal.jump_reach-requires-clause-ready
jump_reach-requires-clause-ready c = c.requires.ready

pub returns-in-None-clause-grows : goal.returns-in-None-clause-grows
returns-in-None-clause-grows c = extends_refl c.args.book.now

pub returns-in_err-reach-in-Some-clause-grows : goal.returns-in_err-reach-in-Some-clause-grows
returns-in_err-reach-in-Some-clause-grows c = c.jump_reach.ensures.grows

pub returns-in_ok-reach-in-Some-clause-grows : goal.returns-in_ok-reach-in-Some-clause-grows
returns-in_ok-reach-in-Some-clause-grows c = c.jump_reach.ensures.grows

pub returns-in_err-reach-in-Some-clause-reach : goal.returns-in_err-reach-in-Some-clause-reach
returns-in_err-reach-in-Some-clause-reach c = IfOk-from_err c.from_residual.result _ c.from_residual.ensures.0

pub jump_reach-requires-clause-ids : goal.jump_reach-requires-clause-ids
jump_reach-requires-clause-ids c = c.in-Some.ensures.ids c.args.book.now c.requires.ready
