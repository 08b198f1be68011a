use Rattle.bit_bdd.proofs.CallerLemmas.{extends_refl}
use Rattle.std.proofs.lemmas.Result.{IfOk-from_err}
use Rattle.form_set.proofs.classes.is_jump.Goals as goal

pub returns-then-ids-pc-clause-grows : goal.returns-then-ids-pc-clause-grows
returns-then-ids-pc-clause-grows c = extends_refl c.args.book.now

pub returns-in-Some-clause-grows : goal.returns-in-Some-clause-grows
returns-in-Some-clause-grows c = extends_refl c.args.book.now

pub returns-then-not-is_shape_in-clause-grows : goal.returns-then-not-is_shape_in-clause-grows
returns-then-not-is_shape_in-clause-grows c = extends_refl c.args.book.now

pub can_jump-requires-clause-ready : goal.can_jump-requires-clause-ready
can_jump-requires-clause-ready c = c.requires.ready

pub can_jump-requires-clause-ids : goal.can_jump-requires-clause-ids
can_jump-requires-clause-ids c = c.requires.ids

pub is_shape_in-requires : goal.is_shape_in-requires
is_shape_in-requires c = c.requires.ids.value

pub returns-in_err-can-clause-grows : goal.returns-in_err-can-clause-grows
returns-in_err-can-clause-grows c = c.can_jump.ensures.grows

pub returns-clause-grows : goal.returns-clause-grows
returns-clause-grows c = c.can_jump.ensures.grows

pub returns-in_err-can-clause-jump : goal.returns-in_err-can-clause-jump
returns-in_err-can-clause-jump c = IfOk-from_err c.from_residual.result _ c.from_residual.ensures.0
