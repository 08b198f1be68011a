use Rattle.bit_bdd.proofs.CallerLemmas.{extends_refl}
use Rattle.std.proofs.lemmas.Result.{IfOk-from_err}
use Rattle.form_set.proofs.classes.branch.Goals as goal

pub returns-then-ids-pc-clause-grows : goal.returns-then-ids-pc-clause-grows
returns-then-ids-pc-clause-grows c = extends_refl c.args.book.now

pub returns-in-Some-clause-grows : goal.returns-in-Some-clause-grows
returns-in-Some-clause-grows c = extends_refl c.args.book.now

pub returns-then-not-move_linear-clause-grows : goal.returns-then-not-move_linear-clause-grows
returns-then-not-move_linear-clause-grows c = extends_refl c.args.book.now

pub returns-then-not-has_shapes-clause-grows : goal.returns-then-not-has_shapes-clause-grows
returns-then-not-has_shapes-clause-grows c = extends_refl c.args.book.now

pub returns-in-None-clause-grows : goal.returns-in-None-clause-grows
returns-in-None-clause-grows c = extends_refl c.args.book.now

pub returns-in_err-can-in-Some-branch_at-clause-grows : goal.returns-in_err-can-in-Some-branch_at-clause-grows
returns-in_err-can-in-Some-branch_at-clause-grows c = c.can_jump.ensures.grows

pub returns-then-can-clause-grows : goal.returns-then-can-clause-grows
returns-then-can-clause-grows c = c.can_jump.ensures.grows

pub returns-else-can-clause-grows : goal.returns-else-can-clause-grows
returns-else-can-clause-grows c = c.can_jump.ensures.grows

pub can_jump-requires-clause-ready : goal.can_jump-requires-clause-ready
can_jump-requires-clause-ready c = c.requires.ready

pub can_jump-requires-clause-ids : goal.can_jump-requires-clause-ids
can_jump-requires-clause-ids c = c.requires.ids

pub move_linear-requires-clause-addr : goal.move_linear-requires-clause-addr
move_linear-requires-clause-addr c = c.requires.ids.addr

pub move_linear-requires-clause-value : goal.move_linear-requires-clause-value
move_linear-requires-clause-value c = c.requires.ids.value

pub move_linear-requires-clause-exprs : goal.move_linear-requires-clause-exprs
move_linear-requires-clause-exprs c = c.requires.ids.exprs

pub branch_at-requires-clause-within : goal.branch_at-requires-clause-within
branch_at-requires-clause-within c = c.requires.ids.value

pub returns-in_err-can-in-Some-branch_at-clause-branch : goal.returns-in_err-can-in-Some-branch_at-clause-branch
returns-in_err-can-in-Some-branch_at-clause-branch c = IfOk-from_err c.from_residual.result _ c.from_residual.ensures.0

pub returns-in_err-can-in-Some-branch_at-clause-known : goal.returns-in_err-can-in-Some-branch_at-clause-known
returns-in_err-can-in-Some-branch_at-clause-known c = IfOk-from_err c.from_residual.result _ c.from_residual.ensures.0
