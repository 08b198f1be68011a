use Rattle.std.proofs.lemmas.Result.{IfOk-from_err}
use Rattle.form_set.proofs.Classifying.{jump_shape, reach_is_of}
use Rattle.form_set.proofs.classes.jump_reach.Goals as goal

pub returns-clause-reach : goal.returns-clause-reach
returns-clause-reach c =
    reach_is_of c.args.machine.now.checked.now.netlist c.args.machine.now.pool.now c.args.ids c.in_ok-jump.jump c.in_ok-jump.ensures.jump c.if-not-jump.false c.shape_reach.result c.shape_reach.ensures

pub is_jump-requires-clause-ready : goal.is_jump-requires-clause-ready
is_jump-requires-clause-ready c = c.requires.ready

pub is_jump-requires-clause-ids : goal.is_jump-requires-clause-ids
is_jump-requires-clause-ids c = c.requires.ids

pub returns-in_err-jump-clause-grows : goal.returns-in_err-jump-clause-grows
returns-in_err-jump-clause-grows c = c.is_jump.ensures.grows

pub returns-then-not-jump-clause-grows : goal.returns-then-not-jump-clause-grows
returns-then-not-jump-clause-grows c = c.is_jump.ensures.grows

pub returns-clause-grows : goal.returns-clause-grows
returns-clause-grows c = c.is_jump.ensures.grows

pub returns-in_err-jump-clause-reach : goal.returns-in_err-jump-clause-reach
returns-in_err-jump-clause-reach c = IfOk-from_err c.from_residual.result _ c.from_residual.ensures.0

pub shape_reach-requires-clause-shape : goal.shape_reach-requires-clause-shape
shape_reach-requires-clause-shape c =
    jump_shape c.args.machine.now.checked.now.netlist c.args.machine.now.pool.now c.args.ids (c.in_ok-jump.ensures.jump.0 c.if-not-jump.false)
