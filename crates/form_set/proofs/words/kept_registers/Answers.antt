use Rattle.std.proofs.lemmas.Result.{IfOk-from_err}
use Rattle.form_set.proofs.Holding.{ids_later}
use Rattle.transfer_set.proofs.ReadyLaws.{ready_later}
use Rattle.form_set.proofs.words.kept_registers.Goals as goal

pub joined-requires-clause-ready : goal.joined-requires-clause-ready
joined-requires-clause-ready c =
    ready_later c.args.machine.now.checked.now.netlist c.args.book.now c.loop-id.book c.args.machine.now.pool.now c.args.machine.now.patterns.now c.loop-id.invariant.grows c.requires.ready

pub joined-requires-clause-ids : goal.joined-requires-clause-ids
joined-requires-clause-ids c =
    ids_later c.args.machine.now.checked.now.netlist c.args.book.now c.loop-id.book c.args.machine.now.pool.now c.args.ids c.loop-id.invariant.grows c.requires.ids

pub returns-in_err-kept-clause-kept : goal.returns-in_err-kept-clause-kept
returns-in_err-kept-clause-kept c = IfOk-from_err c.from_residual.result _ c.from_residual.ensures.0
