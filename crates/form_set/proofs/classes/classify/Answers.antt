use Rattle.std.proofs.lemmas.Result.{IfOk-from_err}
use Rattle.bit_bdd.proofs.CallerLemmas.{extends_trans}
use Rattle.form_set.proofs.Holding.{ids_later}
use Rattle.transfer_set.proofs.ReadyLaws.{ready_later}
use Rattle.form_set.proofs.classes.classify.Goals as goal

pub is_jump-requires-clause-ready : goal.is_jump-requires-clause-ready
is_jump-requires-clause-ready c =
    ready_later c.args.machine.now.checked.now.netlist c.args.book.now c.plain.new.book c.args.machine.now.pool.now c.args.machine.now.patterns.now c.plain.ensures.grows c.requires.ready

pub is_jump-requires-clause-ids : goal.is_jump-requires-clause-ids
is_jump-requires-clause-ids c =
    ids_later c.args.machine.now.checked.now.netlist c.args.book.now c.plain.new.book c.args.machine.now.pool.now c.args.ids c.plain.ensures.grows c.requires.ids

pub branch-alloc-requires-clause-ready : goal.branch-alloc-requires-clause-ready
branch-alloc-requires-clause-ready c =
    ready_later c.args.machine.now.checked.now.netlist c.args.book.now c.is_jump.new.book c.args.machine.now.pool.now c.args.machine.now.patterns.now (extends_trans c.args.book.now c.plain.new.book c.is_jump.new.book c.plain.ensures.grows c.is_jump.ensures.grows) c.requires.ready

pub branch-alloc-requires-clause-ids : goal.branch-alloc-requires-clause-ids
branch-alloc-requires-clause-ids c =
    ids_later c.args.machine.now.checked.now.netlist c.args.book.now c.is_jump.new.book c.args.machine.now.pool.now c.args.ids (extends_trans c.args.book.now c.plain.new.book c.is_jump.new.book c.plain.ensures.grows c.is_jump.ensures.grows) c.requires.ids

pub returns-in_err-jump-clause-grows : goal.returns-in_err-jump-clause-grows
returns-in_err-jump-clause-grows c = extends_trans c.args.book.now c.plain.new.book c.is_jump.new.book c.plain.ensures.grows c.is_jump.ensures.grows

pub returns-then-jump-clause-grows : goal.returns-then-jump-clause-grows
returns-then-jump-clause-grows c = extends_trans c.args.book.now c.plain.new.book c.is_jump.new.book c.plain.ensures.grows c.is_jump.ensures.grows

pub plain-requires-clause-ready : goal.plain-requires-clause-ready
plain-requires-clause-ready c = c.requires.ready

pub plain-requires-clause-ids : goal.plain-requires-clause-ids
plain-requires-clause-ids c = c.requires.ids

pub returns-in_err-clobbers-clause-grows : goal.returns-in_err-clobbers-clause-grows
returns-in_err-clobbers-clause-grows c = c.plain.ensures.grows

pub returns-in-Some-clause-grows : goal.returns-in-Some-clause-grows
returns-in-Some-clause-grows c = c.plain.ensures.grows

pub returns-in_err-parts-clause-grows : goal.returns-in_err-parts-clause-grows
returns-in_err-parts-clause-grows c = extends_trans c.args.book.now c.is_jump.new.book c.branch-alloc.new.book
    (extends_trans c.args.book.now c.plain.new.book c.is_jump.new.book c.plain.ensures.grows c.is_jump.ensures.grows) c.branch-alloc.ensures.grows

pub returns-in-Some-2-clause-grows : goal.returns-in-Some-2-clause-grows
returns-in-Some-2-clause-grows c = extends_trans c.args.book.now c.is_jump.new.book c.branch-alloc.new.book
    (extends_trans c.args.book.now c.plain.new.book c.is_jump.new.book c.plain.ensures.grows c.is_jump.ensures.grows) c.branch-alloc.ensures.grows

pub returns-in-None-clause-grows : goal.returns-in-None-clause-grows
returns-in-None-clause-grows c = extends_trans c.args.book.now c.is_jump.new.book c.branch-alloc.new.book
    (extends_trans c.args.book.now c.plain.new.book c.is_jump.new.book c.plain.ensures.grows c.is_jump.ensures.grows) c.branch-alloc.ensures.grows

pub returns-in_err-clobbers-clause-class : goal.returns-in_err-clobbers-clause-class
returns-in_err-clobbers-clause-class c = IfOk-from_err c.from_residual.result _ c.from_residual.ensures.0

pub returns-in_err-jump-clause-class : goal.returns-in_err-jump-clause-class
returns-in_err-jump-clause-class c = IfOk-from_err c.from_residual-in_err-jump.result _ c.from_residual-in_err-jump.ensures.0

pub returns-in_err-parts-clause-class : goal.returns-in_err-parts-clause-class
returns-in_err-parts-clause-class c = IfOk-from_err c.from_residual-in_err-parts.result _ c.from_residual-in_err-parts.ensures.0

pub returns-in-Some-clause-class : goal.returns-in-Some-clause-class
returns-in-Some-clause-class c = rw c.in-Some.is at c.in_ok-clobbers.ensures.plain

pub returns-then-jump-clause-class : goal.returns-then-jump-clause-class
returns-then-jump-clause-class c = c.in_ok-jump.ensures.jump.0 c.if-jump.true

pub returns-in-Some-2-clause-class : goal.returns-in-Some-2-clause-class
returns-in-Some-2-clause-class c = (rw c.in-Some-2.is at c.in_ok-parts.ensures.branch, rw c.in-Some-2.is at c.in_ok-parts.ensures.known)
