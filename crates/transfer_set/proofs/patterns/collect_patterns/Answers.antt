use Rattle.std.proofs.lemmas.Result.{IfOk-from_err}
use Rattle.std.proofs.Common.{◌≡◌, ◌≤◌, length, subst, arith, ◌∙◌}
use Rattle.bit_bdd.proofs.CallerLemmas.{extends_trans}
use Rattle.net_model.proofs.KeptRules.{few_storages}
use Rattle.transfer_set.specs.Inner.Entries.{AreLeft}
use Rattle.transfer_set.proofs.Assembling.{table_is}
use Rattle.transfer_set.proofs.Collecting.{held_entries_later}
use Rattle.transfer_set.proofs.Sourcing.{source_of}
use Rattle.transfer_set.proofs.patterns.collect_patterns.Goals as goal

pub overflow_cast-storages : goal.overflow_cast-storages
overflow_cast-storages c =
    let few : length c.args.checked.now.netlist.storages ≤ 15 = few_storages c.args.checked.now.netlist c.args.checked.now.order c.netlist.ensures.kept in
    let e : c.len-storages.result ≡ length c.args.checked.now.netlist.storages = rw c.netlist.ensures.value at c.len-storages.ensures in
    omega (arith, few, e)

pub collect_entries-requires-clause-source : goal.collect_entries-requires-clause-source
collect_entries-requires-clause-source c =
    source_of c.args.checked.now.netlist c.args.checked.now.order c.netlist.ensures.kept c.args.book.now c.args.controls.now c.requires.controls
    (omega (arith, c.size.ensures.size, c.size.ensures.both)) c.size.ensures.full c.requires.word c.args.pool.now c.args.routes.now.of c.requires.routes

pub step_set-requires-clause-words : goal.step_set-requires-clause-words
step_set-requires-clause-words c =
    rw (c.as_slice-2.ensures) (held_entries_later c.collect_entries.new.book c.keep_sets.new.book c.in_ok-keeps.ensures.grows c.in_ok-entries.entries c.in_ok-entries.ensures.words)

pub returns-in_err-keeps-clause-grows : goal.returns-in_err-keeps-clause-grows
returns-in_err-keeps-clause-grows c =
    extends_trans c.args.book.now c.collect_entries.new.book c.keep_sets.new.book c.in_ok-entries.ensures.grows c.in_err-keeps.ensures.grows

pub returns-in_err-step-clause-grows : goal.returns-in_err-step-clause-grows
returns-in_err-step-clause-grows c =
    extends_trans c.args.book.now c.keep_sets.new.book c.step_set.new.book (extends_trans c.args.book.now c.collect_entries.new.book c.keep_sets.new.book c.in_ok-entries.ensures.grows c.in_ok-keeps.ensures.grows) c.in_err-step.ensures.grows

pub returns-in_err-rows-clause-grows : goal.returns-in_err-rows-clause-grows
returns-in_err-rows-clause-grows c =
    extends_trans c.args.book.now c.keep_sets.new.book c.step_set.new.book (extends_trans c.args.book.now c.collect_entries.new.book c.keep_sets.new.book c.in_ok-entries.ensures.grows c.in_ok-keeps.ensures.grows) c.in_ok-step.ensures.grows

pub returns-clause-grows : goal.returns-clause-grows
returns-clause-grows c =
    extends_trans c.args.book.now c.keep_sets.new.book c.step_set.new.book (extends_trans c.args.book.now c.collect_entries.new.book c.keep_sets.new.book c.in_ok-entries.ensures.grows c.in_ok-keeps.ensures.grows) c.in_ok-step.ensures.grows

pub returns-clause-ready : goal.returns-clause-ready
returns-clause-ready c =
    let e : c.len-storages.result ≡ length c.args.checked.now.netlist.storages = rw c.netlist.ensures.value at c.len-storages.ensures in
    let left : AreLeft c.collect_entries.new.book c.keep_sets.new.book c.args.controls.now.legal c.in_ok-entries.entries (length c.args.checked.now.netlist.storages) c.in_ok-keeps.keeps =
    subst (λ count. AreLeft c.collect_entries.new.book c.keep_sets.new.book c.args.controls.now.legal c.in_ok-entries.entries count c.in_ok-keeps.keeps) e (rw c.as_slice.ensures at c.in_ok-keeps.ensures.left) in
    let patterns = table_is c.args.checked.now.netlist c.args.checked.now.order c.netlist.ensures.kept c.args.book.now c.collect_entries.new.book c.keep_sets.new.book c.step_set.new.book
    c.in_ok-entries.ensures.grows c.in_ok-keeps.ensures.grows c.in_ok-step.ensures.grows
    c.args.pool.now c.in_ok-entries.entries c.in_ok-entries.ensures.words c.in_ok-entries.ensures.known c.in_ok-entries.ensures.whole
    c.args.controls.now.legal c.requires.controls.within
    c.requires.controls.legal
    c.in_ok-entries.ensures.moves c.in_ok-entries.ensures.every
    c.in_ok-rows.rows.items (rw c.as_slice-3.ensures at c.in_ok-rows.ensures.same) c.in_ok-rows.ensures.shows c.in_ok-rows.ensures.ordered
    c.in_ok-keeps.keeps left c.of.result c.of.ensures.storage c.of.ensures.width
    c.in_ok-step.step c.in_ok-step.ensures.within (rw c.as_slice-2.ensures at c.in_ok-step.ensures.words) c.memory.result c.memory.ensures c.file_of.result c.file_of.ensures in
    record { patterns = patterns; bits = (returns-clause-grows c).bits ∙ c.requires.word }

pub returns-in_err-entries-clause-ready : goal.returns-in_err-entries-clause-ready
returns-in_err-entries-clause-ready c = IfOk-from_err c.from_residual.result _ c.from_residual.ensures.0

pub returns-in_err-keeps-clause-ready : goal.returns-in_err-keeps-clause-ready
returns-in_err-keeps-clause-ready c = IfOk-from_err c.from_residual-in_err-keeps.result _ c.from_residual-in_err-keeps.ensures.0

pub returns-in_err-rows-clause-ready : goal.returns-in_err-rows-clause-ready
returns-in_err-rows-clause-ready c = IfOk-from_err c.from_residual-in_err-rows.result _ c.from_residual-in_err-rows.ensures.0

pub returns-in_err-step-clause-ready : goal.returns-in_err-step-clause-ready
returns-in_err-step-clause-ready c = IfOk-from_err c.from_residual-in_err-step.result _ c.from_residual-in_err-step.ensures.0
