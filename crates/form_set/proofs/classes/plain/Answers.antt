use Rattle.std.proofs.lemmas.Result.{IfOk-from_err}
use Rattle.std.proofs.Common.{◌∙◌, sym, true≢false}
use Rattle.bit_bdd.proofs.CallerLemmas.{extends_refl, extends_trans}
use Rattle.form_set.specs.Inner.PatternIds.{ids_pattern}
use Rattle.form_set.specs.Words.{KeepsOthers}
use Rattle.form_set.proofs.Chosen.{keep_told}
use Rattle.form_set.proofs.Holding.{ids_later, set_later}
use Rattle.transfer_set.proofs.ReadyLaws.{ready_later}
use Rattle.form_set.proofs.classes.plain.Goals as goal

pub clobbers-requires-clause-ready : goal.clobbers-requires-clause-ready
clobbers-requires-clause-ready c =
    ready_later c.args.machine.now.checked.now.netlist c.args.book.now c.has_all.new.book c.args.machine.now.pool.now c.args.machine.now.patterns.now
    (extends_trans c.args.book.now c.step_words.new.book c.has_all.new.book c.in_ok-words.ensures.grows c.in_ok-ok.ensures.grows) c.requires.ready

pub clobbers-requires-clause-ids : goal.clobbers-requires-clause-ids
clobbers-requires-clause-ids c =
    ids_later c.args.machine.now.checked.now.netlist c.args.book.now c.has_all.new.book c.args.machine.now.pool.now c.args.ids
    (extends_trans c.args.book.now c.step_words.new.book c.has_all.new.book c.in_ok-words.ensures.grows c.in_ok-ok.ensures.grows) c.requires.ids

pub clobbers-requires-clause-words : goal.clobbers-requires-clause-words
clobbers-requires-clause-words c =
    set_later c.step_words.new.book c.has_all.new.book (KeepsOthers c.args.machine.now.checked.now.netlist (ids_pattern c.args.machine.now.pool.now c.args.ids) 0)
    c.in_ok-words.words c.in_ok-ok.ensures.grows c.in_ok-words.ensures.words

pub returns-then-not-is_apt-clause-grows : goal.returns-then-not-is_apt-clause-grows
returns-then-not-is_apt-clause-grows c = extends_refl c.args.book.now

pub returns-then-not-is_apt-clause-plain : goal.returns-then-not-is_apt-clause-plain
returns-then-not-is_apt-clause-plain c h = true≢false (sym (c.is_apt.ensures.1 (record { linear = h.linear; shapes = h.shapes; cells = h.cells })) ∙ c.if-not-is_apt.true)

pub returns-in_err-ok-clause-grows : goal.returns-in_err-ok-clause-grows
returns-in_err-ok-clause-grows c =
    extends_trans c.args.book.now c.step_words.new.book c.has_all.new.book c.in_ok-words.ensures.grows c.in_err-ok.ensures.grows

pub returns-then-not-ok-clause-grows : goal.returns-then-not-ok-clause-grows
returns-then-not-ok-clause-grows c =
    extends_trans c.args.book.now c.step_words.new.book c.has_all.new.book c.in_ok-words.ensures.grows c.in_ok-ok.ensures.grows

pub returns-then-not-ok-clause-plain : goal.returns-then-not-ok-clause-plain
returns-then-not-ok-clause-plain c h =
    let grows = c.in_ok-words.ensures.grows in
    let can = keep_told c.args.machine.now.checked.now.netlist c.step_words.new.book c.args.machine.now.pool.now c.args.machine.now.patterns.now
    (ready_later c.args.machine.now.checked.now.netlist c.args.book.now c.step_words.new.book c.args.machine.now.pool.now c.args.machine.now.patterns.now grows c.requires.ready)
    c.args.ids (ids_later c.args.machine.now.checked.now.netlist c.args.book.now c.step_words.new.book c.args.machine.now.pool.now c.args.ids grows c.requires.ids)
    0 c.in_ok-words.words c.in_ok-words.ensures.words c.in_ok-ok.ok c.in_ok-ok.ensures.all in
    true≢false (sym (can.1 h.ok) ∙ c.if-not-ok.true)

pub returns-in_err-clobbers-clause-grows : goal.returns-in_err-clobbers-clause-grows
returns-in_err-clobbers-clause-grows c =
    extends_trans c.args.book.now c.has_all.new.book c.clobbers.new.book
    (extends_trans c.args.book.now c.step_words.new.book c.has_all.new.book c.in_ok-words.ensures.grows c.in_ok-ok.ensures.grows) c.in_err-clobbers.ensures.grows

pub returns-clause-grows : goal.returns-clause-grows
returns-clause-grows c =
    extends_trans c.args.book.now c.has_all.new.book c.clobbers.new.book
    (extends_trans c.args.book.now c.step_words.new.book c.has_all.new.book c.in_ok-words.ensures.grows c.in_ok-ok.ensures.grows) c.in_ok-clobbers.ensures.grows

pub returns-clause-plain : goal.returns-clause-plain
returns-clause-plain c =
    let grows = c.in_ok-words.ensures.grows in
    let can = keep_told c.args.machine.now.checked.now.netlist c.step_words.new.book c.args.machine.now.pool.now c.args.machine.now.patterns.now
    (ready_later c.args.machine.now.checked.now.netlist c.args.book.now c.step_words.new.book c.args.machine.now.pool.now c.args.machine.now.patterns.now grows c.requires.ready)
    c.args.ids (ids_later c.args.machine.now.checked.now.netlist c.args.book.now c.step_words.new.book c.args.machine.now.pool.now c.args.ids grows c.requires.ids)
    0 c.in_ok-words.words c.in_ok-words.ensures.words c.in_ok-ok.ok c.in_ok-ok.ensures.all in
    let apt = c.is_apt.ensures.0 c.if-not-is_apt.false in
    (record { linear = apt.linear; shapes = apt.shapes; cells = apt.cells; ok = can.0 c.if-not-ok.false }, c.in_ok-clobbers.ensures.clobbers)

pub is_apt-requires-clause-addr : goal.is_apt-requires-clause-addr
is_apt-requires-clause-addr c = c.requires.ids.addr

pub is_apt-requires-clause-value : goal.is_apt-requires-clause-value
is_apt-requires-clause-value c = c.requires.ids.value

pub is_apt-requires-clause-exprs : goal.is_apt-requires-clause-exprs
is_apt-requires-clause-exprs c = c.requires.ids.exprs

pub step_words-requires-clause-ready : goal.step_words-requires-clause-ready
step_words-requires-clause-ready c = c.requires.ready

pub step_words-requires-clause-ids : goal.step_words-requires-clause-ids
step_words-requires-clause-ids c = c.requires.ids

pub returns-in_err-words-clause-grows : goal.returns-in_err-words-clause-grows
returns-in_err-words-clause-grows c = c.step_words.ensures.grows

pub returns-in_err-words-clause-plain : goal.returns-in_err-words-clause-plain
returns-in_err-words-clause-plain c = IfOk-from_err c.from_residual.result _ c.from_residual.ensures.0

pub returns-in_err-ok-clause-plain : goal.returns-in_err-ok-clause-plain
returns-in_err-ok-clause-plain c = IfOk-from_err c.from_residual-in_err-ok.result _ c.from_residual-in_err-ok.ensures.0

pub returns-in_err-clobbers-clause-plain : goal.returns-in_err-clobbers-clause-plain
returns-in_err-clobbers-clause-plain c = IfOk-from_err c.from_residual-in_err-clobbers.result _ c.from_residual-in_err-clobbers.ensures.0

pub has_all-requires-clause-set : goal.has_all-requires-clause-set
has_all-requires-clause-set c = c.in_ok-words.ensures.words.within
