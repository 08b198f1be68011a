use Rattle.std.proofs.lemmas.Result.{IfOk-from_err}
use Rattle.std.proofs.Common.{ℕ, ap, ◌∙◌, sym, arith}
use Rattle.std.specs.Prelude.{bit_or}
use Rattle.bit_bdd.proofs.CallerLemmas.{extends_trans, extends_refl}
use Rattle.net_model.proofs.KeptRules.{few_storages}
use Rattle.form_set.specs.Inner.PatternIds.{pattern_in}
use Rattle.form_set.specs.Words.{KeepsOthers}
use Rattle.form_set.proofs.Chosen.{fails_is, joins_is, keep_told, more_set, none_is}
use Rattle.form_set.proofs.Holding.{ids_later, set_later}
use Rattle.transfer_set.proofs.ReadyLaws.{ready_later}
use Rattle.form_set.proofs.words.joined.Goals as goal

pub one-requires : goal.one-requires
one-requires c = omega (arith, c.requires.id, few_storages c.args.machine.now.checked.now.netlist c.args.machine.now.checked.now.order c.netlist-netlist.ensures.kept)

pub and-requires-clause-a : goal.and-requires-clause-a
and-requires-clause-a c = c.requires.words.within

pub has_all-requires-clause-set : goal.has_all-requires-clause-set
has_all-requires-clause-set c = c.in_ok-words.ensures.within

pub returns-then-ok-clause-words : goal.returns-then-ok-clause-words
returns-then-ok-clause-words c =
    let netlist = c.args.machine.now.checked.now.netlist in
    let p = pattern_in c.args.machine.now c.args.ids in
    let registers : ℕ = bit_or c.args.kept.registers c.one.result in
    set_later c.and.new.self c.has_all.new.book (KeepsOthers netlist p registers) c.in_ok-words.words c.in_ok-ok.ensures.grows
    (more_set netlist c.args.book.now c.and.new.self c.args.machine.now.pool.now c.args.machine.now.patterns.now c.requires.ready p
    c.args.kept.registers c.args.kept.words c.requires.words c.args.id c.requires.id c.one.result c.one.ensures c.keep_of.result c.keep_of.ensures
    c.in_ok-words.words c.in_ok-words.ensures.grows c.in_ok-words.ensures.within c.in_ok-words.ensures.words)

pub returns-else-ok-clause-words : goal.returns-else-ok-clause-words
returns-else-ok-clause-words c =
    set_later c.args.book.now c.has_all.new.book (KeepsOthers c.args.machine.now.checked.now.netlist (pattern_in c.args.machine.now c.args.ids) c.args.kept.registers)
    c.args.kept.words (extends_trans c.args.book.now c.and.new.self c.has_all.new.book c.in_ok-words.ensures.grows c.in_ok-ok.ensures.grows) c.requires.words

pub returns-then-ok-clause-joins : goal.returns-then-ok-clause-joins
returns-then-ok-clause-joins c =
    let netlist = c.args.machine.now.checked.now.netlist in
    let pool = c.args.machine.now.pool.now in
    let table = c.args.machine.now.patterns.now in
    let p = pattern_in c.args.machine.now c.args.ids in
    let registers : ℕ = bit_or c.args.kept.registers c.one.result in
    let grows = c.in_ok-words.ensures.grows in
    let kept = more_set netlist c.args.book.now c.and.new.self pool table c.requires.ready p
    c.args.kept.registers c.args.kept.words c.requires.words c.args.id c.requires.id c.one.result c.one.ensures c.keep_of.result c.keep_of.ensures
    c.in_ok-words.words grows c.in_ok-words.ensures.within c.in_ok-words.ensures.words in
    let can = keep_told netlist c.and.new.self pool table (ready_later netlist c.args.book.now c.and.new.self pool table grows c.requires.ready)
    c.args.ids (ids_later netlist c.args.book.now c.and.new.self pool c.args.ids grows c.requires.ids)
    registers c.in_ok-words.words kept c.in_ok-ok.ok c.in_ok-ok.ensures.all in
    joins_is netlist p c.args.id c.args.kept.registers registers c.in_ok-ok.ok
    (sym c.is_register.ensures ∙ c.if-not-is_register.false) (ap (bit_or c.args.kept.registers) c.one.ensures) can c.if-ok.true

pub returns-else-ok-clause-joins : goal.returns-else-ok-clause-joins
returns-else-ok-clause-joins c =
    let netlist = c.args.machine.now.checked.now.netlist in
    let pool = c.args.machine.now.pool.now in
    let table = c.args.machine.now.patterns.now in
    let p = pattern_in c.args.machine.now c.args.ids in
    let registers : ℕ = bit_or c.args.kept.registers c.one.result in
    let grows = c.in_ok-words.ensures.grows in
    let kept = more_set netlist c.args.book.now c.and.new.self pool table c.requires.ready p
    c.args.kept.registers c.args.kept.words c.requires.words c.args.id c.requires.id c.one.result c.one.ensures c.keep_of.result c.keep_of.ensures
    c.in_ok-words.words grows c.in_ok-words.ensures.within c.in_ok-words.ensures.words in
    let can = keep_told netlist c.and.new.self pool table (ready_later netlist c.args.book.now c.and.new.self pool table grows c.requires.ready)
    c.args.ids (ids_later netlist c.args.book.now c.and.new.self pool c.args.ids grows c.requires.ids)
    registers c.in_ok-words.words kept c.in_ok-ok.ok c.in_ok-ok.ensures.all in
    fails_is netlist p c.args.id c.args.kept.registers registers c.in_ok-ok.ok
    (sym c.is_register.ensures ∙ c.if-not-is_register.false) (ap (bit_or c.args.kept.registers) c.one.ensures) can c.if-ok.false

pub returns-then-not-is_register-clause-joins : goal.returns-then-not-is_register-clause-joins
returns-then-not-is_register-clause-joins c =
    none_is c.args.machine.now.checked.now.netlist (pattern_in c.args.machine.now c.args.ids) c.args.id c.args.kept.registers (sym c.is_register.ensures ∙ c.if-not-is_register.true)

pub returns-then-not-is_register-clause-grows : goal.returns-then-not-is_register-clause-grows
returns-then-not-is_register-clause-grows c = extends_refl c.args.book.now

pub returns-then-not-is_register-clause-words : goal.returns-then-not-is_register-clause-words
returns-then-not-is_register-clause-words c = c.requires.words

pub returns-in_err-words-clause-grows : goal.returns-in_err-words-clause-grows
returns-in_err-words-clause-grows c = c.and.ensures.grows

pub returns-in_err-ok-clause-grows : goal.returns-in_err-ok-clause-grows
returns-in_err-ok-clause-grows c = extends_trans c.args.book.now c.and.new.self c.has_all.new.book c.in_ok-words.ensures.grows c.has_all.ensures.grows

pub returns-then-ok-clause-grows : goal.returns-then-ok-clause-grows
returns-then-ok-clause-grows c = extends_trans c.args.book.now c.and.new.self c.has_all.new.book c.in_ok-words.ensures.grows c.has_all.ensures.grows

pub returns-else-ok-clause-grows : goal.returns-else-ok-clause-grows
returns-else-ok-clause-grows c = extends_trans c.args.book.now c.and.new.self c.has_all.new.book c.in_ok-words.ensures.grows c.has_all.ensures.grows

pub returns-in_err-words-clause-words : goal.returns-in_err-words-clause-words
returns-in_err-words-clause-words c = IfOk-from_err c.from_residual.result _ c.from_residual.ensures.0

pub returns-in_err-words-clause-joins : goal.returns-in_err-words-clause-joins
returns-in_err-words-clause-joins c = IfOk-from_err c.from_residual.result _ c.from_residual.ensures.0

pub returns-in_err-ok-clause-words : goal.returns-in_err-ok-clause-words
returns-in_err-ok-clause-words c = IfOk-from_err c.from_residual-in_err-ok.result _ c.from_residual-in_err-ok.ensures.0

pub returns-in_err-ok-clause-joins : goal.returns-in_err-ok-clause-joins
returns-in_err-ok-clause-joins c = IfOk-from_err c.from_residual-in_err-ok.result _ c.from_residual-in_err-ok.ensures.0
