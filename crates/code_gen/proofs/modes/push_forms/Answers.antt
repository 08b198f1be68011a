use Rattle.std.proofs.Common.{◌∙◌, arith}
use Rattle.std.proofs.lemmas.Option.{slice_get-get_or}
use Rattle.code_gen.proofs.ByMode.{base_within, books_long, forms_moded, forms_plain, patterns_below, ready_at, ready_set}
use Rattle.code_gen.proofs.Held.{read}
use Rattle.code_gen.proofs.modes.push_forms.Goals as goal

-- each mode has its book
pub bounds-books-mode : goal.bounds-books-mode
bounds-books-mode c =
    let long = books_long c.args.machines.now c.args.books.now c.requires.ready in
    let within = c.requires.within in
    omega (arith, long, within)

pub forms-requires : goal.forms-requires
forms-requires c =
    let long = books_long c.args.machines.now c.args.books.now c.requires.ready in
    let within = c.requires.within in
    record {
      ready =
          (ready_at c.args.machines.now c.args.books.now c.args.mode c.index-machines-mode.result _ c.requires.ready
          (read c.args.machines.now c.args.mode c.index-machines-mode.result within c.index-machines-mode.is)
          (slice_get-get_or c.args.books.now c.args.mode c.index-books-mode.result (omega (arith, long, within)))).ready;
    }

pub returns-in_err-all-clause-ready : goal.returns-in_err-all-clause-ready
returns-in_err-all-clause-ready c =
    ready_set c.args.machines.now c.args.books.now c.args.mode c.index-machines-mode.result c.forms.new.book c.requires.ready
    (read c.args.machines.now c.args.mode c.index-machines-mode.result c.requires.within c.index-machines-mode.is) c.forms.ensures.ready

pub returns-in_default-clause-forms : goal.returns-in_default-clause-forms
returns-in_default-clause-forms c =
    forms_plain c.args.netlist.now c.args.machines.now c.requires.machines c.args.list.now _ c.in_ok-all.all c.args.mode c.requires.forms c.index-machines-mode.result
    (read c.args.machines.now c.args.mode c.index-machines-mode.result c.requires.within c.index-machines-mode.is) c.in_default.is c.in_ok-push.ensures.items
    c.in_ok-all.ensures.forms c.in_ok-all.ensures.file

pub keeping-requires-clause-mode : goal.keeping-requires-clause-mode
keeping-requires-clause-mode c =
    base_within c.args.netlist.now c.requires.rules c.args.machines.now c.requires.machines c.in-Some.register c.in-Some.is c.args.mode c.index-machines-mode.result
    (read c.args.machines.now c.args.mode c.index-machines-mode.result c.requires.within c.index-machines-mode.is)

pub keeping-requires-clause-patterns : goal.keeping-requires-clause-patterns
keeping-requires-clause-patterns c =
    patterns_below c.index-machines-mode.result.machine.checked.now.netlist c.index-machines-mode.result.machine.pool.now c.index-machines-mode.result.machine.patterns.now.rows c.in_ok-all.all.reach c.in_ok-all.all.list.items
    c.in_ok-all.ensures.forms

pub returns-in_err-kept-clause-ready : goal.returns-in_err-kept-clause-ready
returns-in_err-kept-clause-ready c =
    ready_set c.args.machines.now c.args.books.now c.args.mode c.index-machines-mode.result c.keeping.new.book c.requires.ready
    (read c.args.machines.now c.args.mode c.index-machines-mode.result c.requires.within c.index-machines-mode.is) c.keeping.ensures.ready

pub returns-in_err-push-2-clause-ready : goal.returns-in_err-push-2-clause-ready
returns-in_err-push-2-clause-ready c =
    ready_set c.args.machines.now c.args.books.now c.args.mode c.index-machines-mode.result c.keeping.new.book c.requires.ready
    (read c.args.machines.now c.args.mode c.index-machines-mode.result c.requires.within c.index-machines-mode.is) c.keeping.ensures.ready

pub returns-in_err-push-3-clause-ready : goal.returns-in_err-push-3-clause-ready
returns-in_err-push-3-clause-ready c =
    ready_set c.args.machines.now c.args.books.now c.args.mode c.index-machines-mode.result c.keeping.new.book c.requires.ready
    (read c.args.machines.now c.args.mode c.index-machines-mode.result c.requires.within c.index-machines-mode.is) c.keeping.ensures.ready

pub returns-clause-ready : goal.returns-clause-ready
returns-clause-ready c =
    ready_set c.args.machines.now c.args.books.now c.args.mode c.index-machines-mode.result c.keeping.new.book c.requires.ready
    (read c.args.machines.now c.args.mode c.index-machines-mode.result c.requires.within c.index-machines-mode.is) c.keeping.ensures.ready

pub returns-clause-forms : goal.returns-clause-forms
returns-clause-forms c =
    forms_moded c.args.netlist.now c.args.machines.now c.requires.machines c.args.list.now _ c.in_ok-all.all c.in_ok-kept.kept c.args.mode c.requires.forms c.index-machines-mode.result
    (read c.args.machines.now c.args.mode c.index-machines-mode.result c.requires.within c.index-machines-mode.is) c.in-Some.register c.in-Some.is c.in_ok-push-2.ensures.items c.in_ok-push-3.ensures.items
    c.in_ok-all.ensures.forms c.in_ok-kept.ensures.kept c.in_ok-kept.ensures.reach (c.in_ok-kept.ensures.file ∙ c.in_ok-all.ensures.file)
