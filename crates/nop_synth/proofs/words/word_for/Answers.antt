use Rattle.std.proofs.Common.{◌∙◌, sym, ap, subst}
use Rattle.form_model.specs.Live.{group_writes, regs_of}
use Rattle.word_fit.specs.Fits.{group_stores}
use Rattle.word_fit.specs.Steps.{step_operation}
use Rattle.net_model.specs.Nets.{word_width}
use Rattle.transfer_set.proofs.ReadyLaws.{ready_later}
use Rattle.nop_synth.specs.Wanted.{AllBelow}
use Rattle.nop_synth.proofs.Asked.{sets_below}
use Rattle.nop_synth.proofs.Found.{group_found}
use Rattle.nop_synth.proofs.words.word_for.Goals as goal

pub words_held-requires-clause-sets : goal.words_held-requires-clause-sets
words_held-requires-clause-sets c =
    subst (λ z. AllBelow c.args.book.now z) (sym (c.as_slice.ensures ∙ c.in_ok-sets.ensures))
    (sets_below c.args.machine.now.checked.now.netlist c.args.machine.now.checked.now.order c.netlist.ensures.kept c.args.book.now c.args.machine.now.pool.now c.args.machine.now.patterns.now c.requires.ready c.size.ensures.empty c.args.group.now (regs_of c.args.live)
    (λ space. group_stores space (step_operation c.args.machine.now.pool.now c.args.machine.now.patterns.now) c.args.group.now) (group_writes (step_operation c.args.machine.now.pool.now c.args.machine.now.patterns.now) c.args.group.now))

pub returns-in_err-fitting-clause-ready : goal.returns-in_err-fitting-clause-ready
returns-in_err-fitting-clause-ready c =
    ready_later c.args.machine.now.checked.now.netlist c.args.book.now c.words_held.new.book c.args.machine.now.pool.now c.args.machine.now.patterns.now c.in_err-fitting.ensures.grows c.requires.ready

pub returns-clause-ready : goal.returns-clause-ready
returns-clause-ready c =
    ready_later c.args.machine.now.checked.now.netlist c.args.book.now c.words_held.new.book c.args.machine.now.pool.now c.args.machine.now.patterns.now c.in_ok-fitting.ensures.grows c.requires.ready

pub returns-clause-word : goal.returns-clause-word
returns-clause-word c =
    group_found c.args.machine.now.checked.now.netlist c.args.machine.now.checked.now.order c.netlist.ensures.kept c.args.book.now c.words_held.new.book c.args.machine.now.pool.now c.args.machine.now.patterns.now c.requires.ready c.size.ensures.empty c.in_ok-fitting.ensures.grows
    c.args.group.now (regs_of c.args.live) c.step_set.result c.in_ok-fitting.fitting c.word_width-width.result c.as_slice.result.now c.as_slice-2.result.now c.least.result
    (c.requires.ready.bits ∙ sym (c.word_width-width.ensures ∙ ap word_width c.netlist.ensures.value)) c.step_set.ensures (c.as_slice.ensures ∙ c.in_ok-sets.ensures) (c.as_slice-2.ensures ∙ c.in_ok-fields.ensures)
    c.in_ok-fitting.ensures.words
    (record { within = c.least.ensures.within; some = c.least.ensures.some; least = c.least.ensures.least; none = c.least.ensures.none })
