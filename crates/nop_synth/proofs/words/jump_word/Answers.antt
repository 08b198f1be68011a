use Rattle.std.proofs.Common.{arith}
use Rattle.std.proofs.lemmas.Grind.{elements}
use Rattle.std.proofs.Common.{◌∙◌, sym, ap, subst, ◌∷◌, []}
use Rattle.form_model.specs.Live.{regs_of}
use Rattle.net_model.specs.Nets.{word_width}
use Rattle.transfer_set.proofs.ReadyLaws.{ready_later}
use Rattle.nop_synth.specs.declared.meet.FieldValue.{FieldValue}
use Rattle.nop_synth.specs.Wanted.{AllBelow}
use Rattle.nop_synth.proofs.Asked.{jumps_below}
use Rattle.nop_synth.proofs.Found.{jump_found}
use Rattle.nop_synth.proofs.words.jump_word.Goals as goal

pub returns-in_err-fitting-clause-ready : goal.returns-in_err-fitting-clause-ready
returns-in_err-fitting-clause-ready c =
    ready_later c.args.machine.now.checked.now.netlist c.args.book.now c.words_held.new.book c.args.machine.now.pool.now c.args.machine.now.patterns.now c.in_err-fitting.ensures.grows c.requires.ready

pub returns-clause-ready : goal.returns-clause-ready
returns-clause-ready c =
    ready_later c.args.machine.now.checked.now.netlist c.args.book.now c.words_held.new.book c.args.machine.now.pool.now c.args.machine.now.patterns.now c.in_ok-fitting.ensures.grows c.requires.ready

pub returns-clause-word : goal.returns-clause-word
returns-clause-word c =
    jump_found c.args.machine.now.checked.now.netlist c.args.machine.now.checked.now.order c.netlist.ensures.kept c.args.book.now c.words_held.new.book c.args.machine.now.pool.now c.args.machine.now.patterns.now c.requires.ready c.size.ensures.empty c.in_ok-fitting.ensures.grows
    c.args.step (regs_of c.args.kept) c.set_of-set.result c.in_ok-fitting.fitting c.word_width-width.result c.as_slice.result.now (c.field_of.result ∷ []) c.least.result
    (c.requires.ready.bits ∙ sym (c.word_width-width.ensures ∙ ap word_width c.netlist.ensures.value)) c.set_of-set.ensures (c.as_slice.ensures ∙ c.in_ok-sets.ensures) (ap (λ (k : FieldValue). k ∷ []) c.field_of.ensures)
    c.in_ok-fitting.ensures.words
    (record { within = c.least.ensures.within; some = c.least.ensures.some; least = c.least.ensures.least; none = c.least.ensures.none })

pub words_held-requires-clause-set : goal.words_held-requires-clause-set
words_held-requires-clause-set c = grind (arith, elements)

pub words_held-requires-clause-sets : goal.words_held-requires-clause-sets
words_held-requires-clause-sets c =
    subst (λ z. AllBelow c.args.book.now z) (sym (c.as_slice.ensures ∙ c.in_ok-sets.ensures))
    (jumps_below c.args.machine.now.checked.now.netlist c.args.machine.now.checked.now.order c.netlist.ensures.kept c.args.book.now c.args.machine.now.pool.now c.args.machine.now.patterns.now c.requires.ready c.size.ensures.empty (regs_of c.args.kept))
