use Rattle.std.proofs.Common.{◌∙◌, ◌<◌, ◌≤◌, ◌^◌, ℕ, length, subst, sym, arith}
use Rattle.std.proofs.lemmas.Result.{IfOk-weaker}
use Rattle.bit_bdd.specs.Diagrams.{has_word}
use Rattle.nop_synth.specs.Wanted.{AllBelow}
use Rattle.asm_words.proofs.Bits.{fit_wider}
use Rattle.asm_words.proofs.Told.{sets_below, told}
use Rattle.asm_words.proofs.asking.doing.Goals as goal

pub fields_of-requires : goal.fields_of-requires
fields_of-requires c =
    let most : c.args.book.now.bits ≤ 64 = omega (arith, c.bits-width.ensures.bits, c.bits-width.ensures.most) in
    fit_wider c.args.book.now.bits most c.args.items.now c.requires.items

pub words_held-requires-clause-sets : goal.words_held-requires-clause-sets
words_held-requires-clause-sets c =
    let some : 0 < length c.args.book.now.nodes = omega (arith, c.size.ensures.size, c.size.ensures.both) in
    subst (AllBelow c.args.book.now) (sym (c.as_slice.ensures ∙ c.in_ok-sets.ensures)) (sets_below c.args.book.now c.args.patterns.now c.requires.sets some c.args.numbers.now c.args.storages)

pub returns-clause-words : goal.returns-clause-words
returns-clause-words c =
    IfOk-weaker c.words_held.result _ _
    (λ id held. λ netlist pool ready word lt.
    told netlist c.args.book.now pool c.args.patterns.now ready c.size.ensures.empty c.args.numbers.now c.args.items.now c.args.storages c.requires.some c.requires.storages c.requires.items word lt
    c.as_slice.result.now c.as_slice-2.result.now (c.as_slice.ensures ∙ c.in_ok-sets.ensures) (c.as_slice-2.ensures ∙ c.in_ok-fields.ensures)
    (has_word c.words_held.new.book id word) (has_word c.args.book.now 1 word)
    (held word (subst (λ (n : ℕ). word < 2 ^ n) (sym c.bits-width.ensures.bits) lt))
    (c.size.ensures.full word))
    c.words_held.ensures.words
