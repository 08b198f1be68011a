use Rattle.std.proofs.Common.{◌∙◌, ◌&&◌, ◌<◌, ◌-◌, ◌^◌, ℕ, [], ◌∷◌, ap, subst, sym}
use Rattle.std.proofs.lemmas.Result.{IfOk-weaker}
use Rattle.bit_bdd.specs.Diagrams.{has_word}
use Rattle.nop_synth.specs.Wanted.{has_fields}
use Rattle.asm_words.proofs.Bits.{own_told}
use Rattle.asm_words.proofs.asking.one_word.Goals as goal

pub returns-clause-words : goal.returns-clause-words
returns-clause-words c =
    let book = c.args.book.now in
    let all_bits = c.mask.ensures ∙ ap (λ (n : ℕ). 2 ^ n - 1) c.bits-width.ensures.bits in
    IfOk-weaker c.words_held.result _ _
    (λ id held. λ word lt.
    own_told book.bits word c.args.own lt (has_word c.words_held.new.book id word) (has_word book 1 word)
    (held word (subst (λ (n : ℕ). word < 2 ^ n) (sym c.bits-width.ensures.bits) lt)
    ∙ ap (λ (m : ℕ). has_word book 1 word && has_fields (record { mask = m; value = c.args.own } ∷ []) word) all_bits)
    (c.size.ensures.full word))
    c.words_held.ensures.words
