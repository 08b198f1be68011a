use Rattle.std.proofs.Common.{◌∙◌, ◌≡◌, ℕ, List, Bor, subst, sym, arith, length}
use Rattle.asm_text.specs.Inner.Numbers.{HasNumbers}
use Rattle.asm_text.proofs.Numbered.{none_yet, one_more}
use Rattle.asm_text.proofs.Split.{text_at}
use Rattle.asm_text.proofs.table.numbered.Goals as goal

pub loop-number-init : goal.loop-number-init
loop-number-init c =
    subst (λ (entries : List (Bor (List ℕ) × ℕ)). HasNumbers entries c.args.texts.now 0) (sym c.new-numbers.ensures.empty) (none_yet c.args.texts.now)

pub loop-number-preserved : goal.loop-number-preserved
loop-number-preserved c =
    let i = c.loop-number.number in
    let is = text_at c.args.texts.now i c.index-texts-number.result c.loop-number-test.true ∙ sym c.index-texts-number.is ∙ sym c.as_slice.ensures in
    one_more c.loop-number.numbers.entries c.insert.new.self.entries c.args.texts.now i c.as_slice.result.now is
    (λ name. c.in_ok-insert.ensures.updates.0 (record c.as_slice.result { now = name })) c.loop-number.invariant

pub invariant_of-result : goal.invariant_of-result
invariant_of-result c =
    let all : c.loop-number.number ≡ length c.args.texts.now = omega (arith, c.loop-number-test.false, c.loop-number.auto.number-end) in
    subst (HasNumbers c.loop-number.numbers.entries c.args.texts.now) all c.loop-number.invariant
