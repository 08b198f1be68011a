use Rattle.std.proofs.Common.{◌≡◌, ℕ, ◌+◌, ◌^◌, ◌<◌, ◌≤◌, ◌||◌, inl, inr, false, leb, ltb, sym, ap, ◌∙◌, arith}
use Rattle.std.proofs.lemmas.Bool.{leb-true, le-leb, cases_lt}
use Rattle.std.proofs.lemmas.Bool.Decides.{nat_tests, same_from_decides}
use Rattle.std.proofs.Math.Pow.{pow_mono, pow-lt}
use Rattle.src_check.proofs.walk.out_of_order.Goals as goal

back : (w : ℕ) → 2 ^ w ≤ 2 ^ 64 → w ≤ 64
back w h = elim (cases_lt 64 w) [ inl more ↦ (let p : 2 ^ 64 < 2 ^ w = pow-lt more in absurd (omega (arith, p, h))) | inr k ↦ k ]

at_the_end : (word from to : ℕ) → to < 2 ^ 64 → from < 2 ^ 64 → (to + 1 < 2 ^ 64 → ⊥) → leb word 64 ≡ (ltb (to + 1) from || leb (2 ^ word) (to + 1))
at_the_end word from to h k n =
    let last : to + 1 ≡ 2 ^ 64 = omega (arith, h, n) in
    let ordered : ltb (to + 1) from ≡ false = grind (arith, nat_tests, last, k) in
    let same : leb word 64 ≡ leb (2 ^ word) (to + 1) = same_from_decides {P = word ≤ 64} _ _
    (leb-true word 64, le-leb word 64)
    (λ e. (let l = leb-true (2 ^ word) (to + 1) e in back word (omega (arith, l, last))), λ l. (let p : 2 ^ word ≤ 2 ^ 64 = pow_mono l in le-leb (2 ^ word) (to + 1) (omega (arith, p, last)))) in
    same ∙ ap (λ b. b || leb (2 ^ word) (to + 1)) (sym ordered)

pub returns-in-None : goal.returns-in-None
returns-in-None c = at_the_end c.args.word c.args.from c.args.to (omega arith) (omega arith) c.in-None.ensures
