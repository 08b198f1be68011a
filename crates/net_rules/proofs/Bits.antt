-- When so many bits hold a number.
use Rattle.std.proofs.Common.{ℕ, ◌≡◌, ◌+◌, ◌*◌, ◌/◌, ◌^◌, ◌<◌, ◌≤◌, true, inl, inr, sym, ◌∙◌, arith}
use Rattle.std.proofs.Math.Dec.{leb, eqb}
use Rattle.std.proofs.Math.Nat.{pow-le-pow_right, div-eq_of_lt, div-lt_iff_lt-mul}
use Rattle.std.proofs.lemmas.Nat.{pow_pos}
use Rattle.std.proofs.lemmas.Bool.{le-leb, eq-eqb, ne_eqb}
use Rattle.std.proofs.lemmas.Bool.Decides.{leb_tells}

pub fits_wide : (n width : ℕ) → n < 2 ^ 64 → 64 ≤ width → leb (n + 1) (2 ^ width) ≡ true
fits_wide n width h w =
    let two : 0 < 2 = omega arith in
    let p : 2 ^ 64 ≤ 2 ^ width = pow-le-pow_right two w in
    le-leb (n + 1) (2 ^ width) (omega (arith, h, p))

pub fits_shifted : (n width : ℕ) → eqb (n / 2 ^ width) 0 ≡ leb (n + 1) (2 ^ width)
fits_shifted n width =
    elim (leb_tells (n + 1) (2 ^ width)) [
      | inl t ↦ let l : n < 2 ^ width = omega (arith, t.1) in eq-eqb (n / 2 ^ width) 0 (div-eq_of_lt l) ∙ sym t.0
      | inr f ↦
          let back = (div-lt_iff_lt-mul {k = 2 ^ width} {x = n} {y = 1} (pow_pos width)).0 in
          ne_eqb (n / 2 ^ width) 0 (λ e. let l : n / 2 ^ width < 1 = omega (arith, e) in let m : n < 1 * 2 ^ width = back l in omega (arith, m, f.1)) ∙ sym f.0
    ]
