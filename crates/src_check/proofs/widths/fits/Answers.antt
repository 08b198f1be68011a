use Rattle.std.proofs.Common.{◌/◌, ◌^◌, ◌<◌, ◌≤◌, eq-eqb, sym, ◌∙◌, arith, lit<}
use Rattle.std.proofs.lemmas.Bool.{le-leb, lt-ltb, eqb-true}
use Rattle.std.proofs.lemmas.Bool.Decides.{same_from_decides, Decides-ltb}
use Rattle.std.proofs.lemmas.Nat.{pow_pos}
use Rattle.std.proofs.Math.Nat.{pow-le-pow_right, div-lt_iff_lt-mul, div-eq_of_lt}
use Rattle.src_check.proofs.widths.fits.Goals as goal

pub returns-then-width-ge64 : goal.returns-then-width-ge64
returns-then-width-ge64 c =
    let p : 2 ^ 64 ≤ 2 ^ c.args.width = pow-le-pow_right (lit< tt) c.if-width-ge64.true in
    let n : c.args.n < 2 ^ 64 = omega arith in
    le-leb 64 c.args.width c.if-width-ge64.true ∙ sym (lt-ltb c.args.n (2 ^ c.args.width) (omega (arith, p, n)))

pub returns-else-width-ge64 : goal.returns-else-width-ge64
returns-else-width-ge64 c =
    let iff = div-lt_iff_lt-mul {k = 2 ^ c.args.width} {x = c.args.n} {y = 1} (pow_pos c.args.width) in
    same_from_decides {P = c.args.n < 2 ^ c.args.width} _ _ (
      λ e. (let z = eqb-true (c.args.n / 2 ^ c.args.width) 0 e in let k = iff.0 (omega (arith, z)) in omega (arith, k)),
      λ h. eq-eqb (c.args.n / 2 ^ c.args.width) 0 (div-eq_of_lt h),
    )
    (Decides-ltb c.args.n (2 ^ c.args.width))
