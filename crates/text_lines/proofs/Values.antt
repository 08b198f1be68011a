-- Values of numbers.
use Rattle.std.proofs.Common.{◌≡◌, drop-cons, get_or, false, ℕ, suc, ◌+◌, ◌-◌, ◌*◌, ◌≤◌, ◌<◌, List, [], ◌∷◌, length, drop, None, sym, ap, ◌∙◌, arith}
use Rattle.std.proofs.lemmas.Bool.{le-ltb}
use Rattle.lexing.proofs.Values.{below_2_64-at}
use Rattle.lexing.specs.Numbers.{below_2_64}
use Rattle.text_lines.specs.Fields.{decimal_from}

value_from-grows : (n : ℕ) (ds : List ℕ) → n ≤ decimal_from n ds
value_from-grows n [] = omega arith
value_from-grows n (d ∷ ds) = omega (arith, value_from-grows (10 * n + (d - 48)) ds)

-- where the next digit makes the number too great
pub overflows : (s : List ℕ) (i n all : ℕ) → i < length s → decimal_from n (drop i s) ≡ all → 18446744073709551616 ≤ 10 * n + (get_or s i 0 - 48) → None ≡ below_2_64 all
overflows s i n all lt e h =
    let parts : drop i s ≡ get_or s i 0 ∷ drop (suc i) s = drop-cons s i 0 lt in
    let next = 10 * n + (get_or s i 0 - 48) in
    let same : decimal_from next (drop (suc i) s) ≡ all = sym (ap (λ ds. decimal_from n ds) parts) ∙ e in
    let great : 18446744073709551616 ≤ all = omega (arith, value_from-grows next (drop (suc i) s), same) in
    sym (below_2_64-at all false (le-ltb all 18446744073709551616 great))
