-- Values of numbers.
use Rattle.std.proofs.Common.{◌≡◌, drop-cons, get_or, false, ℕ, suc, ◌+◌, ◌*◌, ◌≤◌, ◌<◌, List, [], ◌∷◌, length, drop, Bool, cond, Some, None, sym, ap, ◌∙◌, arith}
use Rattle.std.proofs.lemmas.Bool.{le-ltb}
use Rattle.std.specs.Prelude.{nat_lt}
use Rattle.lexing.specs.Numbers.{digit_value, value_from, below_2_64}

scaled : (base n : ℕ) → 0 < base → n ≤ base * n
scaled base n h = grind arith

value_from-grows : (base n : ℕ) (ds : List ℕ) → 0 < base → n ≤ value_from base n ds
value_from-grows base n [] h = omega arith
value_from-grows base n (d ∷ ds) h = omega (arith, scaled base n h, value_from-grows base (base * n + digit_value d) ds h)

pub below_2_64-at : (n : ℕ) (test : Bool) → nat_lt n 18446744073709551616 ≡ test → below_2_64 n ≡ cond test (Some n) None
below_2_64-at n test e = ap (λ t. cond t (Some n) None) e

-- where the next digit makes the number too great
pub overflows : (base : ℕ) (s : List ℕ) (i n all : ℕ) → 0 < base → i < length s → value_from base n (drop i s) ≡ all → 18446744073709551616 ≤ base * n + digit_value (get_or s i 0) → None ≡ below_2_64 all
overflows base s i n all some lt e h =
    let parts : drop i s ≡ get_or s i 0 ∷ drop (suc i) s = drop-cons s i 0 lt in
    let next = base * n + digit_value (get_or s i 0) in
    let same : value_from base next (drop (suc i) s) ≡ all = sym (ap (λ ds. value_from base n ds) parts) ∙ e in
    let great : 18446744073709551616 ≤ all = omega (arith, value_from-grows base next (drop (suc i) s) some, same) in
    sym (below_2_64-at all false (le-ltb all 18446744073709551616 great))
