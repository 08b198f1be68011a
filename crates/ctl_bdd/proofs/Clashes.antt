-- Words under which two drivers of a bus are enabled.
use Rattle.std.proofs.Common.{◌≡◌, ℕ, ◌+◌, ◌<◌, ◌==◌, ◌&&◌, ◌||◌, not, nat_lt, cond, Bool, true, false, List, [], ◌∷◌, length, drop, get_or, refl, sym, ap, ◌∙◌, arith, add-one}
use mathlib.Core.Path.{fun_ext}
use Rattle.std.specs.List.{list_any}
use Rattle.std.proofs.Math.Seq.{drop-cons}
use Rattle.std.proofs.lemmas.Bool.Decides.{nat_tests}
use Rattle.rec_bits.specs.Operators.{bit_of}
use Rattle.net_model.specs.Clock.{enabled_count}
use Rattle.bit_bdd.specs.Diagrams.{Diagrams, has_word, Extends}
use Rattle.ctl_bdd.specs.Bits.{number_at}
use Rattle.ctl_bdd.specs.Tables.{IsBitTable, numbers_at, sets_at}
use Rattle.ctl_bdd.proofs.Sets.{number_later}
use Rattle.ctl_bdd.proofs.Numbers.{number_one}

-- one driver more, where those before it and it are enabled or not, and of those after it so many
pub clash_step : (l s d : Bool) (n : ℕ) → ((l && not (s && d)) && not (nat_lt 1 (bit_of (s || d) + n))) ≡ (l && not (nat_lt 1 (bit_of s + (bit_of d + n))))
clash_step false s d n = refl
clash_step true true true n = let e : nat_lt 1 (1 + (1 + n)) ≡ true = grind (arith, nat_tests) in sym (ap not e)
clash_step true true false n = let e : 1 + n ≡ 1 + (0 + n) = omega arith in ap (λ k. not (nat_lt 1 k)) e
clash_step true false true n = let e : 1 + n ≡ 0 + (1 + n) = omega arith in ap (λ k. not (nat_lt 1 k)) e
clash_step true false false n = let e : 0 + n ≡ 0 + (0 + n) = omega arith in ap (λ k. not (nat_lt 1 k)) e

-- a driver counts where the word lies in its enable's set
pub counted : (book : Diagrams) (set word : ℕ) → bit_of (has_word book set word) ≡ cond (number_at book (set ∷ []) word == 1) 1 0
counted book set word = by (has_word book set word) ∙ ap (λ n. cond (n == 1) 1 0) (sym (number_one book set word))
  where
    by : (b : Bool) → bit_of b ≡ cond (bit_of b == 1) 1 0
    by true = refl
    by false = refl

pub count_step : (v : ℕ → ℕ) (drivers : List (ℕ × ℕ)) (i : ℕ) (d : ℕ × ℕ) → i < length drivers →
    cond (v (get_or drivers i d).1 == 1) 1 0 + enabled_count v (drop (i + 1) drivers) ≡ enabled_count v (drop i drivers)
count_step v drivers i d lt =
    ap (λ k. cond (v (get_or drivers i d).1 == 1) 1 0 + enabled_count v (drop k drivers)) (add-one i)
    ∙ sym (ap (enabled_count v) (drop-cons drivers i d lt))

-- one gate more
pub gate_step : (l g r : Bool) → ((l && not g) && not r) ≡ (l && not (g || r))
gate_step false g r = refl
gate_step true true r = refl
gate_step true false r = refl

pub any_step : {X : Type 0} (f : X → Bool) (xs : List X) (i : ℕ) (d : X) → i < length xs → (f (get_or xs i d) || list_any f (drop (i + 1) xs)) ≡ list_any f (drop i xs)
any_step f xs i d lt =
    ap (λ k. f (get_or xs i d) || list_any f (drop k xs)) (add-one i) ∙ sym (ap (list_any f) (drop-cons xs i d lt))

pub numbers_later : (old new : Diagrams) → Extends old new → (table : List (List ℕ)) → IsBitTable old table → (word : ℕ) → numbers_at new table word ≡ numbers_at old table word
numbers_later old new e table t word = fun_ext (λ n. number_later old new e (sets_at table n) (t.sets n) word)
