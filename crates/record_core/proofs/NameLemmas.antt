-- Names in a netlist's text.
use Rattle.std.proofs.Common.{◌≡◌, ℕ, ◌<◌, zero, suc, Bool, true, false, List, [], ◌∷◌, take_while, cond, refl, sym, subst, arith}
use Rattle.std.specs.Prelude.{slice_index}
use Rattle.std.specs.Str.{IsAscii}
use Rattle.std.proofs.lemmas.List.Sums.{take_while-cons}
use Rattle.std.proofs.lemmas.Grind.{common_steps}
use Rattle.lexing.specs.Bytes.{is_name_byte}

small : (x : ℕ) → is_name_byte x ≡ true → x < 128
small x e = grind (arith, common_steps)

pub ascii_run : (xs : List ℕ) → IsAscii (take_while is_name_byte xs)
ascii_run [] i = omega arith
ascii_run (x ∷ xs) i = subst (λ ys. slice_index ys i < 128) (sym (take_while-cons is_name_byte x xs)) (by_test (is_name_byte x) refl (ascii_run xs) i)
  where
    by_test : (b : Bool) → is_name_byte x ≡ b → IsAscii (take_while is_name_byte xs) → (i : ℕ) → slice_index (cond b (x ∷ take_while is_name_byte xs) []) i < 128
    by_test true e behind zero = small x e
    by_test true e behind (suc i) = behind i
    by_test false e behind i = omega arith
