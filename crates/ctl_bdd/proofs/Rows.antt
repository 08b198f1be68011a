-- A case from its last row to its first.
use Rattle.std.proofs.Common.{◌≡◌, ℕ, ◌<◌, ◌==◌, cond, List, [], ◌∷◌, Option, length, drop, get_or, sym, ap, ◌∙◌, arith, zero, suc}
use Rattle.std.specs.List.{AllByRecursion}
use Rattle.std.proofs.Math.Seq.{drop-cons}
use Rattle.net_model.specs.Value.{case_value}

pub row_at : (P : ℕ × ℕ → Type 0) (rows : List (ℕ × ℕ)) (i : ℕ) (d : ℕ × ℕ) → i < length rows → AllByRecursion P rows → P (get_or rows i d)
row_at P [] i d lt h = absurd (omega (arith, lt))
row_at P (row ∷ rows) zero d lt h = h.0
row_at P (row ∷ rows) (suc i) d lt h = row_at P rows i d (omega (arith, lt)) h.1

-- one row more at the front
pub case_step : (v : ℕ → ℕ) (key : ℕ) (rows : List (ℕ × ℕ)) (rest : Option ℕ) (i j : ℕ) (d : ℕ × ℕ) → suc i ≡ j → i < length rows →
    cond ((get_or rows i d).0 == key) (v (get_or rows i d).1) (case_value v key (drop j rows) rest) ≡ case_value v key (drop i rows) rest
case_step v key rows rest i j d e lt =
    ap (λ k. cond ((get_or rows i d).0 == key) (v (get_or rows i d).1) (case_value v key (drop k rows) rest)) (sym e)
    ∙ sym (ap (λ rs. case_value v key rs rest) (drop-cons rows i d lt))
