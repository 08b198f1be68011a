-- Parts of lists of cells, and the cells of places in a row.
use Rattle.std.proofs.Common.{ℕ, zero, suc, ◌≡◌, ◌+◌, List, [], ◌∷◌, ◌++◌, take, drop, refl, sym, ◌∙◌, ap, arith, slice_set}
use Rattle.code_model.specs.Places.{cells_at, cells_of, places_from}

pub take-set : (n k : ℕ) (cells : List ℕ) (value : ℕ) → take n (slice_set cells k value) ≡ slice_set (take n cells) k value
take-set zero k cells value = refl
take-set (suc n) k [] value = refl
take-set (suc n) zero (c ∷ cells) value = refl
take-set (suc n) (suc k) (c ∷ cells) value = ap (λ (xs : List ℕ). c ∷ xs) (take-set n k cells value)

take-plus : (a b n : ℕ) (xs : List ℕ) → n ≡ a + b → take a xs ++ take b (drop a xs) ≡ take n xs
take-plus zero b n xs e = let f : n ≡ b = omega arith in rw f refl
take-plus (suc a) b zero xs e = absurd (omega arith)
take-plus (suc a) zero (suc n) [] e = refl
take-plus (suc a) (suc b) (suc n) [] e = refl
take-plus (suc a) b (suc n) (x ∷ xs) e = ap (λ (ys : List ℕ). x ∷ ys) (take-plus a b n xs (omega arith))

pub drop-plus : (a b n : ℕ) (xs : List ℕ) → n ≡ b + a → drop a (drop b xs) ≡ drop n xs
drop-plus a zero n xs e = let f : n ≡ a = omega arith in rw f refl
drop-plus a (suc b) zero xs e = absurd (omega arith)
drop-plus zero (suc b) (suc n) [] e = refl
drop-plus (suc a) (suc b) (suc n) [] e = refl
drop-plus a (suc b) (suc n) (x ∷ xs) e = drop-plus a b n xs (omega arith)

-- places in a row hold the cells in a row
pub cells_in_row : (at : ℕ) (vars : List (List ℕ × ℕ)) (cells : List ℕ) → cells_at (places_from at vars) cells ≡ take (cells_of vars) (drop at cells)
cells_in_row at [] cells = refl
cells_in_row at (var ∷ vars) cells =
    ap (λ (xs : List ℕ). take var.1 (drop at cells) ++ xs)
    (cells_in_row (at + var.1) vars cells ∙ ap (take (cells_of vars)) (sym (drop-plus var.1 at (at + var.1) cells refl)))
    ∙ take-plus var.1 (cells_of vars) (var.1 + cells_of vars) (drop at cells) refl
