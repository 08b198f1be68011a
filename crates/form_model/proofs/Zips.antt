-- Lists from left to right against lists in the order of evaluation: an item put in at a place, and
-- one taken out.
use Rattle.std.proofs.Common.{◌≡◌, ℕ, zero, suc, ◌+◌, List, [], ◌∷◌, length, map, Some, refl, ap, subst, arith}
use Rattle.std.specs.Prelude.{slice_get, remove, insert}
use Rattle.std.specs.List.{AllZip}

abbrev pub Each : {X : Type 0} → (X → Type 0) → List X → Type 0
Each P [] = Unit {0}
Each P (x ∷ xs) = P x × Each P xs

pub each_at : {X : Type 0} (P : X → Type 0) (xs : List X) (i : ℕ) (x : X) → slice_get xs i ≡ Some x → Each P xs → P x × Each P (remove xs i)
each_at P [] i x e h = absurd (cc)
each_at P (y ∷ xs) zero x e h = (subst P (cc) h.0, h.1)
each_at P (y ∷ xs) (suc i) x e h = let r : P x × Each P (remove xs i) = each_at P xs i x e h.1 in (r.0, (h.0, r.1))

pub each_put : {X : Type 0} (P : X → Type 0) (xs : List X) (i : ℕ) (x : X) → slice_get xs i ≡ Some x → P x → Each P (remove xs i) → Each P xs
each_put P [] i x e p h = tt
each_put P (y ∷ xs) zero x e p h = (subst P (cc) p, h)
each_put P (y ∷ xs) (suc i) x e p h = (h.0, each_put P xs i x e p h.1)

pub each_weaker : {X : Type 0} (P Q : X → Type 0) → ((x : X) → P x → Q x) → (xs : List X) → Each P xs → Each Q xs
each_weaker P Q f [] h = tt
each_weaker P Q f (x ∷ xs) h = (f x h.0, each_weaker P Q f xs h.1)

pub each_both : {X : Type 0} (P Q : X → Type 0) → (xs : List X) → Each P xs → Each Q xs → Each (λ x. P x × Q x) xs
each_both P Q [] h k = tt
each_both P Q (x ∷ xs) h k = ((h.0, k.0), each_both P Q xs h.1 k.1)

pub zip_put : {X Y : Type 0} (R : X → Y → Type 0) (xs : List X) (ys : List Y) (i : ℕ) (x : X) (y : Y) → slice_get xs i ≡ Some x → R x y → AllZip R (remove xs i) ys → AllZip R xs (insert ys i y)
zip_put R [] ys i x y e r h = absurd (cc)
zip_put R (z ∷ xs) ys zero x y e r h = (subst (λ w. R w y) (cc) r, h)
zip_put R (z ∷ xs) [] (suc i) x y e r h = absurd h
zip_put R (z ∷ xs) (w ∷ ys) (suc i) x y e r h = (h.0, zip_put R xs ys i x y e r h.1)

pub zip_at : {X Y : Type 0} (R : X → Y → Type 0) (xs : List X) (ys : List Y) (i : ℕ) (x : X) (y : Y) → slice_get xs i ≡ Some x → AllZip R xs (insert ys i y) → R x y × AllZip R (remove xs i) ys
zip_at R [] ys i x y e h = absurd (cc)
zip_at R (z ∷ xs) ys zero x y e h = (subst (λ w. R w y) (cc) h.0, h.1)
zip_at R (z ∷ []) [] (suc i) x y e h = absurd (cc)
zip_at R (z ∷ w ∷ xs) [] (suc i) x y e h = absurd h.1
zip_at R (z ∷ xs) (w ∷ ys) (suc i) x y e h = let r : R x y × AllZip R (remove xs i) ys = zip_at R xs ys i x y e h.1 in (r.0, (h.0, r.1))

pub map-remove : {X Y : Type 0} (f : X → Y) (xs : List X) (i : ℕ) → map f (remove xs i) ≡ remove (map f xs) i
map-remove f [] zero = refl
map-remove f [] (suc i) = refl
map-remove f (x ∷ xs) zero = refl
map-remove f (x ∷ xs) (suc i) = ap (λ z. f x ∷ z) (map-remove f xs i)

pub get_mapped : {X Y : Type 0} (f : X → Y) (xs : List X) (i : ℕ) (y : Y) → slice_get (map f xs) i ≡ Some y → (x : X) × (slice_get xs i ≡ Some x) × (f x ≡ y)
get_mapped f [] i y h = absurd (cc)
get_mapped f (x ∷ xs) zero y h = (x, refl, cc)
get_mapped f (x ∷ xs) (suc i) y h = get_mapped f xs i y h

-- ---- lengths and sums

pub length_out : {X : Type 0} (xs : List X) (i : ℕ) (x : X) → slice_get xs i ≡ Some x → length xs ≡ suc (length (remove xs i))
length_out [] i x e = absurd (cc)
length_out (y ∷ xs) zero x e = refl
length_out (y ∷ xs) (suc i) x e = let h = length_out xs i x e in omega (arith, h)

abbrev pub total : List ℕ → ℕ
total [] = 0
total (n ∷ ns) = n + total ns

pub total-insert : (ns : List ℕ) (i n : ℕ) → total (insert ns i n) ≡ n + total ns
total-insert ns zero n = refl
total-insert [] (suc i) n = refl
total-insert (m ∷ ns) (suc i) n = let e = total-insert ns i n in omega (arith, e)
