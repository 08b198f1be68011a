-- Elements of a list that grows, and what holds of each.
use Rattle.std.proofs.Common.{◌≡◌, ℕ, zero, suc, ◌+◌, ◌-◌, ◌<◌, ◌≤◌, List, [], ◌∷◌, ◌++◌, length, take, drop, slice_get, slice_index, slice_set, replicate, Some, None, ◌⊎◌, inl, inr, refl, ap, ◌∙◌, subst, arith, length-take, get_or-drop, sym, add-one, append_assoc, length-append}
use Rattle.std.specs.List.{AllByRecursion, insert, remove}
use Rattle.std.proofs.lemmas.List.{length-drop}
pub use Rattle.std.proofs.lemmas.Option.{slice_get_past, slice_get_within}
pub use Rattle.std.proofs.Math.Seq.{set-append_seam}

module _ {X : Type 0} where
  -- what is added at the end moves nothing
  pub get_left : (xs ys : List X) (i : ℕ) → i < length xs → slice_get (xs ++ ys) i ≡ slice_get xs i
  get_left [] ys i h = absurd (omega arith)
  get_left (x ∷ xs) ys zero h = refl
  get_left (x ∷ xs) ys (suc i) h = get_left xs ys i (omega arith)

  pub get_seam : (xs : List X) (y : X) (ys : List X) → slice_get (xs ++ y ∷ ys) (length xs) ≡ Some y
  get_seam [] y ys = refl
  get_seam (x ∷ xs) y ys = get_seam xs y ys

  pub get_left_some : (xs ys : List X) (i : ℕ) (x : X) → slice_get xs i ≡ Some x → slice_get (xs ++ ys) i ≡ Some x
  get_left_some xs ys i x h = get_left xs ys i (slice_get_within xs i x h) ∙ h

  pub get_right : (xs ys : List X) (i : ℕ) → slice_get (xs ++ ys) (length xs + i) ≡ slice_get ys i
  get_right [] ys i = let e : length {A = X} [] + i ≡ i = omega arith in ap (slice_get ys) e
  get_right (x ∷ xs) ys i = let e : length (x ∷ xs) + i ≡ suc (length xs + i) = omega arith in ap (λ k. slice_get (x ∷ (xs ++ ys)) k) e ∙ get_right xs ys i

  pub remove_seam : (xs : List X) (y : X) (ys : List X) → remove (xs ++ y ∷ ys) (length xs) ≡ xs ++ ys
  remove_seam [] y ys = refl
  remove_seam (x ∷ xs) y ys = ap (λ l. x ∷ l) (remove_seam xs y ys)

  pub length_inserted : (xs : List X) (i : ℕ) (x : X) → length (insert xs i x) ≡ suc (length xs)
  length_inserted xs zero x = refl
  length_inserted [] (suc i) x = refl
  length_inserted (y ∷ xs) (suc i) x = let e = length_inserted xs i x in omega (arith, e)

  pub append_none : (xs ys : List X) → xs ++ ys ≡ [] → (xs ≡ []) × (ys ≡ [])
  append_none [] ys h = (refl, h)
  append_none (x ∷ xs) ys h = absurd (cc h)

  -- within its length a list has elements
  pub there : (xs : List X) (i : ℕ) → i < length xs → (x : X) × (slice_get xs i ≡ Some x)
  there [] i h = absurd (omega (arith, h))
  there (x ∷ xs) zero h = (x, refl)
  there (x ∷ xs) (suc i) h = there xs i (omega (arith, h))

  pub none_within : (xs : List X) (i : ℕ) → i < length xs → slice_get xs i ≡ None → ⊥
  none_within [] i h e = omega (arith, h)
  none_within (x ∷ xs) zero h e = cc
  none_within (x ∷ xs) (suc i) h e = none_within xs i (omega (arith, h)) e

  -- one element more of a list's front
  pub take_get : (xs : List X) (i : ℕ) (x : X) → slice_get xs i ≡ Some x → take (i + 1) xs ≡ take i xs ++ (x ∷ [])
  take_get xs i x h = ap (λ k. take k xs) (add-one i) ∙ go xs i h
    where
      go : (ys : List X) (k : ℕ) → slice_get ys k ≡ Some x → take (suc k) ys ≡ take k ys ++ (x ∷ [])
      go [] k e = absurd cc
      go (y ∷ ys) zero e = let q : y ≡ x = cc in ap (λ (z : X). z ∷ []) q
      go (y ∷ ys) (suc k) e = ap (λ (zs : List X). y ∷ zs) (go ys k e)

  -- a list around its element at a place
  pub record Around (xs : List X) (i : ℕ) (x : X) : Type 0 where
    pub before : List X
    pub after : List X
    pub is : xs ≡ before ++ x ∷ after
    pub place : length before ≡ i

  -- each element has its surroundings
  pub around : (xs : List X) (i : ℕ) (x : X) → slice_get xs i ≡ Some x → Around xs i x
  around [] i x h = absurd (cc)
  around (y ∷ ys) zero x h = record { before = []; after = ys; is = (let e : y ≡ x = cc in ap (λ z. z ∷ ys) e); place = refl }
  around (y ∷ ys) (suc i) x h =
      let r = around ys i x h in
      record { before = y ∷ r.before; after = r.after; is = ap (λ l. y ∷ l) r.is; place = omega (arith, r.place) }

  -- where an element of a list with one more stands
  pub pushed_at : (xs : List X) (y : X) (i : ℕ) (x : X) → slice_get (xs ++ y ∷ []) i ≡ Some x → ((i < length xs) × (slice_get xs i ≡ Some x)) ⊎ ((i ≡ length xs) × (y ≡ x))
  pushed_at [] y zero x h = inr (refl, cc)
  pushed_at [] y (suc i) x h = absurd (cc)
  pushed_at (z ∷ xs) y zero x h = inl (omega arith, h)
  pushed_at (z ∷ xs) y (suc i) x h = elim (pushed_at xs y i x h) [ inl w ↦ inl (omega (arith, w.0), w.1) | inr w ↦ inr (omega (arith, w.0), w.1) ]

  -- what holds of each element of two lists
  pub all_append : (P : X → Type 0) (xs ys : List X) → AllByRecursion P xs → AllByRecursion P ys → AllByRecursion P (xs ++ ys)
  all_append P [] ys h k = k
  all_append P (x ∷ xs) ys h k = (h.0, all_append P xs ys h.1 k)

  -- what holds of each element, at a place
  pub all_at : (P : X → Type 0) (xs : List X) (i : ℕ) (x : X) → AllByRecursion P xs → slice_get xs i ≡ Some x → P x
  all_at P [] i x h e = absurd (cc e)
  all_at P (y ∷ ys) zero x h e = (let s : y ≡ x = cc in subst P s h.0)
  all_at P (y ∷ ys) (suc i) x h e = all_at P ys i x h.1 e

  pub all_by_place : (P : X → Type 0) (xs : List X) → ((i : ℕ) (x : X) → slice_get xs i ≡ Some x → P x) → AllByRecursion P xs
  all_by_place P [] h = tt
  all_by_place P (x ∷ xs) h = (h 0 x refl, all_by_place P xs (λ i y e. h (suc i) y e))

  -- what holds of each element by another fact that holds of it
  pub all_weaker : (P Q : X → Type 0) → ((x : X) → P x → Q x) → (xs : List X) → AllByRecursion P xs → AllByRecursion Q xs
  all_weaker P Q f [] h = tt
  all_weaker P Q f (x ∷ xs) h = (f x h.0, all_weaker P Q f xs h.1)

-- ---- lists of numbers

pub all_index : (P : ℕ → Type 0) (xs : List ℕ) (i : ℕ) → AllByRecursion P xs → i < length xs → P (slice_index xs i)
all_index P [] i h lt = absurd (omega (arith, lt))
all_index P (x ∷ xs) zero h lt = h.0
all_index P (x ∷ xs) (suc i) h lt = all_index P xs i h.1 (omega (arith, lt))

pub index_old : (xs : List ℕ) (x i : ℕ) → i < length xs → slice_index (xs ++ x ∷ []) i ≡ slice_index xs i
index_old [] x i h = absurd (omega (arith, h))
index_old (y ∷ ys) x zero h = refl
index_old (y ∷ ys) x (suc i) h = index_old ys x i (omega (arith, h))

pub zeros_at : (n i : ℕ) → slice_index (replicate n 0) i ≡ 0
zeros_at zero i = refl
zeros_at (suc n) zero = refl
zeros_at (suc n) (suc i) = zeros_at n i

-- the part of n numbers from an address on
pub part_length : (n address : ℕ) (cells : List ℕ) → address + n ≤ length cells → length (take n (drop address cells)) ≡ n
part_length n address cells le = omega (arith, le, length-take n (drop address cells), length-drop address cells)

-- lists that agree from an address on
pub cell_behind : (at a : ℕ) (cells others : List ℕ) → drop at cells ≡ drop at others → at ≤ a → slice_index cells a ≡ slice_index others a
cell_behind at a cells others e le =
    let z : at + (a - at) ≡ a = omega (arith, le) in
    ap (slice_index cells) (sym z) ∙ sym (get_or-drop at cells (a - at) 0) ∙ ap (λ xs. slice_index xs (a - at)) e ∙ get_or-drop at others (a - at) 0 ∙ ap (slice_index others) z

pub drop-set : (at k n : ℕ) (cells : List ℕ) (value : ℕ) → n ≡ at + k → drop at (slice_set cells n value) ≡ slice_set (drop at cells) k value
drop-set zero k n cells value e = let f : n ≡ k = omega (arith, e) in rw f refl
drop-set (suc at) k n [] value e = refl
drop-set (suc at) k zero (c ∷ cells) value e = absurd (omega (arith, e))
drop-set (suc at) k (suc n) (c ∷ cells) value e = drop-set at k n cells value (omega (arith, e))

-- numbers below a bound, in a list that changes
pub append_below : (bound : ℕ) (xs ys : List ℕ) → ((i : ℕ) → slice_index xs i < bound) → ((i : ℕ) → slice_index ys i < bound) → (i : ℕ) → slice_index (xs ++ ys) i < bound
append_below bound [] ys h k i = k i
append_below bound (x ∷ xs) ys h k zero = h 0
append_below bound (x ∷ xs) ys h k (suc i) = append_below bound xs ys (λ j. h (suc j)) k i

pub set_below : (bound : ℕ) (cells : List ℕ) (at value : ℕ) → ((i : ℕ) → slice_index cells i < bound) → value < bound → (i : ℕ) → slice_index (slice_set cells at value) i < bound
set_below bound [] at value h lt i = h i
set_below bound (c ∷ cells) zero value h lt zero = lt
set_below bound (c ∷ cells) zero value h lt (suc i) = h (suc i)
set_below bound (c ∷ cells) (suc at) value h lt zero = h 0
set_below bound (c ∷ cells) (suc at) value h lt (suc i) = set_below bound cells at value (λ j. h (suc j)) lt i

pub index_seam : (xs : List ℕ) (x : ℕ) (ys : List ℕ) (at : ℕ) → at ≡ length xs → slice_index (xs ++ x ∷ ys) at ≡ x
index_seam [] x ys zero e = refl
index_seam [] x ys (suc at) e = absurd (omega (arith, e))
index_seam (y ∷ xs) x ys zero e = absurd (omega (arith, e))
index_seam (y ∷ xs) x ys (suc at) e = index_seam xs x ys at (omega (arith, e))

-- what is written and what is left are the whole
pub goes_first : (out new initial first more left all : List ℕ) → out ++ left ≡ initial ++ all → left ≡ first ++ more → new ≡ out ++ first → new ++ more ≡ initial ++ all
goes_first out new initial first more left all e f g = ap (λ n. n ++ more) g ∙ append_assoc out first more ∙ ap (λ r. out ++ r) (sym f) ∙ e

pub fits_first : (out initial first more left all : List ℕ) (room : ℕ) → out ++ left ≡ initial ++ all → left ≡ first ++ more → length initial + length all ≤ room → length out + length first ≤ room
fits_first out initial first more left all room e f h = omega (arith, h, ap length e, ap length f, length-append out left, length-append initial all, length-append first more)
