-- Slices that are found one after the other are each once, in the order of first occurrence.
use Rattle.std.proofs.Common.{◌≡◌, ◌==◌, ◌&&◌, ◌||◌, ℕ, ◌+◌, ◌<◌, ◌≤◌, length, take, slice_index_or, Bool, true, false, cond, not, List, [], ◌∷◌, ◌++◌, refl, sym, ap, ◌∙◌, append_assoc}
use Rattle.std.proofs.lemmas.Bool.{eqb-true, true≢false}
use Rattle.std.proofs.lemmas.List.{append-nil, take_all, take_more}
use Rattle.std.proofs.lemmas.Grind.{flat_map-append}
use Rattle.std.specs.List.{filter, flat_map}
use Rattle.rec_bits.proofs.Booleans.{or-false, or_assoc}
use Rattle.asm_words.specs.Slices.{is_other, once, same_slice}
use Rattle.asm_words.specs.Inner.Given.{has_slice, with_slice, with_slices}
use Rattle.asm_words.specs.declared.slices.Slice.{Slice}

pub with_slices-append : (found xs ys : List Slice) → with_slices found (xs ++ ys) ≡ with_slices (with_slices found xs) ys
with_slices-append found [] ys = refl
with_slices-append found (x ∷ xs) ys = with_slices-append (with_slice found x) xs ys

-- not among those that were found
abbrev out : List Slice → Slice → Bool
out found s = not (has_slice found s)

-- equal slices are found alike
same_parts : (a b : Slice) → same_slice a b ≡ true → a ≡ b
same_parts a b e = by (a.hi == b.hi) (a.lo == b.lo) refl refl e
  where
    by : (p q : Bool) → (a.hi == b.hi) ≡ p → (a.lo == b.lo) ≡ q → (p && q) ≡ true → a ≡ b
    by true true u v e =
        let h : a.hi ≡ b.hi = eqb-true a.hi b.hi u in
        let l : a.lo ≡ b.lo = eqb-true a.lo b.lo v in
        (λ j. record { hi = h j; lo = l j })
    by true false u v e = absurd (true≢false (sym e))
    by false q u v e = absurd (true≢false (sym e))

has-append : (found : List Slice) (s y : Slice) → has_slice (found ++ (s ∷ [])) y ≡ (has_slice found y || same_slice s y)
has-append [] s y = or-false (same_slice s y)
has-append (x ∷ xs) s y = ap (λ (b : Bool). same_slice x y || b) (has-append xs s y) ∙ sym (or_assoc (same_slice x y) (has_slice xs y) (same_slice s y))

module _ (found : List Slice) (s : Slice) where
  -- where the slice was found, those that equal it are left out anyway
  left_out : has_slice found s ≡ true → (xs : List Slice) → filter (out found) (filter (is_other s) xs) ≡ filter (out found) xs
  left_out h [] = refl
  left_out h (y ∷ ys) = by (same_slice s y) refl (left_out h ys)
    where
      by : (t : Bool) → same_slice s y ≡ t → filter (out found) (filter (is_other s) ys) ≡ filter (out found) ys →
          filter (out found) (cond (not t) (y ∷ filter (is_other s) ys) (filter (is_other s) ys)) ≡ cond (out found y) (y ∷ filter (out found) ys) (filter (out found) ys)
      by true e ih =
          let same : has_slice found y ≡ true = ap (has_slice found) (sym (same_parts s y e)) ∙ h in
          ih ∙ sym (ap (λ (b : Bool). cond (not b) (y ∷ filter (out found) ys) (filter (out found) ys)) same)
      by false e ih = ap (λ (r : List Slice). cond (out found y) (y ∷ r) r) ih

  -- where it wasn't, it is now
  left_new : (xs : List Slice) → filter (out found) (filter (is_other s) xs) ≡ filter (out (found ++ (s ∷ []))) xs
  left_new [] = refl
  left_new (y ∷ ys) =
      by (same_slice s y) refl (left_new ys)
      ∙ sym (ap (λ (b : Bool). cond (not b) (y ∷ filter (out (found ++ (s ∷ []))) ys) (filter (out (found ++ (s ∷ []))) ys)) (has-append found s y))
    where
      by : (t : Bool) → same_slice s y ≡ t → filter (out found) (filter (is_other s) ys) ≡ filter (out (found ++ (s ∷ []))) ys →
          filter (out found) (cond (not t) (y ∷ filter (is_other s) ys) (filter (is_other s) ys)) ≡ cond (not (has_slice found y || same_slice s y)) (y ∷ filter (out (found ++ (s ∷ []))) ys) (filter (out (found ++ (s ∷ []))) ys)
      by true e ih =
          ih ∙ sym (ap (λ (b : Bool). cond (not (has_slice found y || b)) (y ∷ filter (out (found ++ (s ∷ []))) ys) (filter (out (found ++ (s ∷ []))) ys)) e ∙ or_true (has_slice found y) _ _)
        where
          or_true : (b : Bool) (p q : List Slice) → cond (not (b || true)) p q ≡ q
          or_true true p q = refl
          or_true false p q = refl
      by false e ih =
          ap (λ (r : List Slice). cond (out found y) (y ∷ r) r) ih
          ∙ sym (ap (λ (b : Bool). cond (not (has_slice found y || b)) (y ∷ filter (out (found ++ (s ∷ []))) ys) (filter (out (found ++ (s ∷ []))) ys)) e ∙ or_false (has_slice found y) _ _)
        where
          or_false : (b : Bool) (p q : List Slice) → cond (not (b || false)) p q ≡ cond (not b) p q
          or_false true p q = refl
          or_false false p q = refl

found_all : (found ss : List Slice) → with_slices found ss ≡ found ++ filter (out found) (once ss)
found_all found [] = sym (append-nil found)
found_all found (s ∷ ss) = by (has_slice found s) refl (found_all found ss) (found_all (found ++ (s ∷ [])) ss)
  where
    by : (t : Bool) → has_slice found s ≡ t → with_slices found ss ≡ found ++ filter (out found) (once ss) → with_slices (found ++ (s ∷ [])) ss ≡ (found ++ (s ∷ [])) ++ filter (out (found ++ (s ∷ []))) (once ss) →
        with_slices (cond t found (found ++ (s ∷ []))) ss ≡ found ++ cond (not t) (s ∷ filter (out found) (filter (is_other s) (once ss))) (filter (out found) (filter (is_other s) (once ss)))
    by true e one two = one ∙ ap (λ (r : List Slice). found ++ r) (sym (left_out found s e (once ss)))
    by false e one two =
        two ∙ append_assoc found (s ∷ []) (filter (out (found ++ (s ∷ []))) (once ss))
        ∙ ap (λ (r : List Slice). found ++ (s ∷ r)) (sym (left_new found s (once ss)))

all_kept : (xs : List Slice) → filter (out []) xs ≡ xs
all_kept [] = refl
all_kept (x ∷ xs) = ap (λ (r : List Slice). x ∷ r) (all_kept xs)

pub found_once : (ss : List Slice) → with_slices [] ss ≡ once ss
found_once ss = found_all [] ss ∙ all_kept (once ss)

-- ---- one list behind another

pub found_two : (found middle new : List Slice) (xs ys all : List Slice) → middle ≡ with_slices found xs → new ≡ with_slices middle ys → all ≡ xs ++ ys → new ≡ with_slices found all
found_two found middle new xs ys all m n e =
    n ∙ ap (λ (z : List Slice). with_slices z ys) m ∙ sym (with_slices-append found xs ys) ∙ ap (with_slices found) (sym e)

-- ---- by numbers

module _ (slices_at : ℕ → List Slice) (numbers : List ℕ) (i : ℕ) (found : List Slice) (so_far : found ≡ with_slices [] (flat_map slices_at (take i numbers))) where
  pub slices_more : (more : List Slice) → i < length numbers → more ≡ with_slices found (slices_at (slice_index_or numbers i 0)) → more ≡ with_slices [] (flat_map slices_at (take (i + 1) numbers))
  slices_more more lt e =
      let n = slice_index_or numbers i 0 in
      let front = flat_map slices_at (take i numbers) in
      let longer : flat_map slices_at (take (i + 1) numbers) ≡ front ++ slices_at n = ap (flat_map slices_at) (take_more numbers i 0 lt)
      ∙ flat_map-append slices_at (take i numbers) (n ∷ [])
      ∙ ap (λ (r : List Slice). front ++ r) (append-nil (slices_at n)) in
      e ∙ ap (λ (xs : List Slice). with_slices xs (slices_at n)) so_far ∙ sym (with_slices-append [] front (slices_at n))
      ∙ ap (with_slices []) (sym longer)

  pub slices_end : length numbers ≤ i → found ≡ once (flat_map slices_at numbers)
  slices_end all =
      so_far ∙ ap (λ (ns : List ℕ). with_slices [] (flat_map slices_at ns)) (take_all i numbers all) ∙ found_once (flat_map slices_at numbers)
