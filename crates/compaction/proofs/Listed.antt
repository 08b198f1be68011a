-- The words of the groups of a list, one after the other.
use Rattle.std.proofs.Common.{◌≡◌, ℕ, zero, suc, ◌+◌, ◌<◌, inl, inr, List, [], ◌∷◌, ◌++◌, drop, length, length-append, get_or, map, slice_get, slice_index, take, add-one, Option, None, Some, IfSome, refl, sym, ◌∙◌, ap, arith, subst}
use Rattle.std.specs.List.{slice_index_or}
use Rattle.std.proofs.lemmas.Bool.{cases_lt}
use Rattle.std.proofs.lemmas.List.{get_or-map}
use Rattle.std.proofs.lemmas.Option.{slice_get-get_or, get_or_from_slice_get}
use Rattle.rec_bits.proofs.Options.{same_Some, none-some}
use Rattle.rec_bits.proofs.Lists.{index_old}
use Rattle.form_model.specs.Effects.{Operation}
use Rattle.form_model.specs.Live.{Regs, live_at, live_before, regs_of, singles}
use Rattle.word_fit.specs.Fits.{IsLeastFit}
use Rattle.word_fit.specs.Groups.{AllHaveWords, lives_of}
use Rattle.word_fit.proofs.Least.{word_at_place}
use Rattle.word_fit.proofs.Needed.{lives_at}
use Rattle.compaction.specs.Inner.Found.{AreFound}

push_new : (xs : List ℕ) (x : ℕ) → slice_index (xs ++ x ∷ []) (length xs) ≡ x
push_new [] x = refl
push_new (y ∷ xs) x = push_new xs x

-- what holds of the words so far, and of one more
pub least_more : {A : Type 0} (P : ℕ → List A → ℕ → Type 0) (gs : List (List A)) (words new : List ℕ) (i w : ℕ) (g : List A) → length words ≡ i → new ≡ words ++ w ∷ [] → slice_get gs i ≡ Some g → P i g w
    → ((k : ℕ) (h : List A) → k < i → slice_get gs k ≡ Some h → P k h (slice_index words k)) → (k : ℕ) (h : List A) → k < i + 1 → slice_get gs k ≡ Some h → P k h (slice_index new k)
least_more P gs words new i w g el en eg p before k h lt e =
    elim (cases_lt k i) as (λ _. P k h (slice_index new k)) [
      | inl u ↦ subst (λ z. P k h z) (sym (ap (λ z. slice_index z k) en ∙ index_old words w k (omega (arith, el, u)))) (before k h u e)
      | inr u ↦
          (let same : i ≡ k = omega arith in
          let last : slice_index new k ≡ w = ap (λ z. slice_index new z) (sym same ∙ sym el) ∙ ap (λ z. slice_index z (length words)) en ∙ push_new words w in
          let one : g ≡ h = same_Some g h (sym eg ∙ ap (λ z. slice_get gs z) same ∙ e) in
          subst (λ z. P k h z) (sym last) (subst (λ z. P k z w) one (subst (λ z. P z g w) same p)))
    ]

module _ {A : Type 0} (m : A → Operation) (fits : ℕ → List A → Regs → Type 0) (after : Regs) where
  -- the live set at a place of the list of live sets
  pub live_there : (gs : List (List A)) (lives : List ℕ) (k : ℕ) → map regs_of lives ≡ lives_of m gs after → k < length lives → k < length gs → regs_of (get_or lives k 0) ≡ live_at m gs after k
  live_there gs lives k e n lt =
      sym (get_or-map regs_of lives k 0 (regs_of 0) n) ∙ ap (λ z. get_or z k (regs_of 0)) e
      ∙ get_or_from_slice_get (lives_of m gs after) k (live_at m gs after k) (regs_of 0) (lives_at m gs after k lt)

  -- the group at a place
  pub group_there : (gs : List (List A)) (k : ℕ) (x g : List A) → k < length gs → x ≡ get_or gs k x → g ≡ x → slice_get gs k ≡ Some g
  group_there gs k x g lt ex eg = slice_get-get_or gs k x lt ∙ ap (λ z. Some z) (sym (eg ∙ ex))

  pub word_there : (gs : List (List A)) (k : ℕ) (g : List A) (live : Regs) → slice_get gs k ≡ Some g → live ≡ live_at m gs after k → AllHaveWords m fits gs after → (w : ℕ) × fits w g live
  word_there gs k g live e el h = subst (λ (l : Regs). (w : ℕ) × fits w g l) (sym el) (word_at_place m fits after gs k g e h)

  -- the word that was found for the group at a place
  pub found_there : (found : List (Option ℕ)) (gs : List (List A)) (k : ℕ) (g : List A) (live : Regs) → slice_get gs k ≡ Some g → live ≡ live_at m gs after k → AreFound m fits found gs after → IfSome (get_or found k None) (IsLeastFit (λ w. fits w g live))
  found_there [] [] k g live e el f = absurd (none-some g e)
  found_there [] (h ∷ gs) k g live e el f = absurd f
  found_there (w ∷ found) [] k g live e el f = absurd f
  found_there (w ∷ found) (h ∷ gs) zero g live e el f =
      subst (λ (l : Regs). IfSome w (IsLeastFit (λ n. fits n g l))) (sym el)
      (subst (λ z. IfSome w (IsLeastFit (λ n. fits n z (live_before m gs after)))) (same_Some h g e) f.0)
  found_there (w ∷ found) (h ∷ gs) (suc k) g live e el f = found_there found gs k g live e (el ∙ later h gs k) f.1
    where
      later : (h : List A) (gs : List (List A)) (k : ℕ) → live_at m (h ∷ gs) after (suc k) ≡ live_at m gs after k
      later h gs k =
          let e : suc k + 1 ≡ suc (k + 1) = omega arith in
          ap (λ i. live_before m (drop i (h ∷ gs)) after) e

pub longer : (xs : List ℕ) (x n : ℕ) → length xs ≡ n → length (xs ++ x ∷ []) ≡ n + 1
longer xs x n e = omega (arith, length-append xs (x ∷ []), e)

-- one step more is one group more
pub singles_more : {A : Type 0} (xs : List A) (i : ℕ) (d : A) (groups : List (List A)) (g : List A) → i < length xs → groups ≡ singles (take i xs) → g ≡ slice_index_or xs i d ∷ [] → groups ++ g ∷ [] ≡ singles (take (i + 1) xs)
singles_more {A} xs i d groups g lt eg e =
    (λ j. eg j ++ e j ∷ []) ∙ sym (by xs i lt) ∙ ap (λ n. singles (take n xs)) (sym (add-one i))
  where
    by : (xs : List A) (i : ℕ) → i < length xs → singles (take (suc i) xs) ≡ singles (take i xs) ++ (slice_index_or xs i d ∷ []) ∷ []
    by [] i lt = absurd (omega arith)
    by (x ∷ xs) zero lt = refl
    by (x ∷ xs) (suc i) lt = ap (λ (z : List (List A)). (x ∷ []) ∷ z) (by xs i (omega arith))
