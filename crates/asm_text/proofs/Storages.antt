-- The storages that the transfers of a line name, one transfer further.
use Rattle.std.proofs.Common.{◌≡◌, ◌≢◌, ℕ, ◌+◌, ◌<◌, ◌≤◌, Bool, true, false, not, cond, List, [], length, slice_index_or, Bor, inl, inr, refl, sym, ap, subst, ◌∙◌, arith}
use Rattle.std.proofs.lemmas.Bool.{cases_lt, true≢false}
use Rattle.std.proofs.lemmas.List.{get_or_default}
use Rattle.std.proofs.lemmas.Slice.Eq.{bytes_eq-Decides}
use Rattle.std.specs.List.{AllPairs, list_any}
use Rattle.rec_bits.specs.Faults.{same_name}
use Rattle.asm_text.specs.Lines.{NameApart, storage_in, text_of}

-- the storage that the transfer at a place of the line names
abbrev pub name_at : List (List ℕ) → List ℕ → ℕ → List ℕ
name_at texts patterns place = storage_in (text_of texts (slice_index_or patterns place 0))

abbrev pub has_name : List (Bor (List ℕ)) → List ℕ → Bool
has_name keys name = list_any (λ key. same_name name key.now) keys

-- the keys are the storages that so many transfers name, and these are all different
pub record HasNames (keys : List (Bor (List ℕ))) (texts : List (List ℕ)) (patterns : List ℕ) (count : ℕ) : Type 0 where
  pub told : (name : List ℕ) → has_name keys name ≡ true → (place : ℕ) × (place < count) × (name_at texts patterns place ≡ name)
  pub all : (place : ℕ) → place < count → has_name keys (name_at texts patterns place) ≡ true
  pub apart : (i j : ℕ) → i < j → j < count → name_at texts patterns i ≢ name_at texts patterns j

-- what is no new name is there
pub turned : (there new answer : Bool) → new ≡ not there → new ≡ answer → there ≡ not answer
turned true new answer e f = ap not (sym e ∙ f)
turned false new answer e f = ap not (sym e ∙ f)

pub none_yet : (texts : List (List ℕ)) (patterns : List ℕ) → HasNames [] texts patterns 0
none_yet texts patterns = record {
  told = λ name e. absurd (true≢false (sym e));
  all = λ place lt. absurd (omega (arith, lt));
  apart = λ i j h lt. absurd (omega (arith, lt));
}

module _ (old : List (Bor (List ℕ))) (texts : List (List ℕ)) (patterns : List ℕ) (count : ℕ) (own : List ℕ) (is : own ≡ name_at texts patterns count) (has : HasNames old texts patterns count) where
  module _ (new : List (Bor (List ℕ))) (updates : (name : List ℕ) → has_name new name ≡ cond (same_name own name) true (has_name old name)) (fresh : has_name old own ≡ false) where
    told_so : (name : List ℕ) (same : Bool) → same_name own name ≡ same → cond same true (has_name old name) ≡ true → (place : ℕ) × (place < count + 1) × (name_at texts patterns place ≡ name)
    told_so name true s e = (count, omega arith, sym is ∙ (bytes_eq-Decides own name).0 s)
    told_so name false s e = (let p = has.told name e in (p.0, omega (arith, p.1), p.2))

    kept : (name : List ℕ) (same : Bool) → same_name own name ≡ same → (same ≡ false → has_name old name ≡ true) → cond same true (has_name old name) ≡ true
    kept name true s h = refl
    kept name false s h = h refl

    there : (place : ℕ) → place < count + 1 → has_name new (name_at texts patterns place) ≡ true
    there place lt =
        updates (name_at texts patterns place)
        ∙ kept (name_at texts patterns place) (same_name own (name_at texts patterns place)) refl
        (λ other. (elim (cases_lt place count) as (λ _. has_name old (name_at texts patterns place) ≡ true) [
          | inl before ↦ has.all place before
          | inr not ↦
              (let at : count ≡ place = omega (arith, lt, not) in
              absurd (true≢false (sym ((bytes_eq-Decides own (name_at texts patterns place)).1 (is ∙ ap (name_at texts patterns) at)) ∙ other)))
        ]))

    still_apart : (i j : ℕ) → i < j → j < count + 1 → name_at texts patterns i ≢ name_at texts patterns j
    still_apart i j h lt = elim (cases_lt j count) as (λ _. name_at texts patterns i ≢ name_at texts patterns j) [
      | inl before ↦ has.apart i j h before
      | inr not ↦
          (λ e.
          (let at : j ≡ count = omega (arith, lt, not) in
          let same : name_at texts patterns i ≡ own = e ∙ ap (name_at texts patterns) at ∙ sym is in
          true≢false (sym (has.all i (omega (arith, h, at))) ∙ ap (has_name old) same ∙ fresh)))
    ]

    pub one_more : HasNames new texts patterns (count + 1)
    one_more = record {
      told = λ name e. told_so name (same_name own name) refl (sym (updates name) ∙ e);
      all = there;
      apart = still_apart;
    }

  -- a storage that is there already
  pub twice : has_name old own ≡ true → count < length patterns → AllPairs (NameApart texts) patterns → ⊥
  twice taken lt pairs =
      let p = has.told own taken in
      pairs p.0 count 0 p.1 lt (p.2 ∙ is)

pub all_apart : (keys : List (Bor (List ℕ))) (texts : List (List ℕ)) (patterns : List ℕ) (count : ℕ) → length patterns ≤ count → HasNames keys texts patterns count → AllPairs (NameApart texts) patterns
all_apart keys texts patterns count all has i j d h lt =
    let own : (k : ℕ) → k < length patterns → slice_index_or patterns k 0 ≡ slice_index_or patterns k d = λ k short. get_or_default patterns k 0 d short in
    subst (λ (p : ℕ). NameApart texts p (slice_index_or patterns j d)) (own i (omega (arith, h, lt)))
    (subst (λ (q : ℕ). NameApart texts (slice_index_or patterns i 0) q) (own j lt) (has.apart i j h (omega (arith, lt, all))))
