-- What halving the marks finds.
use Rattle.std.proofs.Common.{◌≡◌, ℕ, zero, suc, ◌<◌, ◌≤◌, ◌≢◌, Option, Some, None, List, [], ◌∷◌, length, get_or, Ok, Err, refl, sym, ap, arith, inl, inr, ◌⊎◌}
use Rattle.std.specs.List.Sorted.{IsBinarySearchResult, IsNonDecreasingBy}
use Rattle.std.specs.Ordering.{nat_cmp, ordering_index}
use Rattle.std.proofs.lemmas.Bool.{cases_lt}
use Rattle.std.proofs.lemmas.Bool.Decides.{nat_tests}
use Rattle.std.proofs.lemmas.Cmp.{ranked}
use Rattle.std.proofs.lemmas.List.Sorted.{IsNonDecreasingBy-from_default}
use Rattle.code_model.specs.declared.image.Mark.{Mark}
use Rattle.code_model.specs.ImageFits.{AreMarksAfter}
use Rattle.code_model.specs.Places.{checkpoint_of, label_at}

-- what stands past the end of a list
abbrev none : Mark
none = record { address = 0; label = None }

abbrev address_at : List Mark → ℕ → ℕ
address_at marks k = (get_or marks k none).address

-- ---- marks ascend

behind : (last : Mark) (marks : List Mark) (k : ℕ) → AreMarksAfter (Some last) marks → k < length marks → last.address < address_at marks k
behind last [] k after lt = absurd (omega arith)
behind last (mark ∷ marks) zero after lt = after.0.0
behind last (mark ∷ marks) (suc k) after lt = omega (arith, after.0.0, behind mark marks k after.1 (omega arith))

ascend : (last : Option Mark) (marks : List Mark) (i j : ℕ) → AreMarksAfter last marks → i < j → j < length marks → address_at marks i < address_at marks j
ascend last [] i j after lt in_range = absurd (omega arith)
ascend last (mark ∷ marks) i zero after lt in_range = absurd (omega arith)
ascend last (mark ∷ marks) zero (suc j) after lt in_range = behind mark marks j after.1 (omega arith)
ascend last (mark ∷ marks) (suc i) (suc j) after lt in_range = ascend (Some mark) marks i j after.1 (omega arith) (omega arith)

-- ---- the label of an address

-- no mark before this place has the address
abbrev IsNotBefore : List Mark → ℕ → ℕ → Type 0
IsNotBefore marks address k = (j : ℕ) → j < k → address_at marks j ≢ address

later : (mark : Mark) (marks : List Mark) (address k : ℕ) → IsNotBefore (mark ∷ marks) address (suc k) → IsNotBefore marks address k
later mark marks address k not j lt = not (suc j) (omega arith)

label_none : (marks : List Mark) (address : ℕ) → IsNotBefore marks address (length marks) → label_at marks address ≡ None
label_none [] address not = refl
label_none (mark ∷ marks) address not = grind (arith, nat_tests, not 0 (omega arith), label_none marks address (later mark marks address _ not))

label_first : (marks : List Mark) (address k : ℕ) → k < length marks → address_at marks k ≡ address → IsNotBefore marks address k → label_at marks address ≡ Some (checkpoint_of (get_or marks k none).label)
label_first [] address k lt here not = absurd (omega arith)
label_first (mark ∷ marks) address zero lt here not = grind (arith, nat_tests, here)
label_first (mark ∷ marks) address (suc k) lt here not = grind (arith, nat_tests, not 0 (omega arith), label_first marks address k (omega arith) here (later mark marks address k not))

-- ---- the search

module _ (marks : List Mark) (after : AreMarksAfter None marks) (address : ℕ) where
  comparisons_rise : IsNonDecreasingBy (λ (mark : Mark). ordering_index (nat_cmp mark.address address)) marks
  comparisons_rise = IsNonDecreasingBy-from_default (λ (mark : Mark). ordering_index (nat_cmp mark.address address)) marks none (λ i j le in_range.
      let rise : address_at marks i ≤ address_at marks j = grind (arith, ascend None marks i j after, λ (same : i ≡ j). ap (address_at marks) same) in
      grind (arith, nat_tests))

  pub found : (k : ℕ) → k < length marks → IsBinarySearchResult (λ (mark : Mark). nat_cmp mark.address address) marks (Ok k) → label_at marks address ≡ Some (checkpoint_of (get_or marks k none).label)
  found k lt equal =
      let here : address_at marks k ≡ address = ranked _ address _ (sym (equal none)) in
      label_first marks address k lt here (λ j before same. omega (arith, ascend None marks j k after before lt, here))

  pub missing : (k : ℕ) → k ≤ length marks → IsBinarySearchResult (λ (mark : Mark). nat_cmp mark.address address) marks (Err k) → label_at marks address ≡ None
  missing k le parted = label_none marks address (λ j lt same. elsewhere j lt same (cases_lt j k))
    where
      elsewhere : (j : ℕ) → j < length marks → address_at marks j ≡ address → (j < k) ⊎ (k ≤ j) → ⊥
      elsewhere j lt same (inl before) =
          let less : address_at marks j < address = ranked _ address _ (sym ((parted comparisons_rise).0 j none (omega arith) before)) in
          omega arith
      elsewhere j lt same (inr from) =
          let more : address < address_at marks j = ranked _ address _ (sym ((parted comparisons_rise).1 j none from lt)) in
          omega arith
