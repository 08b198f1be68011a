-- A clock of the view under the word at the program counter.
use Rattle.std.proofs.Common.{◌≡◌, ℕ, List, length, slice_index, Option, Some, None, refl, ap, sym, ◌∙◌, subst}
use Rattle.net_model.specs.declared.hardware.Netlist.{Netlist}
use Rattle.net_model.specs.declared.states.State.{State}
use Rattle.net_model.specs.Clock.{Next, clash_in, clock, counter_in, next_state, outcome_of, step, word_at}
use Rattle.net_model.specs.Order.{IsOrder}
use Rattle.net_model.specs.Value.{value_of}
use Rattle.net_model.specs.Widths.{IsState, ValuesFit, WordFits}
use Rattle.net_model.proofs.Fits.{value_fits}
use Rattle.net_model.proofs.NextStates.{next_fits}
use Rattle.bank_view.specs.Clocks.{IsClash, IsViewed, WritesBoth}
use Rattle.bank_view.specs.Keeping.{HasBanks, KeepsBanks}
use Rattle.bank_view.specs.Views.{join_state, view_of}
use Rattle.bank_view.proofs.Beside.{banks_of, typed_beside}
use Rattle.bank_view.proofs.Clocks.{both, one}
use Rattle.bank_view.proofs.Kept.{same_counter}

module _ (d : Netlist) (order : List ℕ) (k : KeepsBanks d order) (places : List ℕ) (vo : IsOrder (view_of d) places) (words : List ℕ) (fits : (a : ℕ) → WordFits d (slice_index words a)) where
  -- where it doesn't clash, it is a clock of the netlist, to a state that fits
  pub goes : (s u : State) → IsState d s → clock (view_of d) words (join_state d s) ≡ Next u → (t : State) × (clock d words s ≡ Next t) × (u ≡ join_state d t) × IsState d t
  goes s u is e =
      let word : ℕ = word_at d words s in
      let w : WordFits d word = fits (counter_in d s) in
      let f : step (view_of d) (join_state d s) word ≡ Next u =
      ap (λ c. step (view_of d) (join_state d s) (slice_index words c)) (sym (same_counter d (banks_of d order k) s)) ∙ e in
      let never : WritesBoth d s word → ⊥ = λ b. subst IsClash f (both d order k places vo s word is w b) in
      let v : IsViewed d (step d s word) (Next u) = subst (IsViewed d (step d s word)) f (one d order k places vo s word is w never) in
      by (clash_in (value_of d s word) d.nets) v
    where
      by : (o : Option ℕ) → IsViewed d (outcome_of (value_of d s (word_at d words s)) d s o) (Next u) → (t : State) × (outcome_of (value_of d s (word_at d words s)) d s o ≡ Next t) × (u ≡ join_state d t) × IsState d t
      by None v =
          let typed = typed_beside d (banks_of d order k) in
          let fit : ValuesFit d (value_of d s (word_at d words s)) =
          record { fits = λ n. value_fits d s (word_at d words s) typed is.fits (fits (counter_in d s)) (length d.nets) n } in
          (next_state (value_of d s (word_at d words s)) d s, refl, v, next_fits d (value_of d s (word_at d words s)) fit s typed is)
      by (Some bus) v = absurd v
