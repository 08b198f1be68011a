-- A clock under a word that fits a group follows the group.
use Rattle.std.proofs.Common.{◌≡◌, inl, inr, ℕ, ◌+◌, ◌%◌, ◌^◌, ◌<◌, ◌≤◌, List, [], ◌∷◌, slice_get, slice_index, slice_set, bit_and, bit_or, sym, ◌∙◌, ap, arith, subst}
use Rattle.std.proofs.lemmas.Nat.{and_le_l}
use Rattle.net_model.specs.declared.hardware.Netlist.{Netlist}
use Rattle.net_model.specs.declared.hardware.Space.{Space}
use Rattle.net_model.specs.declared.hardware.Space.TheVariants.{File as InFile}
use Rattle.net_model.specs.declared.states.State.{State}
use Rattle.net_model.specs.CheckedRules.{KeepsRules}
use Rattle.net_model.specs.Exprs.{ExprModel, TransferModel, keep, write, write_at}
use Rattle.net_model.specs.Meaning.{mean}
use Rattle.net_model.specs.Nets.{IsRegister, place_in, space_at, held, counter_of, counter_width}
use Rattle.net_model.specs.Clock.{clash_in, counter_in, word_at}
use Rattle.net_model.specs.Value.{value_of}
use Rattle.net_model.specs.Widths.{IsState}
use Rattle.net_model.specs.Transfers.{IsClean, Moved, Steps, transfer_at, reg_moved, cells_moved}
use Rattle.net_model.proofs.Effects.{moved}
use Rattle.net_model.proofs.KeptRules.{one_each, sound_of}
use Rattle.net_model.proofs.Masks.{both_left, both_right, masked_self}
use Rattle.net_model.proofs.Storages.{register_within, found, writes_register, stores_cells}
use Rattle.net_model.proofs.TermLaws.{mean_fields}
use Rattle.net_model.proofs.WordWidths.{less_fits, move_fits}
use Rattle.net_model.specs.Fields.{fields, transfer_fields, WordFitsTransfer, WordFitsExpr}
use Rattle.form_model.specs.Effects.{Operation}
use Rattle.form_model.specs.Live.{Regs}
use Rattle.word_fit.specs.Fits.{Does, DoesAll, FitsGroup}
use Rattle.word_fit.specs.Runs.{IsClocked}
use Rattle.word_fit.proofs.Storages.{outcome_next, other_kept, register_or_not}
use Rattle.word_fit.proofs.FilePlaces.{told_space}
use Rattle.word_fit.proofs.Follows.{IsMade, AllMade, follows}

-- an expression means under a setting what it means under the word
pub mean_fixed : (t : ExprModel) (s : State) (w setting f : ℕ) → bit_and w f ≡ setting → WordFitsExpr t w → bit_and w (fields t) ≡ bit_and setting (fields t) → mean t s w ≡ mean t s setting
mean_fixed t s w setting f e fit same =
    mean_fields t s w setting fit (less_fits t w setting (subst (λ n. n ≤ w) e (and_le_l w f)) fit) same

module _ (netlist : Netlist) (order : List ℕ) (keeps : KeepsRules netlist order) (code : List ℕ) (w : ℕ) (s : State) (state : IsState netlist s) (clean : IsClean netlist w) (here : word_at netlist code s ≡ w) where
  -- the clock
  abbrev pub step : Moved netlist code w s
  step = moved netlist code w s (sound_of netlist order keeps) state clean here

  made_by : (q i : ℕ) (space : Space) (move : TransferModel) → transfer_at netlist w q ≡ move → space ≡ space_at netlist q → bit_and w (transfer_fields move) ≡ i → WordFitsTransfer move w → IsMade q i space move s step.next
  made_by q i space keep g at e f = tt
  made_by q i space (write v) g at e f =
      let r : IsRegister (slice_get netlist.storages q) = writes_register netlist w q v (slice_get netlist.storages q) g in (
        subst (λ n. q < n) (sym state.regs) (register_within netlist.storages q r),
        step.regs q r ∙ ap (λ k. reg_moved k s w q) g ∙ mean_fixed v s w i (fields v) e f (masked_self w i (fields v) e),
      )
  made_by q i space (write_at a v) g at e f =
      let own : q ≡ place_in space netlist.storages =
      subst (λ z. q ≡ place_in z netlist.storages) (sym at)
      (found (space_at netlist q) netlist.storages q (one_each netlist keeps.roles (space_at netlist q)) (stores_cells netlist w q a v (slice_get netlist.storages q) g)).place in
      step.cells space ∙ ap (λ k. cells_moved k s w (held s space)) (ap (λ k. transfer_at netlist w k) (sym own) ∙ g)
      ∙ ap (λ k. slice_set (held s space) k (mean v s w)) (mean_fixed a s w i (bit_or (fields a) (fields v)) e f.0 (both_left w i (fields a) (fields v) (masked_self w i (bit_or (fields a) (fields v)) e)))
      ∙ ap (λ k. slice_set (held s space) (mean a s i) k) (mean_fixed v s w i (bit_or (fields a) (fields v)) e f.1 (both_right w i (fields a) (fields v) (masked_self w i (bit_or (fields a) (fields v)) e)))

  made : (d : Operation) → Does netlist w d → IsMade d.storage d.setting d.space d.move s step.next
  made d h =
      made_by d.storage d.setting d.space d.move h.gives (h.space ∙ told_space netlist.storages d.storage (one_each netlist keeps.roles InFile)) h.setting
      (subst (λ k. WordFitsTransfer k w) h.gives (move_fits netlist w clean.fits (sound_of netlist order keeps).typed d.storage))

  all_made : {A : Type 0} (m : A → Operation) (g : List A) → DoesAll netlist m w g → AllMade m g s step.next
  all_made m [] h = tt
  all_made m (x ∷ g) h = (made (m x) h.0, all_made m g h.1)

  -- an entry that is no register's stays
  other : (r : ℕ) → (IsRegister (slice_get netlist.storages r) → ⊥) → slice_index step.next.regs r ≡ slice_index s.regs r
  other r h =
      ap (λ (t : State). slice_index t.regs r) (outcome_next (value_of netlist s (word_at netlist code s)) netlist s step.next (clash_in (value_of netlist s (word_at netlist code s)) netlist.nets) step.clocked)
      ∙ other_kept (value_of netlist s (word_at netlist code s)) netlist.storages s.regs r h

  kept : (r : ℕ) → (IsRegister (slice_get netlist.storages r) → transfer_at netlist w r ≡ keep) → slice_index step.next.regs r ≡ slice_index s.regs r
  kept r h = register_or_not (slice_get netlist.storages r) (λ q. step.regs r q ∙ ap (λ k. reg_moved k s w r) (h q)) (other r)

  -- the program counter, where the word steps
  pub one_on : Steps netlist w → counter_in netlist step.next ≡ (counter_in netlist s + 1) % 2 ^ counter_width netlist
  one_on e =
      let c : ℕ = counter_of netlist.codes in
      let r = step.regs c (sound_of netlist order keeps).counter in
      elim e.step as (λ _. counter_in netlist step.next ≡ (counter_in netlist s + 1) % 2 ^ counter_width netlist) [
        | inl h ↦ r ∙ ap (λ k. reg_moved k s w c) h
        | inr h ↦ r ∙ ap (λ k. reg_moved k s w c) h ∙ ap (λ n. n % 2 ^ counter_width netlist) (swap (slice_index s.regs c))
      ]
    where
      swap : (n : ℕ) → 1 + n ≡ n + 1
      swap n = omega arith

  pub clocks : {A : Type 0} (m : A → Operation) (g : List A) (live : Regs) → FitsGroup netlist m w g live → IsClocked netlist m code g live s
  clocks m g live f = record {
    next = step.next;
    clocked = step.clocked;
    state = step.state;
    follows = follows s step.next (step.state.regs ∙ sym state.regs) m g live (all_made m g f.does)
        (λ space e. step.cells space ∙ ap (λ k. cells_moved k s w (held s space)) (f.cells space e))
        (λ r e h. kept r (λ q. f.registers r q e h));
    counter = one_on f.steps;
  }
