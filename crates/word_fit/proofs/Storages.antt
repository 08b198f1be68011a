-- What a clock leaves of the entries of storages that are no registers.
use Rattle.std.proofs.Common.{◌≡◌, ℕ, zero, suc, List, [], ◌∷◌, slice_get, slice_index, Option, Some, None, refl}
use Rattle.net_model.specs.declared.hardware.Netlist.{Netlist}
use Rattle.net_model.specs.declared.hardware.Storage.{Storage}
use Rattle.net_model.specs.declared.hardware.Storage.TheVariants.{Register, Memory, File}
use Rattle.net_model.specs.declared.states.State.{State}
use Rattle.net_model.specs.Nets.{IsRegister}
use Rattle.net_model.specs.Clock.{Next, next_regs, next_state, outcome_of}

pub outcome_next : (v : ℕ → ℕ) (netlist : Netlist) (s t : State) (o : Option ℕ) → outcome_of v netlist s o ≡ Next t → t ≡ next_state v netlist s
outcome_next v netlist s t None e = cc
outcome_next v netlist s t (Some bus) e = cc

pub other_kept : (v : ℕ → ℕ) (storages : List Storage) (regs : List ℕ) (id : ℕ) → (IsRegister (slice_get storages id) → ⊥) → slice_index (next_regs v storages regs) id ≡ slice_index regs id
other_kept v [] regs id h = refl
other_kept v (storage ∷ storages) [] id h = refl
other_kept v (Register name width input when ∷ storages) (old ∷ olds) zero h = absurd (h tt)
other_kept v (Memory cells ∷ storages) (old ∷ olds) zero h = refl
other_kept v (File cells ∷ storages) (old ∷ olds) zero h = refl
other_kept v (storage ∷ storages) (old ∷ olds) (suc id) h = other_kept v storages olds id h

pub register_or_not : {P : Type 0} (o : Option Storage) → (IsRegister o → P) → ((IsRegister o → ⊥) → P) → P
register_or_not None f g = g (λ h. h)
register_or_not (Some (Register name width input when)) f g = f tt
register_or_not (Some (Memory cells)) f g = g (λ h. h)
register_or_not (Some (File cells)) f g = g (λ h. h)
