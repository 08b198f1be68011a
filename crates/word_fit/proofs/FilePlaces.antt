-- Which storage has the cells of the register file.
use Rattle.std.proofs.Common.{◌≡◌, ℕ, zero, suc, ◌<◌, ◌≤◌, ◌==◌, nat_lt, if◌then◌else◌, Bool, true, false, List, [], ◌∷◌, length, Option, Some, None, refl, sym, ◌∙◌, ap, arith, subst}
use Rattle.std.specs.List.{slice_get}
use Rattle.std.proofs.lemmas.Bool.{eqb-true, eqb-false, ltb-true, ltb-false}
use Rattle.rec_bits.proofs.Lists.{slice_get_past}
use Rattle.net_model.specs.declared.hardware.Space.{Space}
use Rattle.net_model.specs.declared.hardware.Space.TheVariants.{Memory as InMemory, File as InFile}
use Rattle.net_model.specs.declared.hardware.Storage.{Storage}
use Rattle.net_model.specs.declared.hardware.Storage.TheVariants.{Register, Memory, File}
use Rattle.net_model.specs.CheckedRules.{count_in}
use Rattle.net_model.specs.declared.hardware.Netlist.{Netlist}
use Rattle.net_model.specs.Exprs.{keep}
use Rattle.net_model.specs.Transfers.{transfer_at, transfer_of}
use Rattle.net_model.specs.Nets.{HasCells, file_place, place_in, space_of}
use Rattle.net_model.proofs.Storages.{found}
use Rattle.form_model.specs.Effects.{space_in}

-- the storage of the file's place is a file
file_there : (storages : List Storage) → place_in InFile storages < length storages → HasCells InFile (slice_get storages (place_in InFile storages))
file_there [] lt = absurd (omega (arith, lt))
file_there (Register name width input when ∷ storages) lt = file_there storages (omega (arith, lt))
file_there (Memory cells ∷ storages) lt = file_there storages (omega (arith, lt))
file_there (File cells ∷ storages) lt = tt

within : (storages : List Storage) (id : ℕ) → HasCells InFile (slice_get storages id) → id < length storages
within [] id h = absurd h
within (s ∷ storages) zero h = omega arith
within (s ∷ storages) (suc id) h = omega (arith, within storages id h)

space_is : (o : Option Storage) → HasCells InFile o → space_of o ≡ InFile
space_is None h = absurd h
space_is (Some (Register name width input when)) h = absurd h
space_is (Some (Memory cells)) h = absurd h
space_is (Some (File cells)) h = refl

space_other : (o : Option Storage) → (HasCells InFile o → ⊥) → space_of o ≡ InMemory
space_other None n = refl
space_other (Some (Register name width input when)) n = refl
space_other (Some (Memory cells)) n = refl
space_other (Some (File cells)) n = absurd (n tt)

-- what is told of a storage by the file's place is what it is
pub told_space : (storages : List Storage) (id : ℕ) → count_in InFile storages ≤ 1 → space_in (file_place storages) id ≡ space_of (slice_get storages id)
told_space storages id one = by (nat_lt (place_in InFile storages) (length storages)) refl
  where
    here : (b : Bool) → (place_in InFile storages == id) ≡ b → place_in InFile storages < length storages → (if b then InFile else InMemory) ≡ space_of (slice_get storages id)
    here true e lt = sym (space_is (slice_get storages id) (subst (λ k. HasCells InFile (slice_get storages k)) (eqb-true _ id e) (file_there storages lt)))
    here false e lt = sym (space_other (slice_get storages id) (λ h. eqb-false _ id e (sym (found InFile storages id one h).place)))

    by : (b : Bool) → nat_lt (place_in InFile storages) (length storages) ≡ b → space_in (if b then Some (place_in InFile storages) else None) id ≡ space_of (slice_get storages id)
    by true e = here (place_in InFile storages == id) refl (ltb-true _ _ e)
    by false e =
        sym (space_other (slice_get storages id)
        (λ h. (let same : id ≡ place_in InFile storages = (found InFile storages id one h).place in
        let lt : id < length storages = within storages id h in
        let ge : length storages ≤ place_in InFile storages = ltb-false _ _ e in
        absurd (omega (arith, same, lt, ge)))))

-- ---- the file's place

pub file_told : (storages : List Storage) → place_in InFile storages < length storages → file_place storages ≡ Some (place_in InFile storages)
file_told storages lt = by (nat_lt (place_in InFile storages) (length storages)) refl
  where
    by : (b : Bool) → nat_lt (place_in InFile storages) (length storages) ≡ b → (if b then Some (place_in InFile storages) else None) ≡ Some (place_in InFile storages)
    by true e = refl
    by false e = absurd (omega (arith, ltb-false _ _ e, lt))

pub file_at : (storages : List Storage) (id : ℕ) → file_place storages ≡ Some id → id ≡ place_in InFile storages
file_at storages id = by (nat_lt (place_in InFile storages) (length storages))
  where
    by : (b : Bool) → (if b then Some (place_in InFile storages) else None) ≡ Some id → id ≡ place_in InFile storages
    by true e = cc
    by false e = absurd (cc)

pub past_keeps : (netlist : Netlist) (word id : ℕ) → length netlist.storages ≤ id → transfer_at netlist word id ≡ keep
past_keeps netlist word id ge = ap (λ (o : Option Storage). transfer_of netlist word id o) (slice_get_past netlist.storages id ge)

-- ---- what is told of the storage of a space's place

memory_there : (storages : List Storage) → place_in InMemory storages < length storages → HasCells InMemory (slice_get storages (place_in InMemory storages))
memory_there [] lt = absurd (omega (arith, lt))
memory_there (Register name width input when ∷ storages) lt = memory_there storages (omega (arith, lt))
memory_there (Memory cells ∷ storages) lt = tt
memory_there (File cells ∷ storages) lt = memory_there storages (omega (arith, lt))

not_both : (o : Option Storage) → HasCells InMemory o → HasCells InFile o → ⊥
not_both None h k = h
not_both (Some (Register name width input when)) h k = h
not_both (Some (Memory cells)) h k = k
not_both (Some (File cells)) h k = h

pub own_space : (storages : List Storage) (id : ℕ) (space : Space) → id < length storages → id ≡ place_in space storages → space_in (file_place storages) id ≡ space
own_space storages id InFile lt same = ap (λ o. space_in o id) (file_told storages (subst (λ k. k < length storages) same lt)) ∙ here (place_in InFile storages == id) refl
  where
    here : (b : Bool) → (place_in InFile storages == id) ≡ b → (if b then InFile else InMemory) ≡ InFile
    here true e = refl
    here false e = absurd (eqb-false _ id e (sym same))
own_space storages id InMemory lt same = by (nat_lt (place_in InFile storages) (length storages)) refl
  where
    here : (b : Bool) → (place_in InFile storages == id) ≡ b → place_in InFile storages < length storages → (if b then InFile else InMemory) ≡ InMemory
    here true e n =
        absurd (not_both (slice_get storages id)
        (subst (λ k. HasCells InMemory (slice_get storages k)) (sym same) (memory_there storages (subst (λ k. k < length storages) same lt)))
        (subst (λ k. HasCells InFile (slice_get storages k)) (eqb-true _ id e) (file_there storages n)))
    here false e n = refl

    by : (b : Bool) → nat_lt (place_in InFile storages) (length storages) ≡ b → space_in (if b then Some (place_in InFile storages) else None) id ≡ InMemory
    by true e = here (place_in InFile storages == id) refl (ltb-true _ _ e)
    by false e = refl
