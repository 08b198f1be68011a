-- The view of a netlist with a bank has names of the netlist alone.
use Rattle.std.proofs.Common.{ℕ, zero, suc, List, [], ◌∷◌, map, Option, Some, None, slice_get, option_map, sym, subst}
use Rattle.std.specs.List.{remove}
use Rattle.std.proofs.lemmas.Option.{slice_get-map}
use Rattle.net_model.specs.declared.hardware.Netlist.{Netlist}
use Rattle.net_model.specs.declared.hardware.Code.{Code}
use Rattle.net_model.specs.declared.hardware.Storage.{Storage}
use Rattle.net_model.specs.declared.hardware.Storage.TheVariants.{Register, Memory, File}
use Rattle.net_model.specs.Texts.{first_name, name_in, name_of}
use Rattle.bank_view.specs.Banks.{bank_place, others}
use Rattle.bank_view.specs.Views.{Numbering, joined, numbering_of, renamed_code, view_of}

module _ (P : List ℕ → Type 0) where
  -- names of a list without one of its storages
  removed : (storages : List Storage) (at : ℕ) → ((id : ℕ) → P (name_in (slice_get storages id))) → (id : ℕ) → P (name_in (slice_get (remove storages at) id))
  removed [] zero each id = each id
  removed [] (suc at) each id = each id
  removed (storage ∷ storages) zero each id = each (suc id)
  removed (storage ∷ storages) (suc at) each zero = each zero
  removed (storage ∷ storages) (suc at) each (suc id) = removed storages at (λ k. each (suc k)) id

  joined_name : (d : Netlist) (m : Numbering) (o : Option Storage) → P (name_in o) → P (name_in (option_map (joined d m) o))
  joined_name d m None own = own
  joined_name d m (Some (Register name width input when)) own = own
  joined_name d m (Some (Memory cells)) own = own
  joined_name d m (Some (File cells)) own = own

  pub view_storages : (d : Netlist) → ((id : ℕ) → P (name_of d id)) → (id : ℕ) → P (name_of (view_of d) id)
  view_storages d each id =
      subst (λ (o : Option Storage). P (name_in o)) (sym (slice_get-map (joined d (numbering_of d)) (others d) id))
      (joined_name d (numbering_of d) (slice_get (others d) id) (removed d.storages (bank_place d) each id))

  first_of_view : (d : Netlist) (codes : List Code) → P (first_name codes) → P (first_name (map (renamed_code d) codes))
  first_of_view d [] own = own
  first_of_view d (code ∷ codes) own = own

  pub view_code : (d : Netlist) → P (first_name d.codes) → P (first_name (view_of d).codes)
  view_code d own = first_of_view d d.codes own
