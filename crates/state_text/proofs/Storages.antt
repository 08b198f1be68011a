-- Storages of a checked netlist.
use Rattle.std.proofs.Common.{◌≡◌, ℕ, zero, suc, List, [], ◌∷◌, Option, Some, refl, subst, sym}
use Rattle.std.proofs.lemmas.Option.{same_Some}
use Rattle.std.specs.Prelude.{slice_get}
use Rattle.std.specs.List.{AllByRecursion}
use Rattle.net_model.specs.declared.hardware.Netlist.{Netlist}
use Rattle.net_model.specs.declared.hardware.Storage.{Storage}
use Rattle.net_model.specs.declared.hardware.Storage.TheVariants.{Register, Memory, File}
use Rattle.net_model.specs.Nets.{storage_bits}
use Rattle.state_text.specs.Inner.Settings.{named_at, setting_at, setting_for}
use Rattle.net_model.specs.CheckedRules.{StorageKeeps}
use Rattle.rec_bits.specs.Operators.{IsWidth}

storage_width : (netlist : Netlist) (storage : Storage) → StorageKeeps netlist storage → IsWidth (storage_bits (Some storage))
storage_width netlist (Register name width input when) k = k.0
storage_width netlist (Memory cells) k = k.0
storage_width netlist (File cells) k = k.0

pub width_of_storage : (netlist : Netlist) (storages : List Storage) (id : ℕ) (storage : Storage) → AllByRecursion (StorageKeeps netlist) storages → slice_get storages id ≡ Some storage → IsWidth (storage_bits (Some storage))
width_of_storage netlist [] id storage k e = absurd cc
width_of_storage netlist (s ∷ storages) zero storage k e = storage_width netlist storage (subst (StorageKeeps netlist) (same_Some s storage e) k.0)
width_of_storage netlist (s ∷ storages) (suc id) storage k e = width_of_storage netlist storages id storage k.1 e

pub found_storage : (netlist : Netlist) (still : Option ℕ) (name text : List ℕ) (id : ℕ) (storage : Storage) → named_at netlist.storages name ≡ Some id → slice_get netlist.storages id ≡ Some storage →
    setting_at netlist still id (Some storage) text ≡ setting_for netlist still name text
unfolding setting_for
found_storage netlist still name text id storage e f = sym (rw (e, f) refl)
