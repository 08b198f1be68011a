-- A storage's transfer depends on the nets that feed it alone.
use Rattle.std.proofs.Common.{◌≡◌, ℕ, ◌<◌, if◌then◌else◌, Some, List, [], ◌∷◌, ◌++◌, length, get_or, slice_get, inl, inr, refl, sym, ap, subst, ◌∙◌}
use Rattle.std.proofs.lemmas.Option.{slice_get_read}
use Rattle.rec_bits.proofs.Lists.{pushed_at, all_at}
use Rattle.word_moves.specs.declared.moves.StorageMove.{StorageMove}
use Rattle.net_model.specs.declared.hardware.Netlist.{Netlist}
use Rattle.net_model.specs.declared.hardware.Storage.{Storage}
use Rattle.net_model.specs.declared.hardware.Storage.TheVariants.{Register, Memory, File}
use Rattle.net_model.specs.declared.hardware.Cells.{Cells}
use Rattle.net_model.specs.Exprs.{ExprModel, keep, write, write_at}
use Rattle.net_model.specs.Value.{value_of}
use Rattle.net_model.specs.Widths.{ArrayFits, StorageFits, IsTyped}
use Rattle.net_model.specs.Symbolic.{no_state, sym_of}
use Rattle.net_model.specs.Clock.{is_enabled}
use Rattle.net_model.specs.Transfers.{same_reg, array_transfer, storage_transfer, transfer_of, transfer_at}
use Rattle.sym_expr.specs.declared.pool.Node.{Node}
use Rattle.word_moves.specs.Inner.Gates.{StorageKnown, net_exprs}
use Rattle.word_moves.specs.Inner.Ids.{AreIds}
use Rattle.word_moves.specs.Moves.{IsMoveWithin, transfer_in}

module _ (netlist : Netlist) (word : ℕ) (nodes : List Node) (ids : List ℕ) (a : AreIds netlist word nodes ids) where
  pub storage_known : (storage : Storage) → StorageFits netlist storage → StorageKnown nodes ids storage
  storage_known (Register name width input when) f = a.within input f.0.0
  storage_known (Memory cells) f = (a.within cells.addr f.1.0, a.within cells.value f.0.0)
  storage_known (File cells) f = (a.within cells.addr f.1.0, a.within cells.value f.0.0)

  array_same : (u : ℕ → ℕ) (cells : Cells) → ArrayFits netlist cells → array_transfer (net_exprs nodes ids) u cells ≡ array_transfer (sym_of netlist word) u cells
  array_same u cells f =
      let x = a.exprs cells.addr f.1.0 in
      let y = a.exprs cells.value f.0.0 in
      (λ j. if is_enabled u cells.when then write_at (x j) (y j) else keep)

  pub storage_same : (u : ℕ → ℕ) (id : ℕ) (storage : Storage) → StorageFits netlist storage → storage_transfer (net_exprs nodes ids) u id storage ≡ storage_transfer (sym_of netlist word) u id storage
  storage_same u id (Register name width input when) f =
      ap (λ (e : ExprModel). if is_enabled u when then (if same_reg e id then keep else write e) else keep) (a.exprs input f.0.0)
  storage_same u id (Memory cells) f = array_same u cells f
  storage_same u id (File cells) f = array_same u cells f

-- ---- one more storage

module _ (netlist : Netlist) (word : ℕ) (nodes : List Node) (ids : List ℕ) (a : AreIds netlist word nodes ids) (u : ℕ → ℕ) (values : u ≡ value_of netlist no_state word) (typed : IsTyped netlist) (moves : List StorageMove) (i : ℕ) (long : length moves ≡ i)
    (storage : Storage) (is : storage ≡ get_or netlist.storages i storage) (inside : i < length netlist.storages) (move : StorageMove) where
  pub more_within : ((id : ℕ) (m : StorageMove) → slice_get moves id ≡ Some m → IsMoveWithin nodes m) → IsMoveWithin nodes move → (id : ℕ) (m : StorageMove) → slice_get (moves ++ move ∷ []) id ≡ Some m → IsMoveWithin nodes m
  more_within before this id m at = elim (pushed_at moves move id m at) as (λ _. IsMoveWithin nodes m) [
    | inl w ↦ before id m w.1
    | inr w ↦ subst (IsMoveWithin nodes) w.1 this
  ]

  pub more_are : ((id : ℕ) (m : StorageMove) → slice_get moves id ≡ Some m → transfer_in nodes m ≡ transfer_at netlist word id) → transfer_in nodes move ≡ storage_transfer (net_exprs nodes ids) u i storage → (id : ℕ) (m : StorageMove) → slice_get (moves ++ move ∷ []) id ≡ Some m → transfer_in nodes m ≡ transfer_at netlist word id
  more_are before this id m at =
      let there : slice_get netlist.storages i ≡ Some storage = slice_get_read netlist.storages (length netlist.storages) i storage refl inside is in
      let fits : StorageFits netlist storage = all_at (StorageFits netlist) netlist.storages i storage typed.storages there in
      let here : transfer_in nodes move ≡ transfer_at netlist word i =
      this ∙ storage_same netlist word nodes ids a u i storage fits
      ∙ ap (λ v. storage_transfer (sym_of netlist word) v i storage) values
      ∙ sym (ap (transfer_of netlist word i) there) in
      elim (pushed_at moves move id m at) as (λ _. transfer_in nodes m ≡ transfer_at netlist word id) [
        | inl w ↦ before id m w.1
        | inr w ↦
            let same : id ≡ i = w.0 ∙ long in
            subst (λ k. transfer_in nodes m ≡ transfer_at netlist word k) (sym same) (subst (λ n. transfer_in nodes n ≡ transfer_at netlist word i) w.1 here)
      ]
