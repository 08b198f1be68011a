-- What feeds the storages of a netlist: routes, and the words under which a storage is on.
use Rattle.std.specs.Prelude.{◌≡◌, ◌↔◌, ℕ, ◌^◌, ◌<◌, true, List, [], ◌∷◌, length, Option, None, Some, slice_get}
use Rattle.std.specs.List.{slice_index_or}
use Rattle.bit_bdd.specs.Diagrams.{Diagrams, has_word}
use Rattle.ctl_bdd.specs.declared.ControlBits.{ControlBits}
use Rattle.ctl_bdd.specs.Controls.{bits_in}
use Rattle.net_model.specs.declared.hardware.Netlist.{Netlist}
use Rattle.net_model.specs.declared.hardware.Storage.{Storage}
use Rattle.net_model.specs.declared.hardware.Cells.{Cells}
use Rattle.net_model.specs.declared.hardware.Storage.TheVariants.{Register, Memory, File}
use Rattle.net_model.specs.Symbolic.{no_state}
use Rattle.net_model.specs.Exprs.{TransferModel, keep, write, write_at}
use Rattle.net_model.specs.Clock.{is_enabled}
use Rattle.net_model.specs.Transfers.{IsClean}
use Rattle.net_model.specs.Value.{value_of}
use Rattle.sym_expr.specs.declared.pool.Node.{Node}
use Rattle.transfer_set.specs.declared.route.Route.{Route}
use Rattle.transfer_set.specs.declared.sources.Source.{Source}
use Rattle.transfer_set.specs.Routes.{AreRoutes}

-- a transfer that changes something, or none
abbrev pub changes : TransferModel → List TransferModel
changes keep = []
changes (write value) = write value ∷ []
changes (write_at addr value) = write_at addr value ∷ []

-- the set of a net of one bit
abbrev pub only_set : Option (List ℕ) → ℕ
only_set None = 0
only_set (Some sets) = slice_index_or sets 0 0

-- the words under which a storage is on: all of them, or those of the one bit of its write enable
abbrev pub when_set : List (ℕ × List ℕ) → Option ℕ → ℕ
when_set bits None = 1
when_set bits (Some when) = only_set (bits_in bits when)

-- a write enable has one bit
abbrev pub HasSet : List (ℕ × List ℕ) → Option ℕ → Type 0
HasSet bits None = Unit {0}
HasSet bits (Some when) = (set : ℕ) × (bits_in bits when ≡ Some (set ∷ []))

-- the words of this set are those under which a storage is on
pub record IsOnSet (netlist : Netlist) (book : Diagrams) (set : ℕ) (when : Option ℕ) : Type 0 where
  pub within : set < length book.nodes
  pub words : (word : ℕ) → word < 2 ^ book.bits →
      has_word book set word ≡ is_enabled (value_of netlist no_state word) when

-- it is known when a storage is on
abbrev pub IsWhenKnown : Netlist → Diagrams → List (ℕ × List ℕ) → Option ℕ → Type 0
IsWhenKnown netlist book bits when = HasSet bits when × IsOnSet netlist book (when_set bits when) when

abbrev pub IsStorageKnown : Netlist → Diagrams → List (ℕ × List ℕ) → Option Storage → Type 0
IsStorageKnown netlist book bits None = Unit {0}
IsStorageKnown netlist book bits (Some (Register name width input when)) = IsWhenKnown netlist book bits when
IsStorageKnown netlist book bits (Some (Memory cells)) = IsWhenKnown netlist book bits cells.when
IsStorageKnown netlist book bits (Some (File cells)) = IsWhenKnown netlist book bits cells.when

-- what transfers are collected from
pub record AreSources (netlist : Netlist) (book : Diagrams) (pool : List Node)
    (controls : ControlBits) (nets : List (List Route)) : Type 0 where
  pub routes : AreRoutes netlist book pool controls.legal nets
  pub within : controls.legal < length book.nodes
  pub legal : (word : ℕ) → word < 2 ^ book.bits → (has_word book controls.legal word ≡ true) ↔ IsClean netlist word
  pub storages : (id : ℕ) → IsStorageKnown netlist book controls.bits (slice_get netlist.storages id)

abbrev pub IsSource : Source → Diagrams → Type 0
IsSource source book =
    AreSources source.checked.now.netlist book source.pool.now source.controls.now source.routes.now.of

-- a storage with these cells, of either space
pub data IsArray (cells : Cells) : Storage → Type 0 where
  memory : IsArray cells (Memory cells)
  file : IsArray cells (File cells)

pub record IsArrayAt (netlist : Netlist) (id : ℕ) (cells : Cells) : Type 0 where
  pub storage : Storage
  pub is : IsArray cells storage
  pub at : slice_get netlist.storages id ≡ Some storage
