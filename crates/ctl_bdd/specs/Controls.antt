-- What is told of a netlist's control: the bits of static nets in control places, and the words
-- without clash.
use Rattle.std.specs.Prelude.{◌≡◌, ◌↔◌, ℕ, ◌^◌, ◌<◌, ◌==◌, if◌then◌else◌, true, List, [], ◌∷◌, length, map, Option, None, Some, slice_index}
use Rattle.std.specs.List.{AllByRecursion}
use Rattle.std.specs.Int.{bit_at}
use Rattle.net_model.specs.declared.hardware.Netlist.{Netlist}
use Rattle.net_model.specs.Symbolic.{no_state}
use Rattle.net_model.specs.Value.{value_of}
use Rattle.net_model.specs.Transfers.{IsClean, ClashesAlways}
use Rattle.bit_bdd.specs.Diagrams.{Diagrams, has_word}
use Rattle.ctl_bdd.specs.Bits.{AreSets}
use Rattle.ctl_bdd.specs.Places.{static_controls}
use Rattle.ctl_bdd.specs.Tables.{AreBits}
use Rattle.ctl_bdd.specs.declared.ControlBits.{ControlBits}
use Rattle.ctl_bdd.specs.declared.CtlFault.{CtlFault}
use Rattle.ctl_bdd.specs.declared.CtlFault.TheVariants.{AlwaysClash, Memory}

-- the sets of a net's bits: each holds exactly the words under which the net's value has that bit
pub record IsNetBits (netlist : Netlist) (book : Diagrams) (net : ℕ × List ℕ) : Type 0 where
  pub sets : AreSets book net.1
  pub number : AreBits netlist book net.0 net.1
  pub bits : (k word : ℕ) → k < length net.1 → word < 2 ^ book.bits →
      has_word book (slice_index net.1 k) word ≡ (bit_at (value_of netlist no_state word net.0) k == 1)

-- the bits of each static net in a control place, and the words without clash, of which there is
-- one
pub record IsControl (netlist : Netlist) (book : Diagrams) (controls : ControlBits) : Type 0 where
  pub nets : map (λ (net : ℕ × List ℕ). net.0) controls.bits ≡ static_controls netlist
  pub bits : AllByRecursion (IsNetBits netlist book) controls.bits
  pub within : controls.legal < length book.nodes
  pub legal : (word : ℕ) → word < 2 ^ book.bits → (has_word book controls.legal word ≡ true) ↔ IsClean netlist word
  pub some : (word : ℕ) × (word < 2 ^ book.bits) × IsClean netlist word

-- the sets that stand with a net
abbrev pub bits_in : List (ℕ × List ℕ) → ℕ → Option (List ℕ)
bits_in [] n = None
bits_in (net ∷ nets) n = if net.0 == n then Some net.1 else bits_in nets n

-- each word of the code clashes; want of memory has no cause
abbrev pub HasControlCause : Netlist → CtlFault → Type 0
HasControlCause netlist AlwaysClash = ClashesAlways netlist
HasControlCause netlist Memory = Unit {0}
