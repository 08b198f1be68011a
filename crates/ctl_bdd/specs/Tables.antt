-- A list of sets for each net, empty where there are none.
use Rattle.std.specs.Prelude.{◌≡◌, ℕ, ◌^◌, ◌<◌, true, List, [], length, slice_index_or}
use Rattle.net_model.specs.declared.hardware.Netlist.{Netlist}
use Rattle.net_model.specs.declared.hardware.Gate.{Gate}
use Rattle.net_model.specs.Nets.{width_at}
use Rattle.net_model.specs.Symbolic.{no_state}
use Rattle.net_model.specs.Value.{gate_value, value_of}
use Rattle.bit_bdd.specs.Diagrams.{Diagrams}
use Rattle.ctl_bdd.specs.Bits.{AreSets, number_at}
use Rattle.ctl_bdd.specs.Places.{is_static_control}

-- the sets of a net
abbrev pub sets_at : List (List ℕ) → ℕ → List ℕ
sets_at table n = slice_index_or table n []

-- the numbers that the nets' sets give at a word
abbrev pub numbers_at : Diagrams → List (List ℕ) → ℕ → ℕ → ℕ
numbers_at book table word n = number_at book (sets_at table n) word

-- all are sets of the book
pub record IsBitTable (book : Diagrams) (table : List (List ℕ)) : Type 0 where
  pub sets : (n : ℕ) → AreSets book (sets_at table n)

-- a set for each bit of a net, in which the words lie under which the net's value has that bit
pub record AreBits (netlist : Netlist) (book : Diagrams) (n : ℕ) (sets : List ℕ) : Type 0 where
  pub long : length sets ≡ width_at netlist n
  pub number : (word : ℕ) → word < 2 ^ book.bits → number_at book sets word ≡ value_of netlist no_state word n

-- ---- gates

-- a set for each bit of a gate's value, in a book that has grown
pub record AreGateBits (netlist : Netlist) (old new : Diagrams) (table : List (List ℕ)) (width : ℕ)
    (gate : Gate) (out : List ℕ) : Type 0 where
  pub sets : AreSets new out
  pub long : length out ≡ width
  pub number : (word : ℕ) → word < 2 ^ old.bits →
      number_at new out word ≡ gate_value (numbers_at old table word) netlist no_state word width gate

-- ---- control

-- the sets of each static net in a control place
pub record HasControls (netlist : Netlist) (book : Diagrams) (table : List (List ℕ)) : Type 0 where
  pub sets : IsBitTable book table
  pub bits : (n : ℕ) → n < length netlist.nets → is_static_control netlist n ≡ true →
      AreBits netlist book n (sets_at table n)
