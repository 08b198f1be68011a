-- A netlist with its patterns, as assembler texts speak of it.
use Rattle.std.specs.Prelude.{◌≡◌, ◌≤◌, ℕ, List, map}
use Rattle.net_model.specs.declared.hardware.Netlist.{Netlist}
use Rattle.net_front.specs.Fronts.{taken_of}
use Rattle.net_model.specs.Patterns.{ArePatterns, Pattern}
use Rattle.net_model.specs.Texts.{text_of_transfer}
use Rattle.net_model.specs.Written.{UnitsModel}
use Rattle.isa_extract.specs.Extracts.{IsRoutedFile}

pub record Machine : Type 0 where
  pub netlist : Netlist
  pub patterns : List Pattern

-- the newest edition of the netlist texts for which words are assembled, that of register files: a
-- text of a later one has a netlist, and patterns, for each mode, or a second data memory
abbrev pub assembled_edition : ℕ
assembled_edition = 2

-- the bytes are a netlist text of such an edition that keeps all rules, and the machine is its
-- netlist, with all patterns in their order
pub record IsMachine (net : List ℕ) (machine : Machine) : Type 0 where
  pub entries : UnitsModel
  pub file : IsRoutedFile net entries
  pub taken : entries.edition ≤ assembled_edition
  pub netlist : machine.netlist ≡ taken_of entries
  pub patterns : ArePatterns machine.netlist machine.patterns

-- the texts of the transfers, by the patterns' numbers
abbrev pub move_texts : Netlist → List Pattern → List (List ℕ)
move_texts netlist patterns = map (λ (p : Pattern). text_of_transfer netlist p.storage p.move) patterns

abbrev pub texts_of : Machine → List (List ℕ)
texts_of machine = move_texts machine.netlist machine.patterns

-- some machine's
pub record IsMachineText (net : List ℕ) : Type 0 where
  pub machine : Machine
  pub is : IsMachine net machine
