-- What the set of the words without clash says.
use Rattle.std.specs.Prelude.{◌≡◌, ◌↔◌, ℕ, ◌^◌, ◌<◌, true, length}
use Rattle.bit_bdd.specs.Diagrams.{Diagrams, has_word}
use Rattle.net_model.specs.declared.hardware.Netlist.{Netlist}
use Rattle.net_model.specs.Transfers.{IsClean}

-- the words without clash
pub record IsCleanSet (netlist : Netlist) (book : Diagrams) (set : ℕ) : Type 0 where
  pub within : set < length book.nodes
  pub words : (word : ℕ) → word < 2 ^ book.bits → (has_word book set word ≡ true) ↔ IsClean netlist word
