-- What sets of words say of a netlist.
use Rattle.std.specs.Prelude.{◌≡◌, ◌↔◌, ℕ, ◌^◌, ◌<◌, true, length}
use Rattle.bit_bdd.specs.Diagrams.{Diagrams, has_word}
use Rattle.net_model.specs.declared.hardware.Netlist.{Netlist}
use Rattle.net_model.specs.Transfers.{Keeps, StepsOn}

-- the words without clash under which a storage keeps what it holds
pub record IsKeepSet (netlist : Netlist) (book : Diagrams) (storage set : ℕ) : Type 0 where
  pub within : set < length book.nodes
  pub words : (word : ℕ) → word < 2 ^ book.bits → (has_word book set word ≡ true) ↔ Keeps netlist storage word

-- the words without clash that step
pub record IsStepSet (netlist : Netlist) (book : Diagrams) (set : ℕ) : Type 0 where
  pub within : set < length book.nodes
  pub words : (word : ℕ) → word < 2 ^ book.bits → (has_word book set word ≡ true) ↔ StepsOn netlist word
