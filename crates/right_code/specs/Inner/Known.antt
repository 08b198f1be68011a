-- Patterns of a netlist with what their expressions are.
use Rattle.std.specs.Prelude.{ℕ, ◌≡◌, List, Some, slice_get}
use Rattle.net_model.specs.declared.hardware.Netlist.{Netlist}
use Rattle.net_model.specs.Patterns.{IsPattern, Pattern}
use Rattle.transfer_set.specs.Inner.Widths.{TransferFits}
use Rattle.transfer_set.specs.TextMarks.{IsTransferOf}

-- a pattern of the netlist, of its expressions
pub record IsKnownPattern (netlist : Netlist) (pattern : Pattern) : Type 0 where
  pub is : IsPattern netlist pattern
  pub exprs : IsTransferOf netlist pattern.move
  pub fits : TransferFits pattern.move

abbrev pub AreKnown : Netlist → List Pattern → Type 0
AreKnown netlist patterns =
    (k : ℕ) (pattern : Pattern) → slice_get patterns k ≡ Some pattern →
    IsKnownPattern netlist pattern
