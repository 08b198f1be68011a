-- Words of jumps and branches that keep the mode.
use Rattle.std.specs.Prelude.{ℕ, Option}
use Rattle.net_model.specs.declared.hardware.Netlist.{Netlist}
use Rattle.code_model.specs.Words.{KeepsMode}
use Rattle.form_model.specs.Effects.{Operation}
use Rattle.word_fit.specs.Fits.{FitsJump}

-- a jump or branch word that fits a transfer and keeps the mode, where there is one
pub record FitsTurn (netlist : Netlist) (special : Option ℕ) (word : ℕ) (d : Operation) : Type 0 where
  pub fits : FitsJump netlist word d
  pub mode : KeepsMode special netlist word
