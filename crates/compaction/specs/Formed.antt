-- Steps of patterns that have words for every setting.
use Rattle.std.specs.Prelude.{◌≡◌, ℕ, List, [], ◌∷◌, slice_get, Some}
use Rattle.net_model.specs.declared.hardware.Netlist.{Netlist}
use Rattle.net_model.specs.Fields.{transfer_fields}
use Rattle.net_model.specs.Patterns.{IsPattern, Pattern}
use Rattle.form_model.specs.declared.forms.Step.{Step}
use Rattle.form_model.specs.Live.{Regs, regs_of}
use Rattle.form_set.specs.Promises.{HasWords}
use Rattle.form_set.specs.Words.{CanJump, IsSetting}

-- the step is one of a pattern of the netlist, with values of its field bits
pub record IsOfPattern (netlist : Netlist) (patterns : List Pattern) (step : Step) : Type 0 where
  pub pattern : Pattern
  pub at : slice_get patterns step.pattern ≡ Some pattern
  pub is : IsPattern netlist pattern
  pub setting : IsSetting (transfer_fields pattern.move) step.setting

-- and for each setting some word does the pattern's transfer, steps, and changes nothing that code
-- sees but these clobbers
pub record IsWorded (netlist : Netlist) (patterns : List Pattern) (step : Step) (clobbers : Regs) : Type 0 where
  pub of : IsOfPattern netlist patterns step
  pub mask : ℕ
  pub same : clobbers ≡ regs_of mask
  pub words : HasWords netlist of.pattern mask

-- each step is one, with its clobbers
abbrev pub AreWorded : Netlist → List Pattern → (Step → Regs) → List Step → Type 0
AreWorded netlist patterns clobbers [] = Unit {0}
AreWorded netlist patterns clobbers (x ∷ xs) =
    IsWorded netlist patterns x (clobbers x) × AreWorded netlist patterns clobbers xs

-- for each setting some word does the pattern's transfer and keeps the data memory
pub record IsJumpWorded (netlist : Netlist) (patterns : List Pattern) (step : Step) : Type 0 where
  pub of : IsOfPattern netlist patterns step
  pub words : CanJump netlist of.pattern
