-- Which steps have words, as statements.
use Rattle.net_model.specs.Nets.{file_place}
use Rattle.std.specs.Prelude.{ℕ, List}
use Rattle.net_model.specs.declared.hardware.Netlist.{Netlist}
use Rattle.net_model.specs.Patterns.{Pattern}
use Rattle.form_model.specs.declared.forms.Step.{Step}
use Rattle.form_model.specs.Effects.{Operation, operation_of}
use Rattle.form_model.specs.Live.{AllSpare, Regs, singles}
use Rattle.word_fit.specs.Fits.{FitsJump, fits_over}
use Rattle.word_fit.specs.Groups.{AllHaveWords}
use Rattle.compaction.specs.Formed.{AreWorded, IsJumpWorded}

-- the transfer of a step over a netlist
abbrev pub operation_in : Netlist → List Pattern → Step → Operation
operation_in netlist patterns = operation_of (file_place netlist.storages) patterns

-- steps that have words for every setting and spare what is still needed have words that fit, one
-- step in each group
abbrev pub StepsHaveWords : Type 0
StepsHaveWords =
    (netlist : Netlist) (patterns : List Pattern) (clobbers : Step → Regs) (steps : List Step) (after : Regs) →
    AreWorded netlist patterns clobbers steps → AllSpare (operation_in netlist patterns) clobbers steps after →
    AllHaveWords (operation_in netlist patterns) (fits_over netlist (operation_in netlist patterns)) (singles steps) after

-- a jump or a branch that has a word for every setting has one that fits
abbrev pub JumpsHaveWords : Type 0
JumpsHaveWords =
    (netlist : Netlist) (patterns : List Pattern) (step : Step) → IsJumpWorded netlist patterns step →
    (word : ℕ) × FitsJump netlist word (operation_in netlist patterns step)
