-- What is found of the rules of an image.
use Rattle.std.specs.Prelude.{ℕ, ◌≡◌, ◌≤◌, List, Option, None, Some, IsSomeAnd}
use Rattle.net_model.specs.declared.hardware.Netlist.{Netlist}
use Rattle.net_model.specs.Nets.{memory_size}
use Rattle.src_model.specs.declared.typed.Typed.{Typed}
use Rattle.src_model.specs.Written.{ProgramModel, model_of_program}
use Rattle.code_model.specs.declared.image.Image.{Image}
use Rattle.code_model.specs.declared.views.Viewed.{Viewed}
use Rattle.check_command.specs.Places.{ArePlacesRight, IsPlaceFault}
use Rattle.check_command.specs.Rules.{IsRuleFault, KeepsImageRules}
use Rattle.check_command.specs.Tasks.{CheckTask}
use Rattle.check_command.specs.declared.fault.CheckFault.{CheckFault}
use Rattle.check_command.specs.declared.fault.CheckFault.TheVariants.{Rule, Follow, Memory}
use Rattle.check_command.specs.declared.fault.CheckStop.{CheckStop}
use Rattle.check_command.specs.declared.fault.RuleFault.TheVariants.{Place, Temps}

-- the task of what was read
abbrev pub task_of : Netlist → Typed → Viewed → CheckTask
task_of netlist typed viewed =
    record { netlist = netlist; width = typed.width; program = model_of_program typed.program; viewed = viewed }

-- a broken rule is told, and it is the first
abbrev pub IsRuleTold : CheckTask → CheckFault → Option (List ℕ) → Type 0
IsRuleTold task (Rule fault) name = IsRuleFault task fault name
IsRuleTold task _ name = ⊥

-- one is told, or all are kept
abbrev pub IsBroken : CheckTask → Option CheckStop → Type 0
IsBroken task None = KeepsImageRules task
IsBroken task (Some stop) = IsRuleTold task stop.fault stop.name

-- the first rule that is broken is told, or that words aren't shown to follow, of an image that breaks
-- none; nothing is said where memory is wanting
abbrev pub IsTaskTold : CheckTask → CheckFault → Option (List ℕ) → Type 0
IsTaskTold task (Rule fault) name = IsRuleFault task fault name
IsTaskTold task (Follow origin cause) name = KeepsImageRules task
IsTaskTold task Memory name = Unit {0}
IsTaskTold task _ name = ⊥

abbrev pub IsTaskStop : CheckTask → CheckStop → Type 0
IsTaskStop task stop = IsTaskTold task stop.fault stop.name

-- what is told of places and temporary cells, or that they are right
abbrev pub IsPlaceTold : Netlist → ProgramModel → Image → CheckFault → Option (List ℕ) → Type 0
IsPlaceTold netlist l image (Rule Place) name = IsSomeAnd name (IsPlaceFault l.vars image (memory_size netlist.storages))
IsPlaceTold netlist l image (Rule Temps) name =
    (name ≡ None) × ArePlacesRight l.vars image (memory_size netlist.storages)
    × (image.temps ≤ memory_size netlist.storages → ⊥)
IsPlaceTold netlist l image _ name = ⊥

abbrev pub IsPlaceStop : Netlist → ProgramModel → Image → Option CheckStop → Type 0
IsPlaceStop netlist l image None =
    ArePlacesRight l.vars image (memory_size netlist.storages) × (image.temps ≤ memory_size netlist.storages)
IsPlaceStop netlist l image (Some stop) = IsPlaceTold netlist l image stop.fault stop.name
