-- Refusals: those before any job is told of, and none behind that but those of the end.
use Rattle.std.proofs.Common.{◌≡◌, ◌≢◌, ℕ, List, arith, refl, subst}
use Rattle.net_model.specs.declared.hardware.Netlist.{Netlist}
use Rattle.code_gen.specs.Refusals.{HasJumps, IsFormless}
use Rattle.code_gen.specs.declared.fault.CodeFault.{CodeFault}
use Rattle.code_gen.specs.declared.fault.CodeFault.TheVariants.{NoStep as Stepless, NoJump as Jumpless, NoCover as Uncovered, NoReach as Beyond, ImageFull as Overlong, Memory as CodeMemory}
use Rattle.compile_command.specs.Code.{HasRoom, IsDataFull, IsPlaceFault, IsTaskFault}
use Rattle.compile_command.specs.Compiled.{IsCompileFault, IsSrcFault}
use Rattle.compile_command.specs.Inner.Faults.{code_fault}
use Rattle.compile_command.specs.declared.fault.CompileFault.{CompileFault}
use Rattle.compile_command.specs.declared.fault.CompileFault.TheVariants.{NetText, Net, SrcText, Src, DataFull, NoStep, NoJump, NoCover, NoReach, ImageFull, Memory}
use Rattle.right_code.specs.Tasks.{Task}
use Rattle.explain_command.specs.Explained.{HasTakenNet, IsExplainFault, IsLateFault, IsUntaken}
use Rattle.explain_command.specs.Inner.Telling.{IsEarlyFault}

-- why a netlist has no forms to make code of
early_of_own : (task : Task) → HasRoom task → (fault : CodeFault) → IsFormless task.netlist fault → IsEarlyFault task (code_fault fault)
early_of_own task room Stepless h = (room, h)
early_of_own task room Jumpless h = (room, (record { steps = h.0 }, h.1))
early_of_own task room (Uncovered number) h = absurd h
early_of_own task room (Beyond bound reach) h = absurd h
early_of_own task room (Overlong len size bound) h = absurd h
early_of_own task room CodeMemory h = tt

pub early_of_forms : (task : Task) (netlist : Netlist) → netlist ≡ task.netlist → HasRoom task → (fault : CodeFault) → IsFormless netlist fault → IsEarlyFault task (code_fault fault)
early_of_forms task netlist same room fault h = early_of_own task room fault (subst (λ (n : Netlist). IsFormless n fault) same h)

-- why its program has no places
pub early_of_places : (task : Task) (fault : CompileFault) → IsPlaceFault task fault → IsEarlyFault task fault
early_of_places task (NetText at) h = absurd h
early_of_places task (Net fault) h = absurd h
early_of_places task (SrcText at) h = absurd h
early_of_places task (Src fault) h = absurd h
early_of_places task (DataFull need have) h = h
early_of_places task NoStep h = absurd h
early_of_places task NoJump h = absurd h
early_of_places task (NoCover number) h = absurd h
early_of_places task (NoReach bound reach) h = absurd h
early_of_places task (ImageFull len size bound) h = absurd h
early_of_places task Memory h = tt

-- a program that has room needs no more cells than there are
too_few : (task : Task) (need have : ℕ) → HasRoom task → IsDataFull need have task → ⊥
too_few task need have room full =
    let a = room.room in let b = full.needs in let c = full.has in let d = full.more in omega (arith, a, b, c, d)

-- why it has no code, where it has room and its netlist a step and a jump
pub late : (task : Task) → HasRoom task → HasJumps task → (fault : CompileFault) → fault ≢ Memory → IsTaskFault task fault → IsLateFault task fault
late task room jumps (NetText at) some h = absurd h
late task room jumps (Net fault) some h = absurd h
late task room jumps (SrcText at) some h = absurd h
late task room jumps (Src fault) some h = absurd h
late task room jumps (DataFull need have) some h = absurd (too_few task need have room h)
late task room jumps NoStep some h = absurd (jumps.steps.steps h.1)
late task room jumps NoJump some h = absurd (jumps.jumps h.1.1)
late task room jumps (NoCover number) some h = h
late task room jumps (NoReach bound reach) some h = h
late task room jumps (ImageFull len size bound) some h = h
late task room jumps Memory some h = absurd (some refl)

-- ---- from the parts to the two texts

module _ (net src : List ℕ) where
  pub of_netlist : (fault : CompileFault) → IsUntaken net fault → IsExplainFault net src fault
  of_netlist (NetText at) h = h
  of_netlist (Net fault) h = h
  of_netlist (SrcText at) h = absurd h
  of_netlist (Src fault) h = absurd h
  of_netlist (DataFull need have) h = absurd h
  of_netlist NoStep h = absurd h
  of_netlist NoJump h = absurd h
  of_netlist (NoCover number) h = absurd h
  of_netlist (NoReach bound reach) h = absurd h
  of_netlist (ImageFull len size bound) h = absurd h
  of_netlist Memory h = tt

  module _ (has : HasTakenNet net) where
    pub of_program : (width : ℕ) (fault : CompileFault) → IsSrcFault src width fault → IsCompileFault net src fault → IsExplainFault net src fault
    of_program width (NetText at) h k = absurd h
    of_program width (Net fault) h k = absurd h
    of_program width (SrcText at) h k = (has, k)
    of_program width (Src fault) h k = (has, k)
    of_program width (DataFull need have) h k = absurd h
    of_program width NoStep h k = absurd h
    of_program width NoJump h k = absurd h
    of_program width (NoCover number) h k = absurd h
    of_program width (NoReach bound reach) h k = absurd h
    of_program width (ImageFull len size bound) h k = absurd h
    of_program width Memory h k = tt

    pub of_task : (task : Task) (fault : CompileFault) → (IsTaskFault task fault → IsCompileFault net src fault) → IsEarlyFault task fault → IsExplainFault net src fault
    of_task task (NetText at) f h = absurd h
    of_task task (Net fault) f h = absurd h
    of_task task (SrcText at) f h = absurd h
    of_task task (Src fault) f h = absurd h
    of_task task (DataFull need have) f h = (has, f h)
    of_task task NoStep f h = (has, f h)
    of_task task NoJump f h = (has, f h)
    of_task task (NoCover number) f h = absurd h
    of_task task (NoReach bound reach) f h = absurd h
    of_task task (ImageFull len size bound) f h = absurd h
    of_task task Memory f h = tt
