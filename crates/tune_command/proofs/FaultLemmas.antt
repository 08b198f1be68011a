-- Why nothing was written.
use Rattle.std.proofs.Common.{ℕ, List, ap, subst, sym}
use Rattle.net_model.specs.ModeRules.{Moded}
use Rattle.src_model.specs.declared.typed.Typed.{Typed}
use Rattle.right_code.specs.Tasks.{Task, read_task}
use Rattle.code_gen.specs.Refusals.{HasJumps, HasSteps, IsJumpless, IsReached, IsStepless}
use Rattle.code_gen.specs.Spelled.{HasSpelling, IsSpelledTask, IsTunedFault}
use Rattle.code_gen.specs.declared.fault.CodeFault.{CodeFault}
use Rattle.code_gen.specs.declared.fault.CodeFault.TheVariants.{NoStep as Stepless, NoJump as Jumpless, NoCover as Uncovered, NoReach as Beyond, ImageFull as Overlong, Memory as CodeMemory}
use Rattle.compile_command.specs.Code.{FailsWith, HasRoom}
use Rattle.compile_command.specs.Compiled.{IsReadFault}
use Rattle.compile_command.specs.Inner.Faults.{code_fault}
use Rattle.compile_command.specs.Read.{IsRead}
use Rattle.compile_command.specs.declared.fault.CompileFault.{CompileFault}
use Rattle.compile_command.specs.declared.fault.CompileFault.TheVariants.{NetText, Net, SrcText, Src, DataFull, NoStep, NoJump, NoCover, NoReach, ImageFull, Memory}
use Rattle.compile_command.proofs.TaskLemmas.{holds_of_read}
use Rattle.tune_command.specs.Tuned.{IsTunedTaskFault, IsTuneFault, TuneFailsWith}

-- why there is no image of a task that has room
pub fault_of_image : (task : Task) → HasRoom task → (fault : CodeFault) → IsTunedFault task fault → IsTunedTaskFault task (code_fault fault)
fault_of_image task room Stepless h = (room, h)
fault_of_image task room Jumpless h = (room, h)
fault_of_image task room (Uncovered number) h = (room, h)
fault_of_image task room (Beyond bound reach) h = (room, h)
fault_of_image task room (Overlong len size bound) h = (room, h)
fault_of_image task room CodeMemory h = tt

-- what is not taken isn't tuned
pub fault_of_read : (net src : List ℕ) (fault : CompileFault) → IsReadFault net src fault → IsTuneFault net src fault
fault_of_read net src (NetText at) h = h
fault_of_read net src (Net fault) h = h
fault_of_read net src (SrcText at) h = h
fault_of_read net src (Src fault) h = h
fault_of_read net src (DataFull need have) h = absurd h
fault_of_read net src NoStep h = absurd h
fault_of_read net src NoJump h = absurd h
fault_of_read net src (NoCover number) h = absurd h
fault_of_read net src (NoReach bound reach) h = absurd h
fault_of_read net src (ImageFull len size bound) h = absurd h
fault_of_read net src Memory h = tt

-- why there is no code, once both were read
module _ (net src : List ℕ) (modes : Moded) (typed : Typed) (read : IsRead net src modes typed) where
  pub fault_of_code : (fault : CompileFault) → IsTunedTaskFault (read_task modes typed) fault → IsTuneFault net src fault
  fault_of_code (NetText at) h = absurd h
  fault_of_code (Net fault) h = absurd h
  fault_of_code (SrcText at) h = absurd h
  fault_of_code (Src fault) h = absurd h
  fault_of_code (DataFull need have) h = holds_of_read net src modes typed read.net_file read.width read.src_file (TuneFailsWith (DataFull need have)) h
  fault_of_code NoStep h = holds_of_read net src modes typed read.net_file read.width read.src_file (TuneFailsWith NoStep) h
  fault_of_code NoJump h = holds_of_read net src modes typed read.net_file read.width read.src_file (TuneFailsWith NoJump) h
  fault_of_code (NoCover number) h = holds_of_read net src modes typed read.net_file read.width read.src_file (TuneFailsWith (NoCover number)) h
  fault_of_code (NoReach bound reach) h = holds_of_read net src modes typed read.net_file read.width read.src_file (TuneFailsWith (NoReach bound reach)) h
  fault_of_code (ImageFull len size bound) h = holds_of_read net src modes typed read.net_file read.width read.src_file (TuneFailsWith (ImageFull len size bound)) h
  fault_of_code Memory h = tt

-- ---- what the netlist has where these come

-- a task in another spelling is one on the same netlist
steps_of : (task spelled : Task) → IsSpelledTask task spelled → HasSteps spelled → HasSteps task
steps_of task spelled is h = record { steps = λ stepless. h.steps (subst IsStepless (sym (ap (λ (t : Task). t.netlist) is.is)) stepless) }

jumps_of : (task spelled : Task) → IsSpelledTask task spelled → HasJumps spelled → HasJumps task
jumps_of task spelled is h = record {
  steps = steps_of task spelled is h.steps;
  jumps = λ jumpless. h.jumps (subst IsJumpless (sym (ap (λ (t : Task). t.netlist) is.is)) jumpless);
}

pub jumps_of_code : (task : Task) → HasSpelling IsReached task → HasJumps task
jumps_of_code task h = jumps_of task h.spelled h.is h.said.coverable.jumps

pub jumps_of_uncovered : (task : Task) (number : ℕ) → IsTunedFault task (Uncovered number) → HasJumps task
jumps_of_uncovered task number h = jumps_of task h.spelled h.is h.said.0

pub jumps_of_beyond : (task : Task) (bound reach : ℕ) → IsTunedFault task (Beyond bound reach) → HasJumps task
jumps_of_beyond task bound reach h = jumps_of task h.spelled h.is h.said.0.jumps

pub jumps_of_long : (task : Task) (len size bound : ℕ) → IsTunedFault task (Overlong len size bound) → HasJumps task
jumps_of_long task len size bound h = jumps_of task h.spelled h.is h.said.0.coverable.jumps

-- what the netlist's forms lack is the same for `compile`
pub own_stepless : (task : Task) → TuneFailsWith NoStep task → FailsWith NoStep task
own_stepless task h = h

pub own_jumpless : (task : Task) → TuneFailsWith NoJump task → FailsWith NoJump task
own_jumpless task h = h
