-- The image of a covered program, and why there is none.
use Rattle.std.specs.Prelude.{ℕ, ◌≡◌, ◌≤◌, Bool, List, length}
use Rattle.net_model.specs.declared.hardware.Netlist.{Netlist}
use Rattle.code_model.specs.declared.image.Image.{Image}
use Rattle.code_model.specs.declared.image.Places.{Places}
use Rattle.code_model.specs.Places.{words_of}
use Rattle.right_code.specs.Bounded.{HasBound}
use Rattle.right_code.specs.Images.{IsMadeFor, IsRightImage}
use Rattle.right_code.specs.Tasks.{IsChecked, Task, task_temps, task_jobs}
use Rattle.form_model.specs.declared.flow.Blocks.{Blocks}
use Rattle.form_set.specs.Listing.{greatest_reach}
use Rattle.mode_set.specs.Keeping.{Isas}
use Rattle.src_trees.specs.Jobs.{models_of_jobs}
use Rattle.code_gen.specs.Inner.Planning.{HasModes, IsPlanning}
use Rattle.code_gen.specs.Refusals.{IsBeyondReach, IsImageTooLong, IsJumpless, IsStepless}
use Rattle.code_gen.specs.declared.fault.CodeFault.{CodeFault}
use Rattle.code_gen.specs.declared.fault.CodeFault.TheVariants.{NoReach, ImageFull, Memory}
use Rattle.code_gen.specs.declared.views.Modes.{Modes}
use Rattle.code_gen.specs.declared.views.PlacedProgram.{PlacedProgram}
use Rattle.code_gen.specs.declared.views.PlannedProgram.{PlannedProgram}
use Rattle.code_gen.specs.Tasks.{coded_task}

-- the task of a program whose variables stand at its places
abbrev pub placed_task : Netlist → PlacedProgram → Task
placed_task netlist program = coded_task netlist program.typed.now program.places program.blocks

-- the variables of a task stand at its places, behind its temporary cells
pub record ArePlaces (task : Task) (places : Places) : Type 0 where
  pub temps : places.temps ≡ task_temps task
  pub list : places.list ≡ task.places

-- the flow and the jobs are those of a checked task, whose variables stand at these places; and the
-- code is told of its netlist in its modes, where one form steps and one jumps
pub record IsCodedIn (modes : Modes) (usable : List Bool) (places : Places) (blocks : Blocks)
    (task : Task) : Type 0 where
  pub told : HasModes modes usable task
  pub steps : ¬ IsStepless task.netlist
  pub jumps : ¬ IsJumpless task.netlist
  pub checked : IsChecked task
  pub placed : ArePlaces task places
  pub flow : blocks.flow ≡ task.flow
  pub jobs : models_of_jobs blocks.jobs.items ≡ task_jobs task

-- they are those of some task
pub record AreCodedIn (modes : Modes) (usable : List Bool) (places : Places) (blocks : Blocks) : Type 0 where
  pub task : Task
  pub is : IsCodedIn modes usable places blocks task

-- what is said of their task
abbrev pub OfCoded : Modes → List Bool → Places → Blocks → (Task → Type 0) → Type 0
OfCoded modes usable places blocks Said =
    (task : Task) → IsCodedIn modes usable places blocks task → Said task

-- the program is that of some task, with its variables at these places
pub record HasTask (modes : Modes) (program : PlannedProgram) (places : Places) : Type 0 where
  pub task : Task
  pub isas : Isas task.netlist
  pub planning : IsPlanning modes program task isas
  pub placed : ArePlaces task places

-- what is said of the task of a planned program
abbrev pub OfTask : Modes → PlannedProgram → Places → (Task → Type 0) → Type 0
OfTask modes program places Said =
    (task : Task) (isas : Isas task.netlist) → IsPlanning modes program task isas → ArePlaces task places → Said task

-- the image is made for the task, and jumps reach all its words
pub record IsImageMade (image : Image) (task : Task) : Type 0 where
  pub made : IsMadeFor task image
  pub reached : length (words_of image) ≤ greatest_reach (made.isas 0).keeping

-- jumps reach as far as the task's code may be long
pub record IsNear (task : Task) : Type 0 where
  pub bound : ℕ
  pub reach : ℕ
  pub has : HasBound task bound reach
  pub within : bound ≤ reach

-- the image is right code for the task
pub record IsTaskImage (image : Image) (task : Task) : Type 0 where
  pub right : IsRightImage task image
  pub near : IsNear task

-- what a task whose jobs are covered lacks; nothing is said where memory ran out
abbrev pub IsLengthFault : CodeFault → Task → Type 0
IsLengthFault (NoReach bound reach) task = IsBeyondReach bound reach task
IsLengthFault (ImageFull len size bound) task = IsNear task × IsImageTooLong len size bound task
IsLengthFault Memory task = Unit {0}
IsLengthFault _ task = ⊥
