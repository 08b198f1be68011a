-- Why a task has no code. Everything here is of a task. Each form of mode 0 that keeps the mode is
-- a jump or a branch, or none of them is a jump; code that may be longer than the jumps reach; an
-- image that is made for the task and is longer than the code; and which of these come before
-- which.
use Rattle.form_model.specs.Forms.{model_of_goal}
use Rattle.mode_set.specs.Keeping.{Isa}
use Rattle.std.specs.Prelude.{ℕ, ◌≡◌, ◌≤◌, ◌<◌, length, List, true, false}
use Rattle.std.specs.List.{list_all}
use Rattle.form_model.specs.declared.forms.Form.{Form}
use Rattle.form_set.specs.Promises.{is_control_goal, is_no_jump, no_jumps, only_control}
use Rattle.net_model.specs.CheckedRules.{code_size}
use Rattle.net_model.specs.declared.hardware.Netlist.{Netlist}
use Rattle.code_model.specs.declared.image.Image.{Image}
use Rattle.code_model.specs.Places.{words_of}
use Rattle.right_code.specs.Bounded.{HasBound}
use Rattle.right_code.specs.Covered.{HasBareTree, HasCovers}
use Rattle.right_code.specs.Images.{IsMadeFor}
use Rattle.right_code.specs.Tasks.{Task}
use Rattle.code_gen.specs.declared.fault.CodeFault.{CodeFault}
use Rattle.code_gen.specs.declared.fault.CodeFault.TheVariants.{NoStep, NoJump, NoCover, NoReach, ImageFull, Memory}

-- ---- what a netlist or a program lacks

-- each form of mode 0 that keeps the mode is a jump or a branch
pub record IsStepless (netlist : Netlist) : Type 0 where
  pub isa : Isa netlist 0
  pub control : only_control isa.keeping ≡ true

-- none of them is a jump
pub record IsJumpless (netlist : Netlist) : Type 0 where
  pub isa : Isa netlist 0
  pub jumpless : no_jumps isa.keeping ≡ true

-- the code may be longer than the jumps reach, and these are the numbers
pub record IsBeyondReach (bound reach : ℕ) (task : Task) : Type 0 where
  pub has : HasBound task bound reach
  pub beyond : reach < bound

-- there is an image made for the task which is longer than the code, and so is the bound; these are
-- the numbers
pub record IsImageTooLong (len size bound : ℕ) (task : Task) : Type 0 where
  pub image : Image
  pub made : IsMadeFor task image
  pub long : len ≡ length (words_of image)
  pub room : size ≡ code_size task.netlist.codes
  pub reach : ℕ
  pub has : HasBound task bound reach
  pub above : size < len
  pub most : len ≤ bound

-- ---- what the refusals before leave

pub record HasSteps (task : Task) : Type 0 where
  pub steps : IsStepless task.netlist → ⊥

pub record HasJumps (task : Task) : Type 0 where
  pub steps : HasSteps task
  pub jumps : IsJumpless task.netlist → ⊥

pub record IsCoverable (task : Task) : Type 0 where
  pub jumps : HasJumps task
  pub covers : HasCovers task

pub record IsReached (task : Task) : Type 0 where
  pub coverable : IsCoverable task
  pub bound : ℕ
  pub reach : ℕ
  pub has : HasBound task bound reach
  pub within : bound ≤ reach

-- why code can be made of no forms of a netlist; nothing is said where memory ran out
abbrev pub IsFormless : Netlist → CodeFault → Type 0
IsFormless netlist NoStep = IsStepless netlist
IsFormless netlist NoJump = (¬ IsStepless netlist) × IsJumpless netlist
IsFormless netlist Memory = Unit {0}
IsFormless netlist _ = ⊥

-- the kinds of which a list has forms
abbrev pub IsKindsFault : List Form → CodeFault → Type 0
IsKindsFault list NoStep = list_all (λ (form : Form). is_control_goal (model_of_goal form.goal)) list ≡ true
IsKindsFault list NoJump =
    (list_all (λ (form : Form). is_control_goal (model_of_goal form.goal)) list ≡ false)
    × (list_all (λ (form : Form). is_no_jump (model_of_goal form.goal)) list ≡ true)
IsKindsFault list _ = ⊥

-- ---- when each refusal comes; nothing is said where memory ran out

abbrev pub IsCodeFault : Task → CodeFault → Type 0
IsCodeFault task NoStep = IsStepless task.netlist
IsCodeFault task NoJump = HasSteps task × IsJumpless task.netlist
IsCodeFault task (NoCover number) = HasJumps task × HasBareTree number task
IsCodeFault task (NoReach bound reach) = IsCoverable task × IsBeyondReach bound reach task
IsCodeFault task (ImageFull len size bound) = IsReached task × IsImageTooLong len size bound task
IsCodeFault task Memory = Unit {0}
