-- The rules of images with views, in their order: where the variables stand, which marks there are,
-- which views, and how the words end. Which of them an image breaks first.
use Rattle.std.specs.Prelude.{ℕ, ◌+◌, ◌≡◌, ◌≤◌, List, length, Option, None, IsSomeAnd, slice_index}
use Rattle.net_model.specs.Nets.{memory_size}
use Rattle.code_model.specs.declared.image.Image.{Image}
use Rattle.code_model.specs.Places.{words_of}
use Rattle.net_model.specs.declared.hardware.Netlist.{Netlist}
use Rattle.src_trees.specs.Flows.{program_flow}
use Rattle.follow.specs.MarkFaults.{AreMarksRight, IsMarkFault}
use Rattle.check_command.specs.EndWords.{IsEndWord}
use Rattle.check_command.specs.Places.{ArePlacesRight, IsPlaceFault}
use Rattle.check_command.specs.Tasks.{CheckTask}
use Rattle.check_command.specs.Views.{AreViewsRight, IsViewFault}
use Rattle.check_command.specs.declared.fault.RuleFault.{RuleFault}
use Rattle.check_command.specs.declared.fault.RuleFault.TheVariants.{Place, Temps, Mark, View, EndWord}

-- the variables stand at the image's places, behind its temporary cells, in the memory
abbrev pub ArePlaced : CheckTask → Type 0
ArePlaced task = ArePlacesRight task.program.vars task.viewed.image (memory_size task.netlist.storages)

abbrev pub HasTemps : CheckTask → Type 0
HasTemps task = task.viewed.image.temps ≤ memory_size task.netlist.storages

abbrev pub HasMarks : CheckTask → Type 0
HasMarks task = AreMarksRight (program_flow task.program) task.viewed.image

abbrev pub HasPlainViews : CheckTask → Type 0
HasPlainViews task = AreViewsRight task.netlist task.viewed.image task.viewed.views

-- the last of the words plainly goes to itself
pub record EndsPlainly (netlist : Netlist) (image : Image) : Type 0 where
  pub last : ℕ
  pub long : length (words_of image) ≡ last + 1
  pub ends : IsEndWord netlist (slice_index (words_of image) last) last

-- the first rule that is broken, with the name that is told of it
abbrev pub IsRuleFault : CheckTask → RuleFault → Option (List ℕ) → Type 0
IsRuleFault task Place name =
    IsSomeAnd name (IsPlaceFault task.program.vars task.viewed.image (memory_size task.netlist.storages))
IsRuleFault task Temps name = (name ≡ None) × ArePlaced task × (HasTemps task → ⊥)
IsRuleFault task (Mark fault) name =
    (name ≡ None) × ArePlaced task × HasTemps task × IsMarkFault (program_flow task.program) task.viewed.image fault
IsRuleFault task (View address) name =
    ArePlaced task × HasTemps task × HasMarks task
    × IsSomeAnd name (IsViewFault task.netlist task.viewed.image task.viewed.views address)
IsRuleFault task EndWord name =
    (name ≡ None) × ArePlaced task × HasTemps task × HasMarks task × HasPlainViews task
    × (EndsPlainly task.netlist task.viewed.image → ⊥)

-- no rule is broken
pub record KeepsImageRules (task : CheckTask) : Type 0 where
  pub places : ArePlaced task
  pub temps : HasTemps task
  pub marks : HasMarks task
  pub views : HasPlainViews task
  pub end_word : EndsPlainly task.netlist task.viewed.image
