-- The code of a whole program.
use Rattle.std.specs.Prelude.{ℕ, ◌≤◌, ◌≡◌, List, Some, slice_get}
use Rattle.net_model.specs.CheckedRules.{code_size}
use Rattle.code_model.specs.declared.image.Image.{Image}
use Rattle.form_model.specs.declared.flow.Flow.{Flow}
use Rattle.src_trees.specs.Lowered.{JobModel}
use Rattle.src_trees.specs.Blocks.{IsAssignBlock, jobs_at}
use Rattle.branch_fix.specs.Made.{image_word}
use Rattle.branch_fix.specs.Parts.{form_at_one, address, total, marks_from, PartsFit}
use Rattle.branch_fix.specs.declared.part.BranchedTest.{BranchedTest}
use Rattle.branch_fix.specs.declared.part.LayoutPart.{LayoutPart}
use Rattle.branch_fix.specs.declared.part.LayoutPart.TheVariants.{Block, Test, Jump, End}
use Rattle.right_code.specs.Inner.Blocks.{IsModeBlockMade, Kit, Machine}
use Rattle.right_code.specs.Inner.Forks.{IsJumpMade, IsForkMade}

-- the words of an image stand for the parts of a flow: those of each block's sections and each
-- test's operands fit their covers' steps, each branch and jump word is one of its form with the
-- bits of its target and keeps the mode, the end goes to itself, the code has room for all words,
-- and the marks are the parts'. Tests and jumps are of mode 0
pub record IsMadeCode (m : Machine) (kit : Kit) (image : Image) (flow : List Flow)
    (jobs : List JobModel) (parts : List LayoutPart) : Type 0 where
  pub fit : PartsFit kit.stock.forms flow 0 flow parts
  pub marks : image.marks ≡ marks_from 0 parts
  pub room : total parts ≤ code_size kit.netlist.codes
  pub blocks : (at n block words : ℕ) → IsAssignBlock flow at n → slice_get parts at ≡ Some (Block block words)
      → IsModeBlockMade m kit image (jobs_at flow jobs at n) (address parts at) words
  pub forks : (at : ℕ) (f : BranchedTest) → slice_get parts at ≡ Some (Test f) → (job : JobModel) → slice_get jobs f.tree ≡ Some job
      → IsForkMade kit.netlist m.netlist.special kit.patterns kit.stock image job
      (form_at_one (slice_get kit.stock.forms f.form)) f
      (address parts at) (address parts f.to) (address parts f.other)
  pub jumps : (at to : ℕ) → slice_get parts at ≡ Some (Jump to) →
      IsJumpMade kit.netlist m.netlist.special kit.patterns (image_word image (address parts at)) (address parts to)
  pub ends : (at : ℕ) → slice_get parts at ≡ Some End →
      IsJumpMade kit.netlist m.netlist.special kit.patterns (image_word image (address parts at)) (address parts at)
