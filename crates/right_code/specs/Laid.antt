-- Code as the layout orders it: what is known of each part. It stands between the definition of an
-- image and its trace. A target is an address that the word shows, or one that lies so far on as
-- it shows, then one word or three.
use Rattle.std.specs.Prelude.{ℕ, ◌≤◌, List}
use Rattle.form_model.specs.declared.flow.Flow.{Flow}
use Rattle.form_model.specs.Forms.{FormModel}
use Rattle.branch_fix.specs.Parts.{parts_of, total}
use Rattle.branch_fix.specs.Rounds.{IsFixpoint}
use Rattle.branch_fix.specs.declared.outline.Branch.{Branch}
use Rattle.branch_fix.specs.declared.part.LayoutPart.{LayoutPart}

-- ---- the code

-- the parts of a flow, where `sizes` are the blocks' numbers of words and `branches` the tests'
-- branches; jumps reach all their words
pub record IsLayout (forms : List FormModel) (flow : List Flow) (parts : List LayoutPart) (reach : ℕ) : Type 0 where
  pub sizes : List ℕ
  pub branches : List Branch
  pub settled : IsFixpoint forms (parts_of forms flow sizes branches) parts
  pub reached : total parts ≤ reach
