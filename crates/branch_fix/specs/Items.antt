-- The words of code that is laid out: a block's groups; for a test those of its operands, the
-- branch word with the bits of its condition and of its target, and the jumps behind it, which of
-- a long branch are to the other target and then to its own; for a jump and for the end a word of
-- the first jump form whose reach is the greatest.
use Rattle.std.specs.Prelude.{ℕ, zero, suc, ◌+◌, ◌==◌, bit_or, unwrap_or, Bool, true, false, if◌then◌else◌, List, [], ◌∷◌, ◌++◌, Option, Some, None, slice_get, slice_index}
use Rattle.std.specs.Borrow.{Bor}
use Rattle.net_model.specs.Exprs.{expr_width}
use Rattle.form_model.specs.declared.forms.Form.{Form}
use Rattle.form_model.specs.Forms.{model_of_form}
use Rattle.form_model.specs.declared.forms.Step.{Step}
use Rattle.form_model.specs.Shapes.{shape_setting}
use Rattle.form_model.specs.Forms.{FormModel, TargetModel, absolute, relative, GoalModel, jumps, branches}
use Rattle.branch_fix.specs.declared.laid.Item.{Item}
use Rattle.branch_fix.specs.declared.laid.Item.TheVariants.{Group, Jump as Word}
use Rattle.branch_fix.specs.declared.part.LayoutPart.{LayoutPart}
use Rattle.branch_fix.specs.declared.part.LayoutPart.TheVariants.{Block, Inner, Test, Jump, End}
use Rattle.branch_fix.specs.Parts.{room}
use Rattle.branch_fix.specs.Rounds.{distance}

-- the words of a block's groups, from one on, so many
abbrev pub groups : ℕ → ℕ → ℕ → List Item
groups block at zero = []
groups block at (suc n) = Group block at ∷ groups block (at + 1) n

-- ---- jumps

abbrev pub reaches : GoalModel → ℕ → Bool
reaches (jumps r) reach = r == reach
reaches _ reach = false

-- the first jump form of this reach
abbrev pub jump_form : List FormModel → ℕ → Option FormModel
jump_form [] reach = None
jump_form (form ∷ forms) reach = if reaches form.goal reach then Some form else jump_form forms reach

-- a word of a form whose target has this value
abbrev pub jump_step : Option FormModel → ℕ → Step
jump_step None to = record { pattern = 0; setting = 0 }
jump_step (Some form) to = record { pattern = form.pattern; setting = unwrap_or (shape_setting form.value to) 0 }

-- a form that is looked at, if there is one
abbrev pub form_in : Option (Bor Form) → Option FormModel
form_in None = None
form_in (Some form) = Some (model_of_form form.now)

-- ---- branches

abbrev pub target_setting : TargetModel → ℕ → ℕ → Bool → ℕ
target_setting (absolute shape) from to long = unwrap_or (shape_setting shape to) 0
target_setting (relative shape) from to true = unwrap_or (shape_setting shape 2) 0
target_setting (relative shape) from to false = unwrap_or (shape_setting shape (distance (expr_width shape) from to)) 0

abbrev pub goal_setting : GoalModel → ℕ → ℕ → Bool → ℕ
goal_setting (branches when_one target) from to long = target_setting target from to long
goal_setting _ from to long = 0

-- the branch word at an address: the bits of its condition and those of its target
abbrev pub branch_step : Option FormModel → ℕ → ℕ → ℕ → Bool → Step
branch_step None setting from to long = record { pattern = 0; setting = 0 }
branch_step (Some form) setting from to long =
    record { pattern = form.pattern; setting = bit_or setting (goal_setting form.goal from to long) }

-- the words behind it
abbrev pub behind : Option FormModel → Bool → Bool → ℕ → ℕ → List Item
behind jump next true to other = Word (jump_step jump other) ∷ (Word (jump_step jump to) ∷ [])
behind jump true false to other = []
behind jump false false to other = Word (jump_step jump other) ∷ []

-- ---- all words

abbrev pub part_items : List FormModel → Option FormModel → List ℕ → ℕ → LayoutPart → List Item
part_items forms jump addresses at (Block block words) = groups block 0 words
part_items forms jump addresses at Inner = []
part_items forms jump addresses at (Test f) =
    groups f.block 0 f.words
    ++ (Word (branch_step (slice_get forms f.form) f.setting (at + f.words) (slice_index addresses f.to) f.long)
    ∷ behind jump f.next f.long (slice_index addresses f.to) (slice_index addresses f.other))
part_items forms jump addresses at (Jump to) = Word (jump_step jump (slice_index addresses to)) ∷ []
part_items forms jump addresses at End = Word (jump_step jump at) ∷ []

abbrev pub items_from : List FormModel → Option FormModel → List ℕ → ℕ → List LayoutPart → List Item
items_from forms jump addresses at [] = []
items_from forms jump addresses at (p ∷ parts) =
    part_items forms jump addresses at p ++ items_from forms jump addresses (at + room p) parts
