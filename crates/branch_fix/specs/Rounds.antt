-- Relative branches that don't show their distance become three words, in *rounds*: a branch that
-- has become three words stays so, and rounds are repeated until one changes nothing. A distance
-- is the difference of two addresses modulo the program counter's width, which the target's shape
-- has.
use Rattle.std.specs.Prelude.{ℕ, zero, suc, ◌+◌, ◌-◌, ◌%◌, ◌^◌, ◌≡◌, min, Bool, true, false, not, ◌||◌, if◌then◌else◌, List, [], ◌∷◌, Option, Some, None, slice_get, slice_index}
use Rattle.net_model.specs.Exprs.{expr_width}
use Rattle.form_model.specs.Shapes.{shows}
use Rattle.form_model.specs.Forms.{FormModel, TargetModel, absolute, relative, GoalModel, branches}
use Rattle.branch_fix.specs.declared.part.BranchedTest.{BranchedTest}
use Rattle.branch_fix.specs.declared.part.LayoutPart.{LayoutPart}
use Rattle.branch_fix.specs.declared.part.LayoutPart.TheVariants.{Block, Inner, Test, Jump, End}
use Rattle.branch_fix.specs.Parts.{room, starts}

-- the difference of two numbers, modulo a width
abbrev pub difference : ℕ → ℕ → ℕ → ℕ
difference width from to = (to + (2 ^ width - from % 2 ^ width)) % 2 ^ width

-- how far one address lies behind another: their difference, modulo the program counter's width. A
-- width past 64 counts as 64, since no address has more bits
abbrev pub distance : ℕ → ℕ → ℕ → ℕ
distance width from to = difference (min width 64) from to

-- whether a branch form shows its target; an absolute one shows each address that is reached
abbrev pub target_shows : TargetModel → ℕ → ℕ → Bool
target_shows (absolute shape) from to = true
target_shows (relative shape) from to = shows shape (distance (expr_width shape) from to)

abbrev pub goal_shows : GoalModel → ℕ → ℕ → Bool
goal_shows (branches when_one target) from to = target_shows target from to
goal_shows _ from to = true

abbrev pub form_shows : Option FormModel → ℕ → ℕ → Bool
form_shows None from to = true
form_shows (Some form) from to = goal_shows form.goal from to

-- in a round each relative branch that doesn't show its distance becomes three words, and stays so
abbrev pub widened : List FormModel → List ℕ → ℕ → BranchedTest → BranchedTest
widened forms addresses at f = record f {
  long = f.long
      || not (form_shows (slice_get forms f.form) (at + f.words) (slice_index addresses f.to));
}

-- part by part
abbrev pub widened_part : List FormModel → List ℕ → ℕ → LayoutPart → LayoutPart
widened_part forms addresses at (Block block words) = Block block words
widened_part forms addresses at Inner = Inner
widened_part forms addresses at (Test f) = Test (widened forms addresses at f)
widened_part forms addresses at (Jump to) = Jump to
widened_part forms addresses at End = End

abbrev pub widened_from : List FormModel → List ℕ → ℕ → List LayoutPart → List LayoutPart
widened_from forms addresses at [] = []
widened_from forms addresses at (p ∷ parts) =
    widened_part forms addresses at p ∷ widened_from forms addresses (at + room p) parts

abbrev pub round : List FormModel → List LayoutPart → List LayoutPart
round forms parts = widened_from forms (starts parts) 0 parts

abbrev pub rounds : List FormModel → ℕ → List LayoutPart → List LayoutPart
rounds forms zero parts = parts
rounds forms (suc n) parts = rounds forms n (round forms parts)

-- what some rounds make of parts
pub record IsRound (forms : List FormModel) (first parts : List LayoutPart) : Type 0 where
  pub count : ℕ
  pub made : parts ≡ rounds forms count first

-- rounds are repeated until one changes nothing
pub record IsFixpoint (forms : List FormModel) (first last : List LayoutPart) : Type 0 where
  pub count : ℕ
  pub made : last ≡ rounds forms count first
  pub still : round forms last ≡ last

-- how many tests are three words
abbrev pub is_long : LayoutPart → Bool
is_long (Test f) = f.long
is_long (Block block words) = false
is_long Inner = false
is_long (Jump to) = false
is_long End = false

abbrev pub long_tests : List LayoutPart → ℕ
long_tests [] = 0
long_tests (p ∷ parts) = (if is_long p then 1 else 0) + long_tests parts
