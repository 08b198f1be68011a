-- Worked layouts: a loop with an absolute branch, and with relative ones that show their distance
-- or don't.
use Rattle.std.specs.Prelude.{ℕ, ◌≡◌, refl, true, false, List, [], ◌∷◌, Some, None}
use Rattle.net_model.specs.Exprs.{ExprModel, word, reg, const, slice, zext, bin}
use Rattle.rec_bits.specs.declared.operator.Op2.TheVariants.{Eq as Equal}
use Rattle.code_model.specs.declared.image.Mark.{Mark}
use Rattle.form_model.specs.declared.flow.Flow.{Flow}
use Rattle.form_model.specs.declared.flow.Flow.TheVariants.{Assign, Test, Jump as Jumped, End as Ended}
use Rattle.form_model.specs.Forms.{FormModel, TargetModel, absolute, relative, jumps, branches}
use Rattle.branch_fix.specs.declared.laid.Item.{Item}
use Rattle.branch_fix.specs.declared.laid.Item.TheVariants.{Group, Jump}
use Rattle.branch_fix.specs.declared.outline.Branch.{Branch}
use Rattle.branch_fix.specs.declared.part.LayoutPart.TheVariants.{Block, Inner, Test as TestPart, Jump as JumpPart, End as EndPart}
use Rattle.branch_fix.specs.Costs.{block_costs}
use Rattle.branch_fix.specs.Parts.{parts_of, starts, marks_from, total}
use Rattle.branch_fix.specs.Rounds.{distance, rounds}
use Rattle.branch_fix.specs.Bounds.{bound_of}
use Rattle.branch_fix.specs.Items.{jump_form, items_from}

-- while a != 0 { a = a - 1; }: the branch goes out where the condition is 1; the code of the test's
-- operand is a word, and so on
abbrev flow : List Flow
flow = Test 0 3 1 ∷ Assign 1 ∷ Jumped 0 ∷ Ended ∷ []

abbrev field : ExprModel
field = slice (word 12) 7 0

abbrev narrow : ExprModel
narrow = zext (slice (word 12) 1 0) 8

abbrev condition : ExprModel
condition = bin Equal (reg 1 16) (const 16 0)

abbrev jump_form_model : FormModel
jump_form_model = record { pattern = 2; goal = jumps 256; addr = None; value = field; fields = 255; clobbers = 3; tied = None }

abbrev branch_form_model : TargetModel → FormModel
branch_form_model target = record {
  pattern = 1;
  goal = branches true target;
  addr = None;
  value = condition;
  fields = 255;
  clobbers = 3;
  tied = None;
}

-- its test has the first form, and sets no bits
abbrev one_branch : List Branch
one_branch = record { form = 0; setting = 0 } ∷ []

-- the words of a flow whose branches go so: one for the test, five for the block
abbrev laid : TargetModel → ℕ → List Item
laid target n = items_from (branch_form_model target ∷ jump_form_model ∷ []) (jump_form (branch_form_model target ∷ jump_form_model ∷ []) 256)
    (starts (rounds (branch_form_model target ∷ jump_form_model ∷ []) n
    (parts_of (branch_form_model target ∷ jump_form_model ∷ []) flow (1 ∷ 5 ∷ []) one_branch))) 0
    (rounds (branch_form_model target ∷ jump_form_model ∷ []) n
    (parts_of (branch_form_model target ∷ jump_form_model ∷ []) flow (1 ∷ 5 ∷ []) one_branch))

abbrev marked_at : TargetModel → ℕ → List Mark
marked_at target n =
    marks_from 0 (rounds (branch_form_model target ∷ jump_form_model ∷ []) n
    (parts_of (branch_form_model target ∷ jump_form_model ∷ []) flow (1 ∷ 5 ∷ []) one_branch))

abbrev to_word : ℕ → ℕ → Item
to_word pattern setting = Jump (record { pattern = pattern; setting = setting })

absolute_words : laid (absolute field) 1
    ≡ Group 0 0 ∷ to_word 1 8 ∷ Group 1 0 ∷ Group 1 1 ∷ Group 1 2 ∷ Group 1 3 ∷ Group 1 4
    ∷ to_word 2 0 ∷ to_word 2 8 ∷ []
absolute_words = refl

absolute_marks : marked_at (absolute field) 1
    ≡ record { address = 0; label = Some 0 } ∷ record { address = 8; label = None } ∷ []
absolute_marks = refl

-- a relative branch that shows 7
near_words : laid (relative field) 1
    ≡ Group 0 0 ∷ to_word 1 7 ∷ Group 1 0 ∷ Group 1 1 ∷ Group 1 2 ∷ Group 1 3 ∷ Group 1 4
    ∷ to_word 2 0 ∷ to_word 2 8 ∷ []
near_words = refl

-- one of two bits doesn't: it goes two words on, behind it a jump into the loop and one out of it
far_words : laid (relative narrow) 1 ≡
    Group 0 0 ∷ to_word 1 2 ∷ to_word 2 4 ∷ to_word 2 10 ∷ Group 1 0 ∷ Group 1 1 ∷ Group 1 2
    ∷ Group 1 3 ∷ Group 1 4 ∷ to_word 2 0 ∷ to_word 2 10 ∷ []
far_words = refl

far_marks : marked_at (relative narrow) 1
    ≡ record { address = 0; label = Some 0 } ∷ record { address = 10; label = None } ∷ []
far_marks = refl

-- and another round changes nothing
far_still : laid (relative narrow) 2 ≡ laid (relative narrow) 1
far_still = refl

-- without a round it isn't so
no_round : laid (relative narrow) 0 ≡ laid (relative narrow) 1 → ⊥
no_round e = cc e

-- it has as many words as the bound says
most_words : bound_of flow (1 ∷ 5 ∷ []) ≡ 11
most_words = refl

far_total : total (rounds (branch_form_model (relative narrow) ∷ jump_form_model ∷ []) 1
    (parts_of (branch_form_model (relative narrow) ∷ jump_form_model ∷ []) flow (1 ∷ 5 ∷ []) one_branch))
    ≡ 11
far_total = refl

-- if a == 1 { a = 2; } else { }: the branch goes to the next place, and behind it a jump over the
-- first part; behind that one over nothing
abbrev forked : List Flow
forked = Test 0 1 3 ∷ Assign 1 ∷ Jumped 3 ∷ Ended ∷ []

abbrev forked_laid : TargetModel → List Item
forked_laid target =
    items_from (branch_form_model target ∷ jump_form_model ∷ [])
    (jump_form (branch_form_model target ∷ jump_form_model ∷ []) 256)
    (starts (rounds (branch_form_model target ∷ jump_form_model ∷ []) 1
    (parts_of (branch_form_model target ∷ jump_form_model ∷ []) forked (1 ∷ 1 ∷ []) one_branch))) 0
    (rounds (branch_form_model target ∷ jump_form_model ∷ []) 1
    (parts_of (branch_form_model target ∷ jump_form_model ∷ []) forked (1 ∷ 1 ∷ []) one_branch))

forked_words : forked_laid (absolute field)
    ≡ Group 0 0 ∷ to_word 1 3 ∷ to_word 2 5 ∷ Group 1 0 ∷ to_word 2 5 ∷ to_word 2 5 ∷ []
forked_words = refl

-- which is two words on
forked_near : forked_laid (relative narrow)
    ≡ Group 0 0 ∷ to_word 1 2 ∷ to_word 2 5 ∷ Group 1 0 ∷ to_word 2 5 ∷ to_word 2 5 ∷ []
forked_near = refl

-- a distance forwards, and one that wraps round: from 5 to 3 in eight bits
forwards : distance 8 3 5 ≡ 2
forwards = refl

backwards : distance 8 5 3 ≡ 254
backwards = refl

-- an address that is past the width counts by its low bits
past_width : distance 8 261 3 ≡ 254
past_width = refl

-- two assignments are a block, and so are the two in the body of a loop
abbrev longer : List Flow
longer = Assign 0 ∷ Assign 1 ∷ Test 2 6 3 ∷ Assign 3 ∷ Assign 4 ∷ Jumped 2 ∷ Ended ∷ []

longer_costs : block_costs longer (10 ∷ 20 ∷ 30 ∷ 40 ∷ 50 ∷ []) longer 0 ≡ 30 ∷ 30 ∷ 90 ∷ []
longer_costs = refl

longer_parts : parts_of [] longer (3 ∷ 1 ∷ 9 ∷ []) one_branch ≡
    Block 0 3 ∷ Inner
    ∷ TestPart (record {
      tree = 2;
      block = 1;
      words = 1;
      form = 0;
      setting = 0;
      to = 6;
      other = 3;
      next = true;
      long = false;
    })
    ∷ Block 2 9 ∷ Inner ∷ JumpPart 2 ∷ EndPart ∷ []
longer_parts = refl
