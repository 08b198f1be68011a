-- Worked instances: forms of two netlists, covers of trees by them, and their steps.
use Rattle.std.specs.Prelude.{ℕ, ◌≡◌, true, List, [], ◌∷◌, Some, None, refl}
use Rattle.std.proofs.Common.{arith}
use Rattle.rec_bits.specs.declared.operator.Op2.TheVariants.{Add, Sub, Eq}
use Rattle.net_model.specs.declared.hardware.Space.TheVariants.{Memory as InMemory}
use Rattle.net_model.specs.Exprs.{ExprModel, word, reg, const, read, bin, slice, zext, select, write, write_at}
use Rattle.net_model.specs.Patterns.{Pattern}
use Rattle.net_model.specs.declared.states.State.{State}
use Rattle.form_model.specs.declared.forms.Step.{Step}
use Rattle.form_model.specs.Effects.{operation_of, steps_effect}
use Rattle.form_model.specs.Forms.{FormModel, into_reg, into_memory, jumps, branches, absolute, cell, tested}
use Rattle.form_model.specs.CoverModels.{CoverModel, use_form, no_operands, operand_then, no_cuts, cut_then}
use Rattle.form_model.specs.Covers.{StockModel, IsOrderly}
use Rattle.form_model.specs.Steps.{cover_steps, branch_setting}

abbrev pub field : ExprModel
field = slice (word 12) 7 0

abbrev worked_form : ℕ → ℕ → ExprModel → ℕ → FormModel
worked_form p r value clobbers =
    record { pattern = p; goal = into_reg r; addr = None; value = value; fields = 255; clobbers = clobbers; tied = None }

abbrev store : ℕ → ExprModel → ℕ → FormModel
store p value clobbers = record {
  pattern = p;
  goal = into_memory;
  addr = Some field;
  value = value;
  fields = 255;
  clobbers = clobbers;
  tied = None;
}

-- the accumulator machine: PC 0, ACC 1, M 2
abbrev acc : ExprModel
acc = reg 1 16

abbrev mem : ExprModel
mem = read InMemory field 16

abbrev branch : ExprModel → FormModel
branch value = record {
  pattern = 1;
  goal = branches true (absolute field);
  addr = None;
  value = value;
  fields = 255;
  clobbers = 3;
  tied = None;
}

abbrev pub acc_forms : List FormModel
acc_forms = worked_form 0 0 (bin Add (reg 0 8) (const 8 1)) 1 ∷ worked_form 0 0 (bin Add (const 8 1) (reg 0 8)) 1
    ∷ branch (bin Eq acc (const 16 0)) ∷ branch (bin Eq (const 16 0) acc)
    ∷ record { pattern = 2; goal = jumps 256; addr = None; value = field; fields = 255; clobbers = 3; tied = None }
    ∷ worked_form 3 1 (bin Add acc mem) 3 ∷ worked_form 3 1 (bin Add mem acc) 3 ∷ worked_form 4 1 mem 3
    ∷ worked_form 5 1 (bin Sub acc mem) 3 ∷ worked_form 6 1 (zext field 16) 3
    ∷ store 7 acc 5 ∷ []

abbrev pub acc_stock : ℕ → StockModel
acc_stock temps = record { forms = acc_forms; temps = temps; file = 0 }

-- a variable's cell
abbrev pub at : ℕ → ExprModel
at a = read InMemory (const 8 a) 16

abbrev with_one : ℕ → CoverModel → CoverModel
with_one k p = use_form k (operand_then 0 p no_operands) no_cuts

abbrev leaf : ℕ → CoverModel
leaf k = use_form k no_operands no_cuts

abbrev step : ℕ → ℕ → Step
step p setting = record { pattern = p; setting = setting }

-- x = a + b
sum_steps : cover_steps (acc_stock 0) (cell 2) (bin Add (at 0) (at 1)) (with_one 10 (with_one 5 (leaf 7)))
    ≡ step 4 0 ∷ step 3 1 ∷ step 7 2 ∷ []
sum_steps = refl

-- x = (a + b) - (a - b), where a - b is cut
abbrev pub less_tree : ExprModel
less_tree = bin Sub (bin Add (at 2) (at 3)) (bin Sub (at 2) (at 3))

abbrev pub less_cover : CoverModel
less_cover =
    with_one 10 (use_form 8 (operand_then 0 (with_one 5 (leaf 7)) no_operands)
    (cut_then (with_one 10 (with_one 8 (leaf 7))) no_cuts))

less_steps : cover_steps (acc_stock 2) (cell 4) less_tree less_cover
    ≡ step 4 2 ∷ step 5 3 ∷ step 7 0 ∷ step 4 2 ∷ step 3 3 ∷ step 5 0 ∷ step 7 4 ∷ []
less_steps = refl

pub less_orderly : IsOrderly (acc_stock 2) (cell 4) less_tree true less_cover
less_orderly = (
  _,
  refl,
  _,
  refl,
  (
    _,
    refl,
    (
      _,
      refl,
      _,
      refl,
      (_, refl, (_, refl, _, refl, (_, refl, (_, refl, _, refl, refl, refl), refl, refl), refl), refl, refl),
      (_, _, refl, (_, refl, _, refl, (_, refl, (_, refl, _, refl, (_, refl, (_, refl, _, refl, refl, refl), refl, refl), refl), refl, refl), refl), omega arith, refl),
    ),
    refl,
    refl,
  ),
  refl,
)

-- x = a + 5, by the form with the operands swapped
five_steps : cover_steps (acc_stock 1) (cell 2) (bin Add (at 1) (const 16 5)) (with_one 10 (with_one 6 (leaf 9)))
    ≡ step 6 5 ∷ step 3 1 ∷ step 7 2 ∷ []
five_steps = refl

-- the form as extracted has to cut the number
five_cut : cover_steps (acc_stock 1) (cell 2) (bin Add (at 1) (const 16 5))
    (with_one 10 (use_form 5 (operand_then 0 (leaf 7) no_operands) (cut_then (with_one 10 (leaf 9)) no_cuts)))
    ≡ step 6 5 ∷ step 7 0 ∷ step 4 1 ∷ step 3 0 ∷ step 7 2 ∷ []
five_cut = refl

-- x = (a - (a - b)) - (b - a): the cut inside the operand has the cell 0, and the form's own cut
-- the cell 1
inner_steps : cover_steps (acc_stock 4) (cell 6)
    (bin Sub (bin Sub (at 4) (bin Sub (at 4) (at 5))) (bin Sub (at 5) (at 4)))
    (with_one 10 (use_form 8
    (operand_then 0
    (use_form 8 (operand_then 0 (leaf 7) no_operands) (cut_then (with_one 10 (with_one 8 (leaf 7))) no_cuts))
    no_operands)
    (cut_then (with_one 10 (with_one 8 (leaf 7))) no_cuts)))
    ≡ step 4 4 ∷ step 5 5 ∷ step 7 0 ∷ step 4 5 ∷ step 5 4 ∷ step 7 1 ∷ step 4 4 ∷ step 5 0
    ∷ step 5 1 ∷ step 7 6 ∷ []
inner_steps = refl

-- while a != 0: the operand of the test, and the branch's setting
test_steps : cover_steps (acc_stock 3) tested (bin Eq (at 3) (const 16 0)) (with_one 2 (leaf 7)) ≡ step 4 3 ∷ []
test_steps = refl

test_setting : branch_setting (acc_stock 3) (bin Eq (at 3) (const 16 0)) (with_one 2 (leaf 7)) ≡ 0
test_setting = refl

-- its patterns
abbrev pub acc_patterns : List Pattern
acc_patterns = record { storage = 0; move = write (bin Add (reg 0 8) (const 8 1)) }
    ∷ record { storage = 0; move = write (select (bin Eq acc (const 16 0)) field (bin Add (reg 0 8) (const 8 1))) }
    ∷ record { storage = 0; move = write field }
    ∷ record { storage = 1; move = write (bin Add acc mem) }
    ∷ record { storage = 1; move = write mem }
    ∷ record { storage = 1; move = write (bin Sub acc mem) } ∷ record { storage = 1; move = write (zext field 16) }
    ∷ record { storage = 2; move = write_at field acc } ∷ []

-- the machine of two registers: PC 0, A 1, X 2, M 3
abbrev a_reg : ExprModel
a_reg = reg 1 16

abbrev x_reg : ExprModel
x_reg = reg 2 16

abbrev two_forms : List FormModel
two_forms = worked_form 0 0 (bin Add (reg 0 8) (const 8 1)) 1 ∷ worked_form 0 0 (bin Add (const 8 1) (reg 0 8)) 1
    ∷ record { pattern = 1; goal = jumps 256; addr = None; value = field; fields = 255; clobbers = 7; tied = None }
    ∷ worked_form 2 1 x_reg 3 ∷ worked_form 3 1 (bin Add a_reg x_reg) 3 ∷ worked_form 3 1 (bin Add x_reg a_reg) 3
    ∷ worked_form 4 2 mem 5 ∷ store 5 a_reg 9 ∷ []

abbrev two_stock : StockModel
two_stock = record { forms = two_forms; temps = 0; file = 0 }

two_steps : cover_steps two_stock (cell 2) (bin Add (at 0) (at 1))
    (with_one 7 (use_form 4 (operand_then 0 (with_one 3 (leaf 6)) (operand_then 0 (leaf 6) no_operands)) no_cuts))
    ≡ step 4 0 ∷ step 2 0 ∷ step 4 1 ∷ step 3 0 ∷ step 5 2 ∷ []
two_steps = refl

-- the patterns of that machine, and the steps of a cover that isn't orderly: X first, and then the
-- way to A through X. They leave a + a, not a + b
abbrev two_patterns : List Pattern
two_patterns =
    record { storage = 0; move = write (bin Add (reg 0 8) (const 8 1)) }
    ∷ record { storage = 0; move = write field } ∷ record { storage = 1; move = write x_reg }
    ∷ record { storage = 1; move = write (bin Add a_reg x_reg) }
    ∷ record { storage = 2; move = write mem } ∷ record { storage = 3; move = write_at field a_reg } ∷ []

abbrev two_start : State
two_start = record { regs = 0 ∷ 0 ∷ 0 ∷ 0 ∷ []; cells = 5 ∷ 7 ∷ 0 ∷ []; file = [] }

two_right : steps_effect (operation_of None two_patterns) (cover_steps two_stock (cell 2) (bin Add (at 0) (at 1))
    (with_one 7 (use_form 4 (operand_then 0 (with_one 3 (leaf 6)) (operand_then 0 (leaf 6) no_operands)) no_cuts)))
    two_start
    ≡ record { regs = 0 ∷ 12 ∷ 7 ∷ 0 ∷ []; cells = 5 ∷ 7 ∷ 12 ∷ []; file = [] }
two_right = refl

two_wrong : steps_effect (operation_of None two_patterns) (cover_steps two_stock (cell 2) (bin Add (at 0) (at 1))
    (with_one 7 (use_form 4 (operand_then 1 (leaf 6) (operand_then 0 (with_one 3 (leaf 6)) no_operands)) no_cuts)))
    two_start
    ≡ record { regs = 0 ∷ 10 ∷ 5 ∷ 0 ∷ []; cells = 5 ∷ 7 ∷ 10 ∷ []; file = [] }
two_wrong = refl
