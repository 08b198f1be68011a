-- The forms of a netlist, in their order. When a pattern is plain, a jump or a branch, its forms,
-- one for each choice of swaps, and exactly the forms of a list of patterns, with the greatest
-- reach of the jumps. `Worked` computes it on two small processors.
use Rattle.std.specs.Prelude.{◌≡◌, ℕ, zero, suc, ◌+◌, ◌^◌, ◌==◌, true, if◌then◌else◌, max, List, [], ◌∷◌, ◌++◌, Some, None}
use Rattle.net_model.specs.declared.hardware.Netlist.{Netlist}
use Rattle.net_model.specs.declared.hardware.Space.TheVariants.{File as InFile}
use Rattle.net_model.specs.Nets.{counter_of, counter_width, memory_id, size_in}
use Rattle.net_model.specs.Patterns.{Pattern}
use Rattle.net_model.specs.Exprs.{ExprModel, const, TransferModel, keep, write, write_at}
use Rattle.net_model.specs.Fields.{transfer_fields}
use Rattle.form_model.specs.Shapes.{is_shape_in, reach_of}
use Rattle.form_model.specs.Forms.{GoalModel as GoalKind, FormModel, into_file, into_memory, into_reg, jumps, branches}
use Rattle.net_model.specs.Occurs.{IsLinear}
use Rattle.form_set.specs.Static.{cells_shown, has_shapes, is_file_at, transfer_shaped, reads_shown}
use Rattle.operand_swaps.specs.Swaps.{SidesModel, swap_count, swapped}
use Rattle.form_set.specs.Targets.{Branch, expr_branch}
use Rattle.form_set.specs.Tied.{counted, tied_of}
use Rattle.transfer_set.specs.declared.stepping.Counter.{Counter}
use Rattle.form_set.specs.Words.{AreClobbers, CanJump, CanKeep, all_registers}

-- what f makes of each number below this one, in ascending order
abbrev pub map_below : {A : Type 0} → (ℕ → A) → ℕ → List A
map_below f zero = []
map_below f (suc n) = map_below f n ++ f n ∷ []

-- ---- patterns as transfers

abbrev pub sides_of : TransferModel → SidesModel
sides_of keep = record { addr = None; value = const 0 0 }
sides_of (write e) = record { addr = None; value = e }
sides_of (write_at a e) = record { addr = Some a; value = e }

abbrev pub counter_at : Netlist → Counter
counter_at netlist = record { storage = counter_of netlist.codes; width = counter_width netlist }

abbrev pub goal_at : Netlist → ℕ → GoalKind
goal_at netlist storage =
    if storage == memory_id netlist.storages then into_memory
    else if is_file_at netlist storage then into_file
    else into_reg storage

-- ---- plain forms

-- what gives forms: linear, where a tied read's address isn't counted again, with field shapes for
-- its outermost static parts and addresses of the file that show every cell, and ok without anything
-- to keep
pub record IsPlain (netlist : Netlist) (pattern : Pattern) : Type 0 where
  pub linear : IsLinear 0 (counted (is_file_at netlist pattern.storage) pattern.move)
  pub shapes : transfer_shaped netlist.edition pattern.move ≡ true
  pub cells : cells_shown netlist pattern ≡ true
  pub ok : CanKeep netlist pattern 0

abbrev pub plain_form_model : Netlist → ℕ → Pattern → ℕ → ℕ → FormModel
plain_form_model netlist number pattern clobbers choice = record {
  pattern = number;
  goal = goal_at netlist pattern.storage;
  addr = (swapped choice (sides_of pattern.move)).addr;
  value = (swapped choice (sides_of pattern.move)).value;
  fields = transfer_fields pattern.move;
  clobbers = clobbers;
  tied = tied_of (is_file_at netlist pattern.storage) (swapped choice (sides_of pattern.move));
}

-- one for each choice of swaps
abbrev pub plain_form_models : Netlist → ℕ → Pattern → ℕ → List FormModel
plain_form_models netlist number pattern clobbers =
    map_below (plain_form_model netlist number pattern clobbers) (2 ^ swap_count (sides_of pattern.move))

-- ---- jump forms

-- a pattern PC := shape
pub record IsJump (netlist : Netlist) (pattern : Pattern) : Type 0 where
  pub target : ExprModel
  pub storage : pattern.storage ≡ counter_of netlist.codes
  pub move : pattern.move ≡ write target
  pub shape : is_shape_in netlist.edition target ≡ true
  pub can : CanJump netlist pattern

abbrev pub jump_form_model : Netlist → ℕ → ExprModel → ℕ → FormModel
jump_form_model netlist number target fields = record {
  pattern = number;
  goal = jumps (reach_of target);
  addr = None;
  value = target;
  fields = fields;
  clobbers = all_registers netlist.storages;
  tied = None;
}

-- ---- branch forms

-- a pattern PC := select(c, t, step) or PC := select(c, step, t) with an allowed target, where
-- reach is that of the jump forms, and where each address of the file in c shows every cell
pub record IsBranch (netlist : Netlist) (reach : ℕ) (pattern : Pattern) (branch : Branch) : Type 0 where
  pub value : ExprModel
  pub storage : pattern.storage ≡ counter_of netlist.codes
  pub move : pattern.move ≡ write value
  pub parts : expr_branch netlist.edition (counter_at netlist) reach value ≡ Some branch
  pub shapes : has_shapes netlist.edition branch.test ≡ true
  pub cells : reads_shown (size_in InFile netlist.storages) branch.test ≡ true
  pub linear : IsLinear (2 ^ counter_of netlist.codes) pattern.move
  pub can : CanJump netlist pattern

abbrev pub test_sides : Branch → SidesModel
test_sides branch = record { addr = None; value = branch.test }

abbrev pub branch_form_model : Netlist → ℕ → Pattern → Branch → ℕ → FormModel
branch_form_model netlist number pattern branch choice = record {
  pattern = number;
  goal = branches branch.when_one branch.to;
  addr = None;
  value = (swapped choice (test_sides branch)).value;
  fields = transfer_fields pattern.move;
  clobbers = all_registers netlist.storages;
  tied = None;
}

-- one for each choice of swaps in the condition
abbrev pub branch_form_models : Netlist → ℕ → Pattern → Branch → List FormModel
branch_form_models netlist number pattern branch =
    map_below (branch_form_model netlist number pattern branch) (2 ^ swap_count (test_sides branch))

-- ---- all forms

-- the forms of the pattern of this number
pub data AreFormModelsOf (netlist : Netlist) (reach number : ℕ) (pattern : Pattern) (forms : List FormModel) : Type 0 where
  plain : (clobbers : ℕ) → IsPlain netlist pattern → AreClobbers netlist pattern clobbers
      → forms ≡ plain_form_models netlist number pattern clobbers
      → AreFormModelsOf netlist reach number pattern forms
  jump : (h : IsJump netlist pattern) →
      forms ≡ jump_form_model netlist number h.target (transfer_fields pattern.move) ∷ [] →
      AreFormModelsOf netlist reach number pattern forms
  branch : (parts : Branch) → IsBranch netlist reach pattern parts →
      forms ≡ branch_form_models netlist number pattern parts →
      AreFormModelsOf netlist reach number pattern forms
  other : (IsPlain netlist pattern → ⊥) → (IsJump netlist pattern → ⊥)
      → ((parts : Branch) → IsBranch netlist reach pattern parts → ⊥) → forms ≡ []
      → AreFormModelsOf netlist reach number pattern forms

-- the forms of patterns that are numbered from a number on: by the number of the pattern
abbrev pub AreFormModels : Netlist → ℕ → ℕ → List Pattern → List FormModel → Type 0
AreFormModels netlist reach number [] forms = forms ≡ []
AreFormModels netlist reach number (pattern ∷ patterns) forms =
    (first : List FormModel) × (rest : List FormModel) × AreFormModelsOf netlist reach number pattern first
    × AreFormModels netlist reach (number + 1) patterns rest × (forms ≡ first ++ rest)

abbrev pub goal_reach : GoalKind → ℕ
goal_reach (jumps reach) = reach
goal_reach _ = 0

-- the greatest reach of the jump forms, and 0 where there is none
abbrev pub greatest_reach : List FormModel → ℕ
greatest_reach [] = 0
greatest_reach (form ∷ forms) = max (goal_reach form.goal) (greatest_reach forms)

-- exactly the forms of a netlist with these patterns, in their order, and the greatest reach of the
-- jump forms
pub record AreForms (netlist : Netlist) (patterns : List Pattern) (forms : List FormModel) (reach : ℕ) : Type 0 where
  pub list : AreFormModels netlist reach 0 patterns forms
  pub greatest_is : reach ≡ greatest_reach forms
