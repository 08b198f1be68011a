-- What a form of the list is, and what it promises.
use Rattle.std.specs.Prelude.{◌≡◌, ◌≢◌, ℕ, ◌+◌, ◌&&◌, Bool, true, false, List, [], ◌∷◌, Option, None, Some, slice_get}
use Rattle.std.specs.Int.{bit_at}
use Rattle.net_model.specs.declared.hardware.Netlist.{Netlist}
use Rattle.net_model.specs.declared.hardware.Space.TheVariants.{File as InFile}
use Rattle.net_model.specs.Nets.{IsRegister, memory_id, place_in}
use Rattle.net_model.specs.Patterns.{IsWordOf, Pattern}
use Rattle.net_model.specs.declared.states.State.{State}
use Rattle.net_model.specs.Meaning.{mean}
use Rattle.net_model.specs.Exprs.{ExprModel, keep, expr_width}
use Rattle.sym_expr.specs.Pools.{ExprFits}
use Rattle.net_model.specs.Transfers.{Steps, memory_transfer, transfer_at, space_transfer}
use Rattle.net_model.specs.Fields.{transfer_fields}
use Rattle.form_model.specs.Forms.{GoalModel as GoalKind, FormModel, jumps, branches}
use Rattle.form_set.specs.Listing.{IsBranch, IsJump, IsPlain, branch_form_model, jump_form_model, plain_form_model}
use Rattle.operand_swaps.specs.Swaps.{SidesModel}
use Rattle.form_set.specs.Targets.{Branch}
use Rattle.form_set.specs.Words.{AreClobbers, ForEachSetting}

-- a form is of one of three kinds, each with its pattern and its choice of swaps
pub data IsFormOf (netlist : Netlist) (reach number : ℕ) (pattern : Pattern) (form : FormModel) : Type 0 where
  of_plain : (choice clobbers : ℕ) → IsPlain netlist pattern → AreClobbers netlist pattern clobbers
      → form ≡ plain_form_model netlist number pattern clobbers choice
      → IsFormOf netlist reach number pattern form
  of_jump : (h : IsJump netlist pattern) →
      form ≡ jump_form_model netlist number h.target (transfer_fields pattern.move) →
      IsFormOf netlist reach number pattern form
  of_branch : (choice : ℕ) (parts : Branch) → IsBranch netlist reach pattern parts
      → form ≡ branch_form_model netlist number pattern parts choice
      → IsFormOf netlist reach number pattern form

-- the form of a pattern of the list, whose number is its place
pub record IsForm (netlist : Netlist) (reach first : ℕ) (patterns : List Pattern) (form : FormModel) : Type 0 where
  pub place : ℕ
  pub pattern : Pattern
  pub at : slice_get patterns place ≡ Some pattern
  pub of : IsFormOf netlist reach (first + place) pattern form

-- the word does a pattern's transfer, steps, keeps the data memory and the register file unless that
-- one is the pattern's storage, and keeps each register that isn't among these
pub record KeepsBut (netlist : Netlist) (pattern : Pattern) (clobbers : ℕ) (word : ℕ) : Type 0 where
  pub given : IsWordOf netlist pattern word
  pub steps : Steps netlist word
  pub memory : pattern.storage ≢ memory_id netlist.storages → memory_transfer netlist word ≡ keep
  pub file : pattern.storage ≢ place_in InFile netlist.storages → space_transfer netlist InFile word ≡ keep
  pub registers : (r : ℕ) → IsRegister (slice_get netlist.storages r) → bit_at clobbers r ≡ 0 →
      transfer_at netlist word r ≡ keep

-- for every setting there is such a word
abbrev pub HasWords : Netlist → Pattern → ℕ → Type 0
HasWords netlist pattern clobbers = ForEachSetting (transfer_fields pattern.move) (KeepsBut netlist pattern clobbers)

-- ---- when there are no forms of a kind

abbrev pub all_form_models : (FormModel → Bool) → List FormModel → Bool
all_form_models q [] = true
all_form_models q (form ∷ forms) = q form && all_form_models q forms

abbrev pub is_control_goal : GoalKind → Bool
is_control_goal (jumps reach) = true
is_control_goal (branches when_one to) = true
is_control_goal _ = false

-- no form but jump and branch forms
abbrev pub only_control : List FormModel → Bool
only_control forms = all_form_models (λ form. is_control_goal form.goal) forms

abbrev pub is_no_jump : GoalKind → Bool
is_no_jump (jumps reach) = false
is_no_jump _ = true

-- no jump form
abbrev pub no_jumps : List FormModel → Bool
no_jumps forms = all_form_models (λ form. is_no_jump form.goal) forms
