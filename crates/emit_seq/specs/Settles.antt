-- The settings of steps: values of the bits that occur in their forms, and of no others.
use Rattle.std.specs.Prelude.{ℕ, ◌≡◌, List, [], ◌∷◌, Option, Some, None, slice_get, bit_and, bit_or}
use Rattle.net_model.specs.Exprs.{ExprModel}
use Rattle.net_model.specs.Fields.{fields}
use Rattle.form_model.specs.declared.forms.Step.{Step}
use Rattle.form_model.specs.Forms.{FormModel, GoalModel, into_reg, into_memory, into_file, jumps, branches}

-- the instruction bits that occur in a form's transfer, address and value together
abbrev pub addr_fields : Option ExprModel → ℕ
addr_fields None = 0
addr_fields (Some a) = fields a

abbrev pub form_fields : FormModel → ℕ
form_fields form = bit_or (addr_fields form.addr) (fields form.value)

-- a form that has steps
abbrev pub IsStepping : GoalModel → Type 0
IsStepping (into_reg r) = Unit {0}
IsStepping into_memory = Unit {0}
IsStepping into_file = Unit {0}
IsStepping (jumps reach) = ⊥
IsStepping (branches when_one to) = ⊥

-- the step is one of a form of the list, with values for its bits and 0 for all others
pub record IsOfForm (forms : List FormModel) (x : Step) : Type 0 where
  pub destination : ℕ
  pub form : FormModel
  pub listed : slice_get forms destination ≡ Some form
  pub goal : IsStepping form.goal
  pub pattern : x.pattern ≡ form.pattern
  pub within : bit_and x.setting (form_fields form) ≡ x.setting

abbrev pub AreOfForms : List FormModel → List Step → Type 0
AreOfForms forms [] = Unit {0}
AreOfForms forms (x ∷ xs) = IsOfForm forms x × AreOfForms forms xs
