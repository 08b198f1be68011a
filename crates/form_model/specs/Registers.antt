-- The registers that forms name.
use Rattle.std.specs.Prelude.{ℕ, ◌<◌, ◌≡◌, true, List, Some, slice_get}
use Rattle.net_model.specs.Occurs.{occurs}
use Rattle.net_model.specs.Exprs.{ExprModel}
use Rattle.form_model.specs.Forms.{GoalModel, FormModel, into_reg}

-- the numbers of the registers that occur in an expression are below 16, so that a set of registers
-- has a bit for each
abbrev pub IsLowExpr : ExprModel → Type 0
IsLowExpr t = (q : ℕ) → occurs q t ≡ true → q < 16

-- so is that of the register to which a transfer goes, if it goes to one
abbrev pub IsLowGoal : GoalModel → Type 0
IsLowGoal goal = (q : ℕ) → goal ≡ into_reg q → q < 16

-- so are those of a form's goal, its address and its value
abbrev pub IsLow : FormModel → Type 0
IsLow form = IsLowGoal form.goal × ((a : ExprModel) → form.addr ≡ Some a → IsLowExpr a) × IsLowExpr form.value

abbrev pub AreLow : List FormModel → Type 0
AreLow forms = (k : ℕ) (form : FormModel) → slice_get forms k ≡ Some form → IsLow form
