-- Forms as plain values, and aims.
use Rattle.std.specs.Prelude.{ℕ, Bool, List, map, Option}
use Rattle.std.specs.Option.{option_map}
use Rattle.net_model.specs.Exprs.{ExprModel, model_of_expr}
use Rattle.form_model.specs.declared.forms.Form.{Form}
use Rattle.form_model.specs.declared.forms.Goal.{Goal}
use Rattle.form_model.specs.declared.forms.Goal.TheVariants.{Reg, Memory, File, Jump, Branch}
use Rattle.form_model.specs.declared.forms.Target.{Target}
use Rattle.form_model.specs.declared.forms.Target.TheVariants.{Absolute, Relative}
use Rattle.form_model.specs.declared.trees.Aim.{Aim}
use Rattle.form_model.specs.declared.trees.Aim.TheVariants.{Cell, Store, Test, Temp}
use Rattle.form_model.specs.Trees.{model_of_tree}

-- where a branch goes
pub data TargetModel : Type 0 where
  absolute : (address : ExprModel) → TargetModel
  relative : (distance : ExprModel) → TargetModel

abbrev pub model_of_target : Target → TargetModel
model_of_target (Absolute e) = absolute (model_of_expr e)
model_of_target (Relative e) = relative (model_of_expr e)

-- what a form's transfer goes to
pub data GoalModel : Type 0 where
  into_reg : (id : ℕ) → GoalModel
  into_memory : GoalModel
  into_file : GoalModel
  jumps : (reach : ℕ) → GoalModel
  branches : (when_one : Bool) → (to : TargetModel) → GoalModel

abbrev pub model_of_goal : Goal → GoalModel
model_of_goal (Reg id) = into_reg id
model_of_goal Memory = into_memory
model_of_goal File = into_file
model_of_goal (Jump reach) = jumps reach
model_of_goal (Branch when_one to) = branches when_one (model_of_target to)

-- a form
pub record FormModel : Type 0 where
  pub pattern : ℕ
  pub goal : GoalModel
  pub addr : Option ExprModel
  pub value : ExprModel
  pub fields : ℕ
  pub clobbers : ℕ
  pub tied : Option ℕ

abbrev pub model_of_form : Form → FormModel
model_of_form f = record {
  pattern = f.pattern;
  goal = model_of_goal f.goal;
  addr = option_map model_of_expr f.addr;
  value = model_of_expr f.value;
  fields = f.fields;
  clobbers = f.clobbers;
  tied = f.tied;
}

abbrev pub models_of_forms : List Form → List FormModel
models_of_forms forms = map model_of_form forms

-- where a tree goes: as an aim, or as an operand into a register or into the file
pub data DestinationModel : Type 0 where
  into : (id : ℕ) → DestinationModel
  filed : DestinationModel
  cell : (address : ℕ) → DestinationModel
  stored : (address : ExprModel) → DestinationModel
  temporary : DestinationModel
  tested : DestinationModel

abbrev pub aim_destination : Aim → DestinationModel
aim_destination (Cell address) = cell address
aim_destination (Store address) = stored (model_of_tree address)
aim_destination Test = tested
aim_destination Temp = temporary
