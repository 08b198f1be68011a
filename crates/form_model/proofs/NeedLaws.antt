-- The cells of the file in which covers leave their values.
use Rattle.std.proofs.Common.{◌≡◌, ℕ, ◌≤◌, Bool, Some, refl, ap, ◌∙◌}
use Rattle.std.specs.Prelude.{slice_get}
use Rattle.std.proofs.Math.Nat.{le-max_left}
use Rattle.net_model.specs.Exprs.{ExprModel}
use Rattle.form_model.specs.Forms.{FormModel, GoalModel, into_reg, into_memory, into_file, jumps, branches}
use Rattle.form_model.specs.Matches.{HomeModel, in_register, in_file, MatchModel, goal_match}
use Rattle.form_model.specs.CoverModels.{CoverModel, use_form}
use Rattle.form_model.specs.Covers.{StockModel, home_destination, home_cells, cells_of_goal, form_cells, left_cells, need, operands_need, IsOrderly}

-- a form that goes to a home leaves its value in as many cells of the file as that has
pub goal_cells : (temps : ℕ) (form : FormModel) (goal : GoalModel) (home : HomeModel) (t : ExprModel) (whole : Bool) (found : MatchModel) → goal_match temps form goal (home_destination home) t whole ≡ Some found → cells_of_goal goal ≡ home_cells home
goal_cells temps form (into_reg d) (in_register id) t whole found h = refl
goal_cells temps form (into_reg d) (in_file shape) t whole found h = absurd (cc)
goal_cells temps form into_memory (in_register id) t whole found h = absurd (cc)
goal_cells temps form into_memory (in_file shape) t whole found h = absurd (cc)
goal_cells temps form into_file (in_register id) t whole found h = absurd (cc)
goal_cells temps form into_file (in_file shape) t whole found h = refl
goal_cells temps form (jumps reach) (in_register id) t whole found h = absurd (cc)
goal_cells temps form (jumps reach) (in_file shape) t whole found h = absurd (cc)
goal_cells temps form (branches when_one to) (in_register id) t whole found h = absurd (cc)
goal_cells temps form (branches when_one to) (in_file shape) t whole found h = absurd (cc)

-- and so does an orderly cover
pub cells_left : (stock : StockModel) (p : CoverModel) (home : HomeModel) (t : ExprModel) (whole : Bool) → IsOrderly stock (home_destination home) t whole p → left_cells stock.forms p ≡ home_cells home
cells_left stock (use_form k ps cs) home t whole (form, listed, found, m, orderly, stored) =
    ap form_cells listed ∙ goal_cells stock.temps form form.goal home t whole found m

pub left_need : (stock : StockModel) (p : CoverModel) → left_cells stock.forms p ≤ need stock.forms p
left_need stock (use_form k ps cs) = le-max_left (form_cells (slice_get stock.forms k)) (operands_need stock.forms ps)
