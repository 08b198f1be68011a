-- What is known of a form that begins a cover of what is asked for.
use Rattle.std.specs.Prelude.{ℕ, ◌+◌, ◌<◌, ◌≤◌, ◌≡◌, ◌⊎◌, List, Option, Some, None, slice_get, nat_lt, if◌then◌else◌}
use Rattle.net_model.specs.Exprs.{ExprModel}
use Rattle.form_model.specs.Trees.{model_of_tree}
use Rattle.form_model.specs.Forms.{FormModel}
use Rattle.form_model.specs.Matches.{MatchModel}
use Rattle.form_model.specs.CoverModels.{use_form, CoverOperandsModel, CoverCutsModel, operands_cost, cuts_cost}
use Rattle.form_model.specs.Covers.{StockModel, Operand, operands_of, cuts_of, cells_of_goal}
use Rattle.tree_grammar.specs.Leaves.{model_of_destination, Stands}
use Rattle.least_costs.specs.declared.limits.Limits.{Limits}
use Rattle.least_costs.specs.declared.search.Search.{Search}
use Rattle.tree_grammar.specs.declared.parts.Subgoal.{Subgoal}
use Rattle.least_costs.specs.declared.fits.Fit.{Fit}
use Rattle.least_costs.specs.declared.fits.BestFit.{BestFit}
use Rattle.least_costs.specs.declared.opened.OpenOperand.{OpenOperand}
use Rattle.least_costs.specs.declared.opened.OpenCut.{OpenCut}
use Rattle.least_costs.specs.Subgoals.{KeepsTo, SubgoalModel, takes, IsSparing}
use Rattle.least_costs.specs.Least.{IsLeastForm, IsLeastOrder, IsLeastCut}
use Rattle.least_costs.specs.Searches.{search_nodes, open_operands, open_cuts}

abbrev pub model_of_subgoal : Subgoal → SubgoalModel
model_of_subgoal w = record { destination = model_of_destination w.destination; tree = model_of_tree w.tree.now; whole = w.whole }

abbrev pub StandsGoal : Search → Subgoal → Type 0
StandsGoal search w = Stands (search_nodes search) w.at (model_of_destination w.destination) (model_of_tree w.tree.now)

-- the form at k begins a cover, and these are the parts of its match and their least costs
pub record Fits (stock : StockModel) (limits : Limits) (ask : SubgoalModel) (k : ℕ) (operands : List Operand)
    (stored : List ExprModel) (a b : ℕ) : Type 0 where
  pub form : FormModel
  pub found : MatchModel
  pub listed : slice_get stock.forms k ≡ Some form
  pub spared : KeepsTo limits form.clobbers (cells_of_goal form.goal)
  pub takes_it : takes stock form ask ≡ Some found
  pub operands_are : operands ≡ operands_of found.leaves
  pub cuts_are : stored ≡ cuts_of found.leaves
  pub order : IsLeastOrder stock limits operands (Some a)
  pub cut : IsLeastCut stock stored (Some b)

-- the cost of the covers that begin with the form
abbrev pub fit_cost : Fit → ℕ
fit_cost f = 1 + f.operands_cost + f.cuts_cost

abbrev pub IsFit : StockModel → Limits → SubgoalModel → ℕ → Option Fit → Type 0
IsFit stock limits ask k None = IsLeastForm stock limits ask k None
IsFit stock limits ask k (Some f) =
    Fits stock limits ask k (open_operands f.operands.items) (open_cuts f.cuts.items) f.operands_cost f.cuts_cost

-- the parts with their costs, where both are known
abbrev pub FitOf : List OpenOperand → List OpenCut → Option ℕ → Option ℕ → Option Fit → Type 0
FitOf operands stored a b None = (a ≡ None) ⊎ (b ≡ None)
FitOf operands stored a b (Some f) =
    (f.operands.items ≡ operands) × (f.cuts.items ≡ stored) × (a ≡ Some f.operands_cost)
    × (b ≡ Some f.cuts_cost)

-- the same of the parts of a match
abbrev pub FitsParts : StockModel → Limits → List Operand → List ExprModel → Option Fit → Type 0
FitsParts stock limits operands stored o =
    (is : List OpenOperand) × (ss : List OpenCut) × (a : Option ℕ) × (b : Option ℕ)
    × (open_operands is ≡ operands) × (open_cuts ss ≡ stored)
    × IsLeastOrder stock limits (open_operands is) a × IsLeastCut stock (open_cuts ss) b × FitOf is ss a b o

-- the one that is known, or the form at k where its covers cost less
abbrev pub cheaper_fit : Option BestFit → ℕ → Option Fit → Option BestFit
cheaper_fit best k None = best
cheaper_fit None k (Some f) = Some (record { form = k; fit = f })
cheaper_fit (Some b) k (Some f) =
    if nat_lt (fit_cost f) (fit_cost b.fit) then Some (record { form = k; fit = f }) else Some b

-- among the first n forms, the first that begins a cover of least cost
pub record IsBestFit (stock : StockModel) (limits : Limits) (ask : SubgoalModel) (n : ℕ) (b : BestFit) : Type 0 where
  pub within : b.form < n
  pub fits : Fits stock limits ask b.form (open_operands b.fit.operands.items) (open_cuts b.fit.cuts.items)
      b.fit.operands_cost b.fit.cuts_cost
  pub least : (j : ℕ) (ps : CoverOperandsModel) (cs : CoverCutsModel) → j < n →
      IsSparing stock limits ask (use_form j ps cs) → fit_cost b.fit ≤ 1 + operands_cost ps + cuts_cost cs
  pub first : (j : ℕ) (ps : CoverOperandsModel) (cs : CoverCutsModel) → j < b.form →
      IsSparing stock limits ask (use_form j ps cs) → fit_cost b.fit < 1 + operands_cost ps + cuts_cost cs

-- and none where none of them begins a cover
abbrev pub IsBestAmong : StockModel → Limits → SubgoalModel → ℕ → Option BestFit → Type 0
IsBestAmong stock limits ask n None =
    (j : ℕ) (ps : CoverOperandsModel) (cs : CoverCutsModel) → j < n → IsSparing stock limits ask (use_form j ps cs) → ⊥
IsBestAmong stock limits ask n (Some b) = IsBestFit stock limits ask n b
