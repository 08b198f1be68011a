-- What the choice of a form, of an order and of cuts finds.
use Rattle.std.specs.Prelude.{ℕ, ◌+◌, ◌-◌, ◌<◌, ◌≤◌, ◌≡◌, ◌≢◌, ◌⊎◌, List, [], ◌∷◌, Option, Some, None, slice_get, remove}
use Rattle.net_model.specs.Exprs.{ExprModel}
use Rattle.form_model.specs.Trees.{model_of_tree}
use Rattle.form_model.specs.declared.covers.Cover.{Cover}
use Rattle.form_model.specs.CoverModels.{CoverModel, use_form, CoverOperandsModel, operand_then, CoverCutsModel, cost, operands_cost, cuts_cost, model_of_cover_operands, model_of_cover_cuts}
use Rattle.form_model.specs.Covers.{StockModel, Operand, IsBefore, AreBefore, CutsBefore, IsSooner, SamePlaces}
use Rattle.least_costs.specs.declared.limits.Limits.{Limits}
use Rattle.least_costs.specs.declared.slots.Slot.{Slot}
use Rattle.least_costs.specs.Fits.{Fits}
use Rattle.cover.specs.declared.choice.PartCosts.{PartCosts}
use Rattle.least_costs.specs.declared.matches.FormMatch.{FormMatch}
use Rattle.least_costs.specs.declared.matches.Matches.{Matches}
use Rattle.least_costs.specs.Rows.{row_subgoal}
use Rattle.least_costs.specs.Subgoals.{free, SubgoalModel, operand_subgoal, cut_subgoal, after, IsSparing, AreSparing, AreStored}
use Rattle.least_costs.specs.Least.{AtMost, IsLeast, IsLeastOrder, IsLeastCut, IsFloor, summed}
use Rattle.least_costs.specs.Searches.{open_operands, open_cuts}

-- no cover of cost n begins with the form at k
abbrev pub NeverBegins : StockModel → Limits → SubgoalModel → ℕ → ℕ → Type 0
NeverBegins stock limits ask n k =
    (ps : CoverOperandsModel) (cs : CoverCutsModel) → IsSparing stock limits ask (use_form k ps cs) →
    1 + operands_cost ps + cuts_cost cs ≢ n

-- what is asked for an entry of the row of the matches' tree
abbrev pub matches_subgoal : Matches → Slot → SubgoalModel
matches_subgoal ms slot = row_subgoal (model_of_tree ms.tree.now) ms.whole slot

-- the two costs, where the form makes n with them
abbrev pub CostsOf : ℕ → Option ℕ → Option ℕ → Option PartCosts → Type 0
CostsOf n a b None = (j k : ℕ) → a ≡ Some j → b ≡ Some k → 1 + j + k ≢ n
CostsOf n a b (Some c) = (a ≡ Some c.operands) × (b ≡ Some c.cuts) × (1 + c.operands + c.cuts ≡ n)

-- the least costs of the parts of a match, where a form makes n with them
pub record AreCosts (stock : StockModel) (limits : Limits) (ops : List Operand) (ts : List ExprModel) (n : ℕ)
    (o : Option PartCosts) : Type 0 where
  pub operands : Option ℕ
  pub cuts : Option ℕ
  pub order : IsLeastOrder stock limits ops operands
  pub cut : IsLeastCut stock ts cuts
  pub costs : CostsOf n operands cuts o

-- a form with these parts costs more than n
pub record IsAbove (stock : StockModel) (limits : Limits) (ops : List Operand) (ts : List ExprModel) (n : ℕ) : Type 0 where
  pub operands : Option ℕ
  pub cuts : Option ℕ
  pub floor : IsFloor stock limits ops operands
  pub cut : IsLeastCut stock ts cuts
  pub above : AtMost (summed (summed (Some 1) operands) cuts) n → ⊥

abbrev pub CostsWithin : StockModel → Limits → List Operand → List ExprModel → ℕ → Option PartCosts → Type 0
CostsWithin stock limits ops ts n o = AreCosts stock limits ops ts n o ⊎ ((o ≡ None) × IsAbove stock limits ops ts n)

-- the match begins a cover of cost n, and these are the costs of its parts
abbrev pub BeginsOne : StockModel → Limits → SubgoalModel → ℕ → FormMatch → Option PartCosts → Type 0
BeginsOne stock limits ask n m None = NeverBegins stock limits ask n m.form
BeginsOne stock limits ask n m (Some c) =
    Fits stock limits ask m.form (open_operands m.operands.items) (open_cuts m.cuts.items) c.operands c.cuts
    × (1 + c.operands + c.cuts ≡ n)

abbrev pub BeginsAt : StockModel → Limits → Matches → Slot → ℕ → ℕ → Option PartCosts → Type 0
BeginsAt stock limits ms slot n i o =
    (m : FormMatch) → slice_get ms.list.items i ≡ Some m →
    BeginsOne stock limits (matches_subgoal ms slot) n m o

-- the operand at i begins an order of cost n, and itself costs m
abbrev pub Starts : StockModel → Limits → List Operand → ℕ → ℕ → Option ℕ → Type 0
Starts stock limits ops n i (Some m) =
    (o : Operand) × (slice_get ops i ≡ Some o) × (0 < m) × (m ≤ n)
    × IsLeast stock limits (operand_subgoal o) (Some m)
    × IsLeastOrder stock (after limits o.home) (remove ops i) (Some (n - m))
Starts stock limits ops n i None =
    (p : CoverModel) (ps : CoverOperandsModel) → AreSparing stock limits ops (operand_then i p ps) → cost p + operands_cost ps ≢ n

-- the first cut costs m of the n of all
abbrev pub StartsCut : StockModel → List ExprModel → ℕ → ℕ → Type 0
StartsCut stock [] n m = ⊥
StartsCut stock (t ∷ ts) n m =
    (0 < m) × (m ≤ n) × IsLeast stock (free stock) (cut_subgoal t) (Some m) × IsLeastCut stock ts (Some (n - m))

-- the first among the covers of least cost
pub record IsFirst (stock : StockModel) (limits : Limits) (ask : SubgoalModel) (p : CoverModel) : Type 0 where
  pub sparing : IsSparing stock limits ask p
  pub first : (q : CoverModel) → IsSparing stock limits ask q →
      (cost p < cost q) ⊎ ((cost p ≡ cost q) × ((p ≡ q) ⊎ IsBefore p q))

abbrev pub OrderBefore : CoverOperandsModel → CoverOperandsModel → Type 0
OrderBefore ps qs = IsSooner ps qs ⊎ (SamePlaces ps qs × AreBefore ps qs)

pub record IsFirstOrder (stock : StockModel) (limits : Limits) (ops : List Operand) (ps : CoverOperandsModel) : Type 0 where
  pub sparing : AreSparing stock limits ops ps
  pub first : (qs : CoverOperandsModel) → AreSparing stock limits ops qs →
      (operands_cost ps < operands_cost qs)
      ⊎ ((operands_cost ps ≡ operands_cost qs) × ((ps ≡ qs) ⊎ OrderBefore ps qs))

pub record IsFirstCuts (stock : StockModel) (ts : List ExprModel) (cs : CoverCutsModel) : Type 0 where
  pub covered : AreStored stock ts cs
  pub first : (ds : CoverCutsModel) → AreStored stock ts ds →
      (cuts_cost cs < cuts_cost ds) ⊎ ((cuts_cost cs ≡ cuts_cost ds) × ((cs ≡ ds) ⊎ CutsBefore cs ds))

-- the first cover of the operand at i, and the first of the others, which spare its register
abbrev pub IsFirstFrom : StockModel → Limits → List Operand → ℕ → CoverOperandsModel → Type 0
IsFirstFrom stock limits ops i all =
    (o : Operand) × (p : CoverModel) × (ps : CoverOperandsModel) × (slice_get ops i ≡ Some o) × IsFirst stock limits (operand_subgoal o) p
    × IsFirstOrder stock (after limits o.home) (remove ops i) ps × (all ≡ operand_then i p ps)

-- the cover has the first covers of the parts of a match of the form at k
abbrev pub AreFirstParts : StockModel → Limits → List Operand → List ExprModel → ℕ → Cover → Type 0
AreFirstParts stock limits ops ts k c =
    (c.form ≡ k) × IsFirstOrder stock limits ops (model_of_cover_operands c.operands) × IsFirstCuts stock ts (model_of_cover_cuts c.cuts)
