-- The least cost of covers.
use Rattle.std.specs.Prelude.{ℕ, ◌+◌, ◌^◌, ◌<◌, ◌≤◌, ◌≡◌, List, ◌⊎◌, Option, Some, None, nat_lt, if◌then◌else◌, slice_get, remove}
use Rattle.net_model.specs.Exprs.{ExprModel}
use Rattle.form_model.specs.CoverModels.{CoverModel, use_form, CoverOperandsModel, operand_then, CoverCutsModel, cost, operands_cost, cuts_cost}
use Rattle.form_model.specs.Covers.{StockModel, Operand}
use Rattle.least_costs.specs.declared.limits.Limits.{Limits}
use Rattle.least_costs.specs.Subgoals.{SubgoalModel, after, IsSparing, AreSparing, AreStored}

-- a cost is known, and is at most n
abbrev pub AtMost : Option ℕ → ℕ → Type 0
AtMost None n = ⊥
AtMost (Some m) n = m ≤ n

-- a cost, if it is known, is at most n
abbrev pub NoMore : Option ℕ → ℕ → Type 0
NoMore None n = Unit {0}
NoMore (Some m) n = m ≤ n

-- 64 bits hold a cost, if it is known
abbrev pub IsHeld : Option ℕ → Type 0
IsHeld None = Unit {0}
IsHeld (Some n) = n < 2 ^ 64

-- a known cost is that of some cover
abbrev pub IsLeastWithin : StockModel → Limits → SubgoalModel → Option ℕ → Type 0
IsLeastWithin stock limits ask None = Unit {0}
IsLeastWithin stock limits ask (Some n) = (p : CoverModel) × IsSparing stock limits ask p × (cost p ≡ n)

-- the cost of some cover, and no cover is cheaper; none only where there is no cover
pub record IsLeast (stock : StockModel) (limits : Limits) (ask : SubgoalModel) (o : Option ℕ) : Type 0 where
  pub reached : IsLeastWithin stock limits ask o
  pub least : (p : CoverModel) → IsSparing stock limits ask p → AtMost o (cost p)

abbrev pub OrderReached : StockModel → Limits → List Operand → Option ℕ → Type 0
OrderReached stock limits ops None = Unit {0}
OrderReached stock limits ops (Some n) = (ps : CoverOperandsModel) × AreSparing stock limits ops ps × (operands_cost ps ≡ n)

pub record IsLeastOrder (stock : StockModel) (limits : Limits) (ops : List Operand) (o : Option ℕ) : Type 0 where
  pub reached : OrderReached stock limits ops o
  pub least : (ps : CoverOperandsModel) → AreSparing stock limits ops ps → AtMost o (operands_cost ps)

-- the same of the operands but the one at i, whose register they spare
abbrev pub IsLeastAfter : StockModel → Limits → List Operand → ℕ → Option ℕ → Type 0
IsLeastAfter stock limits ops i o =
    (x : Operand) → slice_get ops i ≡ Some x →
    IsLeastOrder stock (after limits x.home) (remove ops i) o

-- no order costs less than this; none only where there is no order
abbrev pub IsFloor : StockModel → Limits → List Operand → Option ℕ → Type 0
IsFloor stock limits ops o = (ps : CoverOperandsModel) → AreSparing stock limits ops ps → AtMost o (operands_cost ps)

abbrev pub CutReached : StockModel → List ExprModel → Option ℕ → Type 0
CutReached stock ts None = Unit {0}
CutReached stock ts (Some n) = (cs : CoverCutsModel) × AreStored stock ts cs × (cuts_cost cs ≡ n)

pub record IsLeastCut (stock : StockModel) (ts : List ExprModel) (o : Option ℕ) : Type 0 where
  pub reached : CutReached stock ts o
  pub least : (cs : CoverCutsModel) → AreStored stock ts cs → AtMost o (cuts_cost cs)

-- the orders that begin with the operand at i
abbrev pub FromReached : StockModel → Limits → List Operand → ℕ → Option ℕ → Type 0
FromReached stock limits ops i None = Unit {0}
FromReached stock limits ops i (Some n) =
    (p : CoverModel) × (ps : CoverOperandsModel) × AreSparing stock limits ops (operand_then i p ps)
    × (cost p + operands_cost ps ≡ n)

pub record IsLeastFrom (stock : StockModel) (limits : Limits) (ops : List Operand) (i : ℕ) (o : Option ℕ) : Type 0 where
  pub reached : FromReached stock limits ops i o
  pub least : (p : CoverModel) (ps : CoverOperandsModel) → AreSparing stock limits ops (operand_then i p ps) →
      AtMost o (cost p + operands_cost ps)

abbrev pub FirstsBelow : StockModel → Limits → List Operand → ℕ → Option ℕ → Type 0
FirstsBelow stock limits ops n o =
    (i : ℕ) (p : CoverModel) (ps : CoverOperandsModel) → i < n → AreSparing stock limits ops (operand_then i p ps) →
    AtMost o (cost p + operands_cost ps)

-- the covers that begin with the form at k
abbrev pub FormReached : StockModel → Limits → SubgoalModel → ℕ → Option ℕ → Type 0
FormReached stock limits ask k None = Unit {0}
FormReached stock limits ask k (Some n) =
    (ps : CoverOperandsModel) × (cs : CoverCutsModel) × IsSparing stock limits ask (use_form k ps cs)
    × (1 + operands_cost ps + cuts_cost cs ≡ n)

pub record IsLeastForm (stock : StockModel) (limits : Limits) (ask : SubgoalModel) (k : ℕ) (o : Option ℕ) : Type 0 where
  pub reached : FormReached stock limits ask k o
  pub least : (ps : CoverOperandsModel) (cs : CoverCutsModel) → IsSparing stock limits ask (use_form k ps cs) →
      AtMost o (1 + operands_cost ps + cuts_cost cs)

-- the lesser of two costs
abbrev pub lesser : Option ℕ → Option ℕ → Option ℕ
lesser None b = b
lesser (Some m) None = Some m
lesser (Some m) (Some n) = if nat_lt n m then Some n else Some m

-- the sum of two costs
abbrev pub summed : Option ℕ → Option ℕ → Option ℕ
summed None b = None
summed (Some m) None = None
summed (Some m) (Some n) = Some (m + n)

-- the least cost of a form with these parts
pub record IsPartsCost (stock : StockModel) (limits : Limits) (ops : List Operand) (ts : List ExprModel) (o : Option ℕ) : Type 0 where
  pub operands : Option ℕ
  pub cuts : Option ℕ
  pub order : IsLeastOrder stock limits ops operands
  pub cut : IsLeastCut stock ts cuts
  pub sum : o ≡ summed (summed (Some 1) operands) cuts

-- a form with these parts costs no less than what is known
pub record IsDear (stock : StockModel) (limits : Limits) (ops : List Operand) (ts : List ExprModel) (known : Option ℕ) : Type 0 where
  pub operands : Option ℕ
  pub cuts : Option ℕ
  pub floor : IsFloor stock limits ops operands
  pub cut : IsLeastCut stock ts cuts
  pub dear : (n : ℕ) → AtMost (summed (summed (Some 1) operands) cuts) n → AtMost known n

-- the least cost of a form with these parts, or nothing where it isn't less than what is known
abbrev pub IsCostBelow : StockModel → Limits → List Operand → List ExprModel → Option ℕ → Option ℕ → Type 0
IsCostBelow stock limits ops ts known o =
    IsPartsCost stock limits ops ts o ⊎ ((o ≡ None) × IsDear stock limits ops ts known)
