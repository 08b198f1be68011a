-- Rows of least costs of one tree: for each register, and behind them for the file and for a
-- temporary cell.
use Rattle.std.specs.Prelude.{ℕ, ◌+◌, ◌*◌, ◌<◌, ◌≤◌, ◌≡◌, ◌⊎◌, ◌^◌, Bool, true, false, List, [], ◌∷◌, ◌++◌, Option, Some, None, length, slice_get, slice_set, slice_index_or}
use Rattle.std.specs.List.{sum_by}
use Rattle.net_model.specs.Exprs.{ExprModel, size_of}
use Rattle.form_model.specs.CoverModels.{CoverModel, use_form, CoverOperandsModel, CoverCutsModel, cost}
use Rattle.form_model.specs.Covers.{StockModel}
use Rattle.least_costs.specs.declared.limits.Limits.{Limits}
use Rattle.least_costs.specs.declared.slots.Slot.{Slot}
use Rattle.least_costs.specs.declared.rows.ChainRule.{ChainRule}
use Rattle.least_costs.specs.declared.rows.Offer.{Offer}
use Rattle.least_costs.specs.declared.matches.FormMatch.{FormMatch}
use Rattle.least_costs.specs.declared.rows.Offer.TheVariants.{Nothing, Chains, Reaches}
use Rattle.least_costs.specs.Subgoals.{SubgoalModel, IsSparing}
use Rattle.least_costs.specs.Least.{AtMost, NoMore, IsLeastWithin, IsLeast}
use Rattle.least_costs.specs.Slots.{place, IsEntry, IsSlot, entry_destination}

abbrev pub Row : Type 0
Row = List (Option ℕ)

abbrev pub entry : Row → Slot → Option ℕ
entry row s = slice_index_or row (place s) None

-- no entry has a cost yet
abbrev pub IsBlank : Row → Type 0
IsBlank row = (s : Slot) → entry row s ≡ None

-- what is asked for an entry of the row of a tree
abbrev pub row_subgoal : ExprModel → Bool → Slot → SubgoalModel
row_subgoal tree whole s = record { destination = entry_destination s; tree = tree; whole = whole }

-- a cost is less than what is known
abbrev pub IsBelow : ℕ → Option ℕ → Type 0
IsBelow n None = Unit {0}
IsBelow n (Some m) = n < m

-- each entry is that of some cover
abbrev pub Sound : StockModel → Limits → ExprModel → Bool → Row → Type 0
Sound stock limits tree whole row = (r : Slot) → IsSlot whole r → IsLeastWithin stock limits (row_subgoal tree whole r) (entry row r)

-- each entry is the least
abbrev pub IsLeastRow : StockModel → Limits → ExprModel → Bool → Row → Type 0
IsLeastRow stock limits tree whole row =
    (r : Slot) → IsSlot whole r → IsLeast stock limits (row_subgoal tree whole r) (entry row r)

-- ---- chain rules: forms that go on from another entry of the same row

-- a cover for the one entry gives one for the other, which costs 1 more
pub record IsLift (stock : StockModel) (limits : Limits) (tree : ExprModel) (whole : Bool) (m : ChainRule) : Type 0 where
  pub start : IsSlot whole m.start
  pub goal : IsSlot whole m.goal
  pub lift : (p : CoverModel) → IsSparing stock limits (row_subgoal tree whole m.start) p →
      (q : CoverModel) × IsSparing stock limits (row_subgoal tree whole m.goal) q × (cost q ≡ cost p + 1)

abbrev pub AreLifts : StockModel → Limits → ExprModel → Bool → List ChainRule → Type 0
AreLifts stock limits tree whole chains =
    (i : ℕ) (m : ChainRule) → slice_get chains i ≡ Some m → IsLift stock limits tree whole m

-- the chain rules stay inside the row
abbrev pub AreWithin : List ChainRule → Type 0
AreWithin chains = (i : ℕ) (m : ChainRule) → slice_get chains i ≡ Some m → IsEntry m.start × IsEntry m.goal

-- a cover of an entry is no cheaper than the entry, or begins with a chain rule and goes on with a
-- cover of its start
abbrev pub IsMet : StockModel → Limits → ExprModel → Bool → List ChainRule → Row → Slot → ℕ → Type 0
IsMet stock limits tree whole chains row r n =
    AtMost (entry row r) n
    ⊎ ((i : ℕ) × (m : ChainRule) × (slice_get chains i ≡ Some m) × (m.goal ≡ r) × (q : CoverModel)
    × IsSparing stock limits (row_subgoal tree whole m.start) q × (cost q + 1 ≤ n))

-- what is known of a tree after the first n matches were tried
pub record IsTried (stock : StockModel) (limits : Limits) (tree : ExprModel) (whole : Bool) (list : List FormMatch)
    (n : ℕ) (chains : List ChainRule) (row : Row) : Type 0 where
  pub sound : Sound stock limits tree whole row
  pub lifts : AreLifts stock limits tree whole chains
  pub met : (i : ℕ) (m : FormMatch) (ps : CoverOperandsModel) (cs : CoverCutsModel) (r : Slot) → i < n →
      slice_get list i ≡ Some m → IsSlot whole r →
      IsSparing stock limits (row_subgoal tree whole r) (use_form m.form ps cs) →
      IsMet stock limits tree whole chains row r (cost (use_form m.form ps cs))

-- what the form at k gives for a row: no cover that is cheaper than what is known, a chain rule, or
-- a cost of its entry
abbrev pub IsOffer : StockModel → Limits → ExprModel → Bool → Row → ℕ → Offer → Type 0
IsOffer stock limits tree whole row k Nothing =
    (ps : CoverOperandsModel) (cs : CoverCutsModel) (r : Slot) → IsSlot whole r →
    IsSparing stock limits (row_subgoal tree whole r) (use_form k ps cs) →
    AtMost (entry row r) (cost (use_form k ps cs))
IsOffer stock limits tree whole row k (Chains m) =
    IsLift stock limits tree whole m
    × ((ps : CoverOperandsModel) (cs : CoverCutsModel) (r : Slot) → IsSlot whole r →
    IsSparing stock limits (row_subgoal tree whole r) (use_form k ps cs) →
    (m.goal ≡ r) × (q : CoverModel) × IsSparing stock limits (row_subgoal tree whole m.start) q
    × (cost q + 1 ≤ cost (use_form k ps cs)))
IsOffer stock limits tree whole row k (Reaches slot n) =
    IsSlot whole slot × IsLeastWithin stock limits (row_subgoal tree whole slot) (Some n)
    × ((ps : CoverOperandsModel) (cs : CoverCutsModel) (r : Slot) → IsSlot whole r →
    IsSparing stock limits (row_subgoal tree whole r) (use_form k ps cs) →
    (slot ≡ r) × (n ≤ cost (use_form k ps cs)))

-- what an entry weighs
abbrev pub weight : Option ℕ → ℕ
weight None = 2 ^ 64
weight (Some n) = n

abbrev pub weight_of : Row → ℕ
weight_of row = sum_by weight row

-- 1 for an entry that has no cost
abbrev pub unfilled : Option ℕ → ℕ
unfilled None = 1
unfilled (Some n) = 0

-- how many entries have no cost
abbrev pub unfilled_in : Row → ℕ
unfilled_in row = sum_by unfilled row

-- each cost, with 1 more for each entry that has none, is at most this. Chain rules keep it so: they
-- make an entry less, or give a cost that is 1 more than another's to one that has none
abbrev pub IsRoomy : ℕ → Row → Type 0
IsRoomy most row = (s : Slot) (c : ℕ) → entry row s ≡ Some c → c + unfilled_in row ≤ most

-- no entry costs more than n
abbrev pub NoneAbove : ℕ → Row → Type 0
NoneAbove n row = (s : Slot) → NoMore (entry row s) n

-- no entry has become more than it was
abbrev pub Lower : Row → Row → Type 0
Lower old new = (r : Slot) (n : ℕ) → AtMost (entry old r) n → AtMost (entry new r) n

-- what trying one chain rule does to a row
abbrev pub Chained : ChainRule → Bool → Row → Row → Type 0
Chained m true old new =
    (c : ℕ) × (entry old m.start ≡ Some c) × (c + 1 < 2 ^ 64) × IsBelow (c + 1) (entry old m.goal)
    × (new ≡ slice_set old (place m.goal) (Some (c + 1)))
Chained m false old new = (new ≡ old) × ((c : ℕ) → entry old m.start ≡ Some c → AtMost (entry old m.goal) (c + 1))

-- none of the first n chain rules makes an entry less
abbrev pub ChainsBelow : List ChainRule → ℕ → Row → Type 0
ChainsBelow chains n row =
    (i : ℕ) (m : ChainRule) (c : ℕ) → i < n → slice_get chains i ≡ Some m →
    entry row m.start ≡ Some c → AtMost (entry row m.goal) (c + 1)

-- some entry has become less, or none has and none can
abbrev pub Changed : List ChainRule → ℕ → Bool → Row → Row → Type 0
Changed chains n true old new = weight_of new < weight_of old
Changed chains n false old new = (new ≡ old) × ChainsBelow chains n new

-- entries that are those of covers stay so
abbrev pub Keeps : List ChainRule → Row → Row → Type 0
Keeps chains old new =
    (stock : StockModel) (limits : Limits) (tree : ExprModel) (whole : Bool) →
    AreLifts stock limits tree whole chains → Sound stock limits tree whole old →
    Sound stock limits tree whole new

-- a row after the first n chain rules were tried
pub record Swept (chains : List ChainRule) (n : ℕ) (changed : Bool) (old new : Row) : Type 0 where
  pub sound : Keeps chains old new
  pub lower : Lower old new
  pub change : Changed chains n changed old new

-- a row on which no chain rule has anything to do any more
pub record IsClosed (chains : List ChainRule) (old new : Row) : Type 0 where
  pub sound : Keeps chains old new
  pub lower : Lower old new
  pub still : ChainsBelow chains (length chains) new

-- a row after a cost was entered where it is less
pub record Entered (old new : Row) (d : Slot) (n : ℕ) : Type 0 where
  pub lower : Lower old new
  pub at : AtMost (entry new d) n
  pub others : (q : Slot) → (entry new q ≡ entry old q) ⊎ ((place q ≡ place d) × (entry new q ≡ Some n))

-- what an offer adds to the chain rules and to a row
abbrev pub Noted : Offer → List ChainRule → List ChainRule → Row → Row → Type 0
Noted Nothing chains chains' old new = (chains' ≡ chains) × (new ≡ old)
Noted (Chains m) chains chains' old new = (chains' ≡ chains ++ (m ∷ [])) × (new ≡ old)
Noted (Reaches slot n) chains chains' old new = (chains' ≡ chains) × Entered old new slot n

-- an offer that has a cost enters it in the row
abbrev pub IsWithin : Offer → Type 0
IsWithin Nothing = Unit {0}
IsWithin (Chains m) = Unit {0}
IsWithin (Reaches slot n) = IsEntry slot

-- what a form offers for a tree of n subtrees costs at most 36 n - 17
abbrev pub IsCheapOffer : ExprModel → Offer → Type 0
IsCheapOffer tree Nothing = Unit {0}
IsCheapOffer tree (Chains m) = Unit {0}
IsCheapOffer tree (Reaches slot n) = n + 17 ≤ 36 * size_of tree

abbrev pub offer_is : Slot → Option ℕ → Offer
offer_is goal None = Nothing
offer_is goal (Some n) = Reaches goal n
