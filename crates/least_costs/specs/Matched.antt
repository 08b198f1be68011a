-- The forms that match a tree.
use Rattle.std.specs.Prelude.{ℕ, ◌<◌, ◌≤◌, ◌≡◌, true, Bool, List, [], ◌∷◌, ◌++◌, Option, Some, None, IfSome, slice_get, length, if◌then◌else◌, ◌==◌}
use Rattle.net_model.specs.Exprs.{ExprModel, size_of}
use Rattle.form_model.specs.Trees.{model_of_tree}
use Rattle.form_model.specs.Forms.{FormModel}
use Rattle.form_model.specs.Matches.{LeafModel, operand, cut, MatchModel}
use Rattle.form_model.specs.Covers.{StockModel, operands_of, cuts_of, cells_of_goal}
use Rattle.tree_grammar.specs.declared.parts.Leaf.{Leaf}
use Rattle.tree_grammar.specs.declared.parts.Leaf.TheVariants
use Rattle.tree_grammar.specs.Leaves.{model_of_home, models_of_leaves, AreAt}
use Rattle.least_costs.specs.declared.limits.Limits.{Limits}
use Rattle.least_costs.specs.declared.search.Search.{Search}
use Rattle.least_costs.specs.declared.slots.Slot.{Slot}
use Rattle.least_costs.specs.declared.slots.Slot.TheVariants.{Temporary}
use Rattle.least_costs.specs.declared.rows.Offer.{Offer}
use Rattle.least_costs.specs.declared.matches.FormMatch.{FormMatch}
use Rattle.least_costs.specs.declared.matches.Matches.{Matches}
use Rattle.least_costs.specs.Subgoals.{takes, rest}
use Rattle.least_costs.specs.Slots.{IsEntry, IsLowHome, IsSlot, goal_slot, home_slot}
use Rattle.least_costs.specs.Rows.{Row, row_subgoal, IsOffer}
use Rattle.least_costs.specs.Searches.{search_stock, search_nodes, open_operands, open_cuts, EachOperandAt, EachCutAt, OperandsAt, CutsAt}

-- the form at k takes the tree for an entry of its row
pub record Takes (stock : StockModel) (t : ExprModel) (whole : Bool) (k : ℕ) : Type 0 where
  pub entry : Slot
  pub slot : IsSlot whole entry
  pub form : FormModel
  pub found : MatchModel
  pub listed : slice_get stock.forms k ≡ Some form
  pub takes_it : takes stock form (row_subgoal t whole entry) ≡ Some found

-- what a match says of its form and of what that takes
pub record IsFormMatch (search : Search) (t : ExprModel) (whole : Bool) (m : FormMatch) : Type 0 where
  pub form : FormModel
  pub found : MatchModel
  pub listed : slice_get (search_stock search).forms m.form ≡ Some form
  pub clobbers : form.clobbers ≡ m.clobbers
  pub cells : cells_of_goal form.goal ≡ m.cells
  pub goes : goal_slot form.goal whole ≡ Some m.goal
  pub slot : IsSlot whole m.goal
  pub takes_it : takes (search_stock search) form (row_subgoal t whole m.goal) ≡ Some found
  pub start : m.start ≡ rest (size_of t) true found.leaves
  pub register : IfSome m.start IsEntry
  pub operands : open_operands m.operands.items ≡ operands_of found.leaves
  pub cuts : open_cuts m.cuts.items ≡ cuts_of found.leaves
  pub operands_at : OperandsAt (search_nodes search) m.operands.items
  pub cuts_at : CutsAt (search_nodes search) m.cuts.items

-- a set of registers has a bit for that of each operand whose home is one
abbrev pub AreLowLeaves : List LeafModel → Type 0
AreLowLeaves [] = Unit {0}
AreLowLeaves (operand home tree whole ∷ leaves) = IsLowHome home × AreLowLeaves leaves
AreLowLeaves (cut shape tree ∷ leaves) = AreLowLeaves leaves

-- the entry of the tree of this number from which a match with these parts goes on, as `rest` has it
abbrev pub rest_at : ℕ → List Leaf → Option Slot
rest_at number (TheVariants.Operand home tree whole at ∷ []) = if at == number then Some (home_slot (model_of_home home)) else None
rest_at number (TheVariants.Cut shape tree at ∷ []) = if at == number then Some Temporary else None
rest_at number _ = None

-- a match of a form that leaves these parts open
pub record IsOpened (parts : List Leaf) (number k : ℕ) (entry : Slot) (clobbered written : ℕ)
    (m : FormMatch) : Type 0 where
  pub form : m.form ≡ k
  pub goal : m.goal ≡ entry
  pub clobbers : m.clobbers ≡ clobbered
  pub cells : m.cells ≡ written
  pub start : m.start ≡ rest_at number parts
  pub register : IfSome m.start IsEntry
  pub operands : open_operands m.operands.items ≡ operands_of (models_of_leaves parts)
  pub cuts : open_cuts m.cuts.items ≡ cuts_of (models_of_leaves parts)
  pub operands_at : (nodes : List ExprModel) → AreAt nodes parts → EachOperandAt nodes m.operands.items
  pub cuts_at : (nodes : List ExprModel) → AreAt nodes parts → EachCutAt nodes m.cuts.items

-- whether the form at k matches
abbrev pub MatchesForm : Search → ExprModel → Bool → ℕ → Option FormMatch → Type 0
MatchesForm search t whole k None = Takes (search_stock search) t whole k → ⊥
MatchesForm search t whole k (Some m) = IsFormMatch search t whole m × (m.form ≡ k)

abbrev pub with_match : List FormMatch → Option FormMatch → List FormMatch
with_match list None = list
with_match list (Some m) = list ++ (m ∷ [])

-- the list has the match of the form at k behind it, where there is one
abbrev pub AddsMatch : Search → ExprModel → Bool → ℕ → List FormMatch → List FormMatch → Type 0
AddsMatch search t whole k old new =
    (o : Option FormMatch) × MatchesForm search t whole k o × (new ≡ with_match old o)

-- the matches of the first n forms, in their order
pub record AreFirstMatches (search : Search) (t : ExprModel) (whole : Bool) (n : ℕ)
    (list : List FormMatch) : Type 0 where
  pub few : size_of t ≤ length (search_nodes search)
  pub each : (i : ℕ) (m : FormMatch) → slice_get list i ≡ Some m → IsFormMatch search t whole m
  pub below : (i : ℕ) (m : FormMatch) → slice_get list i ≡ Some m → m.form < n
  pub all : (k : ℕ) → k < n → Takes (search_stock search) t whole k →
      (i : ℕ) × (m : FormMatch) × (slice_get list i ≡ Some m) × (m.form ≡ k)
  pub ordered : (i j : ℕ) (m l : FormMatch) → i < j → slice_get list i ≡ Some m →
      slice_get list j ≡ Some l → m.form < l.form

-- the matches of all forms
abbrev pub AreMatches : Search → Matches → Type 0
AreMatches search ms =
    AreFirstMatches search (model_of_tree ms.tree.now) ms.whole (length search.forms.now) ms.list.items

-- what the match at i gives for a row
abbrev pub IsOfferAt : StockModel → Limits → Matches → Row → ℕ → Offer → Type 0
IsOfferAt stock limits ms row i offer =
    (m : FormMatch) → slice_get ms.list.items i ≡ Some m →
    IsOffer stock limits (model_of_tree ms.tree.now) ms.whole row m.form offer
