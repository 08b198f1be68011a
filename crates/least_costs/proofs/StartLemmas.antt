-- What is known of a form that was matched with a tree.
use Rattle.std.proofs.Common.{◌≡◌, ℕ, List, Option, Some, Bool, sym, ap, ◌∙◌, subst}
use Rattle.std.specs.Prelude.{slice_get, IfSome}
use Rattle.std.specs.Option.{option_map}
use Rattle.std.proofs.lemmas.Option.{slice_get-map}
use Rattle.net_model.specs.Exprs.{ExprModel}
use Rattle.form_model.specs.Forms.{model_of_form, model_of_goal, DestinationModel}
use Rattle.form_model.specs.Matches.{taken}
use Rattle.form_model.specs.declared.forms.Form.{Form}
use Rattle.tree_grammar.specs.declared.parts.Match.{Match}
use Rattle.tree_grammar.specs.Numbers.{HoldsSubtrees}
use Rattle.tree_grammar.specs.Leaves.{model_of_match, models_of_leaves, AreAt, Stands}
use Rattle.least_costs.specs.declared.slots.Slot.{Slot}
use Rattle.least_costs.specs.declared.search.Search.{Search}
use Rattle.least_costs.specs.Subgoals.{takes}
use Rattle.least_costs.specs.Slots.{IsSlot, entry_destination, goal_slot}
use Rattle.least_costs.specs.Rows.{row_subgoal}
use Rattle.least_costs.specs.Searches.{search_stock}
use Rattle.least_costs.specs.Matched.{AreLowLeaves}
use Rattle.least_costs.proofs.LowLemmas.{taken_low}
use Rattle.least_costs.proofs.SizeLemmas.{Small}
use Rattle.least_costs.proofs.OfferLemmas.{row_small}
use Rattle.least_costs.proofs.NodeLemmas.{slot_stands}

pub record Start (search : Search) (form : Form) (k : ℕ) (goal : Slot) (t : ExprModel) (whole : Bool) (m : Match) : Type 0 where
  pub listed : slice_get (search_stock search).forms k ≡ Some (model_of_form form)
  pub goes : goal_slot (model_of_form form).goal whole ≡ Some goal
  pub slot : IsSlot whole goal
  pub takes_it : takes (search_stock search) (model_of_form form) (row_subgoal t whole goal) ≡ Some (model_of_match m)
  pub small : Small whole t (models_of_leaves m.parts.items)

pub form_at : (search : Search) (k : ℕ) (form : Form) → slice_get search.forms.now k ≡ Some form → slice_get (search_stock search).forms k ≡ Some (model_of_form form)
form_at search k form h = slice_get-map model_of_form search.forms.now k ∙ ap (option_map model_of_form) h

pub start_of : (search : Search) (form : Form) (k : ℕ) (goal : Slot) (t : ExprModel) (whole : Bool) (destination : DestinationModel) (g : Option Slot) (o : Option Match) (m : Match) → slice_get search.forms.now k ≡ Some form → (g ≡ goal_slot (model_of_goal form.goal) whole) × IfSome g (λ r. IsSlot whole r) → g ≡ Some goal → option_map model_of_match o ≡ taken search.temps (model_of_form form) destination t whole → o ≡ Some m → destination ≡ entry_destination goal → Start search form k goal t whole m
start_of search form k goal t whole destination g o m got goes is found some at =
    let slot : IsSlot whole goal = subst (λ x. IfSome x (λ r. IsSlot whole r)) is goes.1 in
    let t' : takes (search_stock search) (model_of_form form) (row_subgoal t whole goal) ≡ Some (model_of_match m) =
    sym (ap (λ p. taken search.temps (model_of_form form) p t whole) at) ∙ sym found ∙ ap (option_map model_of_match) some in
    record {
      listed = form_at search k form got;
      goes = sym goes.0 ∙ is;
      slot = slot;
      takes_it = t';
      small = (row_small (search_stock search) (model_of_form form) t whole goal (model_of_match m) slot t').1;
    }

-- the operands of a match go to registers that a set of registers has a bit for
pub start_low : (search : Search) (form : Form) (k : ℕ) (goal : Slot) (t : ExprModel) (whole : Bool) (m : Match) → Start search form k goal t whole m → AreLowLeaves (models_of_leaves m.parts.items)
start_low search form k goal t whole m s = taken_low search.temps (model_of_form form) (entry_destination goal) t whole (model_of_match m) s.takes_it (search.low k (model_of_form form) s.listed)

-- the numbers of a match's parts are right wherever the tree's subtrees stand
pub start_at : (number : ℕ) (goal : Slot) (t : ExprModel) (destination : DestinationModel) (o : Option Match) (m : Match) → IfSome o (λ x. (nodes : List ExprModel) → Stands nodes number destination t → AreAt nodes x.parts.items) → o ≡ Some m → destination ≡ entry_destination goal → (nodes : List ExprModel) → HoldsSubtrees nodes number t → AreAt nodes m.parts.items
start_at number goal t destination o m at some is nodes holds =
    let f : (nodes : List ExprModel) → Stands nodes number destination t → AreAt nodes m.parts.items = subst (λ y. IfSome y (λ x. (nodes : List ExprModel) → Stands nodes number destination t → AreAt nodes x.parts.items)) some at in
    f nodes (subst (λ p. Stands nodes number p t) (sym is) (slot_stands nodes number goal t holds))
