use Rattle.std.proofs.Common.{◌≡◌, Some, get_or, refl, subst, sym}
use Rattle.std.specs.Prelude.{slice_get}
use Rattle.std.proofs.lemmas.Bool.{OnFalse_at}
use Rattle.std.proofs.lemmas.Option.{slice_get-get_or}
use Rattle.form_model.specs.Trees.{model_of_tree}
use Rattle.form_model.specs.declared.forms.Form.{Form}
use Rattle.form_model.specs.Forms.{model_of_form, model_of_goal}
use Rattle.form_model.specs.Covers.{cells_of_goal}
use Rattle.tree_grammar.specs.Leaves.{model_of_destination, models_of_leaves}
use Rattle.least_costs.specs.Matched.{AreLowLeaves}
use Rattle.least_costs.proofs.StartLemmas.{form_at, start_of, start_at, start_low}
use Rattle.least_costs.proofs.MatchLemmas.{form_match, never_goal, never_match, never_value}
use Rattle.least_costs.proofs.search.Search.match_form.Goals as goal

pub returns : goal.returns
returns c =
    let form : Form = get_or c.args.self.now.forms.now c.args.k c.index-self-k.result in
    let got : slice_get c.args.self.now.forms.now c.args.k ≡ Some form = slice_get-get_or _ _ _ c.requires.form in
    let s = start_of c.args.self.now form c.args.k c.in-Some.goal (model_of_tree c.args.subtree.tree.now) c.args.subtree.whole (model_of_destination c.destination_of_entry.result) c.goal_of.result c.in_ok-found.field-0 c.in-Some-2.found got (c.goal_of.ensures.is, c.goal_of.ensures.slot) c.in-Some.is c.in_ok-found.ensures.found c.in-Some-2.is c.destination_of_entry.ensures in
    let at = start_at c.args.subtree.at c.in-Some.goal (model_of_tree c.args.subtree.tree.now) (model_of_destination c.destination_of_entry.result) c.in_ok-found.field-0 c.in-Some-2.found c.in_ok-found.ensures.at c.in-Some-2.is c.destination_of_entry.ensures in (
      form_match c.args.self.now form c.args.k c.in-Some.goal (model_of_tree c.args.subtree.tree.now) c.args.subtree.whole c.args.subtree.at c.in-Some-2.found c.deref.result.now c.in_ok-opened.opened c.requires.number s at c.deref.ensures.value (cells_of_goal (model_of_goal form.goal)) refl c.in_ok-opened.ensures,
      c.in_ok-opened.ensures.form,
    )

pub open_match-requires : goal.open_match-requires
open_match-requires c =
    let form : Form = get_or c.args.self.now.forms.now c.args.k c.index-self-k.result in
    let got : slice_get c.args.self.now.forms.now c.args.k ≡ Some form = slice_get-get_or _ _ _ c.requires.form in
    let s = start_of c.args.self.now form c.args.k c.in-Some.goal (model_of_tree c.args.subtree.tree.now) c.args.subtree.whole (model_of_destination c.destination_of_entry.result) c.goal_of.result c.in_ok-found.field-0 c.in-Some-2.found got (c.goal_of.ensures.is, c.goal_of.ensures.slot) c.in-Some.is c.in_ok-found.ensures.found c.in-Some-2.is c.destination_of_entry.ensures in
    let low = start_low c.args.self.now form c.args.k c.in-Some.goal (model_of_tree c.args.subtree.tree.now) c.args.subtree.whole c.in-Some-2.found s in
    record { low = subst (λ l. AreLowLeaves (models_of_leaves l)) (sym c.deref.ensures.value) low }

pub goal_of-requires : goal.goal_of-requires
goal_of-requires c =
    let form : Form = get_or c.args.self.now.forms.now c.args.k c.index-self-k.result in
    (c.args.self.now.low c.args.k (model_of_form form) (form_at c.args.self.now c.args.k form (slice_get-get_or _ _ _ c.requires.form))).0

pub returns-in_default : goal.returns-in_default
returns-in_default c =
    let form : Form = get_or c.args.self.now.forms.now c.args.k c.index-self-k.result in
    let got : slice_get c.args.self.now.forms.now c.args.k ≡ Some form = slice_get-get_or _ _ _ c.requires.form in
    never_goal c.args.self.now form c.args.k (model_of_tree c.args.subtree.tree.now) c.args.subtree.whole c.goal_of.result got c.goal_of.ensures.is c.in_default.is

pub returns-in_default-2 : goal.returns-in_default-2
returns-in_default-2 c =
    let form : Form = get_or c.args.self.now.forms.now c.args.k c.index-self-k.result in
    let got : slice_get c.args.self.now.forms.now c.args.k ≡ Some form = slice_get-get_or _ _ _ c.requires.form in
    never_match c.args.self.now form c.args.k c.in-Some.goal (model_of_tree c.args.subtree.tree.now) c.args.subtree.whole (model_of_destination c.destination_of_entry.result) c.goal_of.result c.in_ok-found.field-0 got c.goal_of.ensures.is c.in-Some.is c.destination_of_entry.ensures c.in_ok-found.ensures.found c.in_default-2.is

pub returns-then-not-may_take : goal.returns-then-not-may_take
returns-then-not-may_take c =
    let form : Form = get_or c.args.self.now.forms.now c.args.k c.index-self-k.result in
    let got : slice_get c.args.self.now.forms.now c.args.k ≡ Some form = slice_get-get_or _ _ _ c.requires.form in
    never_value c.args.self.now form c.args.k (model_of_tree c.args.subtree.tree.now) c.args.subtree.whole got (OnFalse_at c.if-not-may_take.true c.may_take.ensures)
