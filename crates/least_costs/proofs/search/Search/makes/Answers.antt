use Rattle.std.proofs.Common.{◌≡◌, Some, sym, ap, ◌∙◌, subst, get_or}
use Rattle.std.specs.Option.{option_map}
use Rattle.std.proofs.lemmas.Option.{slice_get-get_or}
use Rattle.form_model.specs.Forms.{model_of_goal, model_of_form}
use Rattle.form_model.specs.Trees.{model_of_tree}
use Rattle.form_model.specs.declared.forms.Form.{Form}
use Rattle.tree_grammar.specs.Leaves.{model_of_destination}
use Rattle.tree_sharing.proofs.NodeLemmas.{nodes_hold}
use Rattle.least_costs.specs.Made.{part_goal}
use Rattle.least_costs.specs.Searches.{search_stock, search_nodes}
use Rattle.least_costs.specs.Subgoals.{free}
use Rattle.least_costs.specs.Least.{IsLeastForm}
use Rattle.least_costs.proofs.MadeLemmas.{goal_holds, makes_none, makes_some, part_subgoal, part_stands}
use Rattle.least_costs.proofs.StartLemmas.{form_at}
use Rattle.least_costs.proofs.search.Search.makes.Goals as goal

pub form_least-requires-clause-stands : goal.form_least-requires-clause-stands
form_least-requires-clause-stands c =
    let search = c.args.self.now in
    let form : Form = get_or search.forms.now c.args.k c.index-self-k.result in
    let d = model_of_destination c.in-Some.destination in
    part_stands (search_nodes search) c.args.at d (model_of_tree c.args.tree.now)
    (goal_holds (model_of_goal form.goal) d (sym c.part_destination.ensures ∙ ap (option_map model_of_destination) c.in-Some.is))
    (nodes_hold (model_of_destination search.destination) (model_of_tree search.tree.now) c.args.at (model_of_tree c.args.tree.now) c.requires.number)

pub returns-in-Some-2-clause-makes : goal.returns-in-Some-2-clause-makes
returns-in-Some-2-clause-makes c =
    let search = c.args.self.now in
    let stock = search_stock search in
    let t = model_of_tree c.args.tree.now in
    let form : Form = get_or search.forms.now c.args.k c.index-self-k.result in
    let d = model_of_destination c.in-Some.destination in
    let there : part_goal (model_of_goal form.goal) ≡ Some d = sym c.part_destination.ensures ∙ ap (option_map model_of_destination) c.in-Some.is in
    makes_some stock t c.args.k (model_of_form form) (form_at search c.args.k form (slice_get-get_or _ _ _ c.requires.form)) d c.in-Some-2.field-0 there
    (subst (IsLeastForm stock (free stock) (part_subgoal d t) c.args.k) c.in-Some-2.is c.in_ok-form_least.ensures.least)

pub returns-in-None-clause-makes : goal.returns-in-None-clause-makes
returns-in-None-clause-makes c =
    let search = c.args.self.now in
    let stock = search_stock search in
    let t = model_of_tree c.args.tree.now in
    let form : Form = get_or search.forms.now c.args.k c.index-self-k.result in
    let d = model_of_destination c.in-Some.destination in
    let there : part_goal (model_of_goal form.goal) ≡ Some d = sym c.part_destination.ensures ∙ ap (option_map model_of_destination) c.in-Some.is in
    makes_none stock t c.args.k (model_of_form form) (form_at search c.args.k form (slice_get-get_or _ _ _ c.requires.form)) d there
    (subst (IsLeastForm stock (free stock) (part_subgoal d t) c.args.k) c.in-None.is c.in_ok-form_least.ensures.least)
