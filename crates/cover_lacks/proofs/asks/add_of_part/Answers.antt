use Rattle.std.proofs.Common.{◌≡◌, Some, false, refl, sym, ap, ◌∙◌, get_or}
use Rattle.std.specs.Option.{option_map}
use Rattle.std.proofs.lemmas.List.{append-nil}
use Rattle.std.proofs.lemmas.Result.{on_ok_weaker}
use Rattle.form_model.specs.Forms.{model_of_goal, model_of_form}
use Rattle.form_model.specs.Trees.{model_of_tree}
use Rattle.form_model.specs.declared.forms.Form.{Form}
use Rattle.tree_grammar.specs.Leaves.{model_of_destination}
use Rattle.tree_sharing.proofs.NodeLemmas.{nodes_hold}
use Rattle.least_costs.specs.Made.{part_goal}
use Rattle.least_costs.proofs.MadeLemmas.{goal_holds, part_stands}
use Rattle.cover_lacks.specs.declared.asks.Look.{Look}
use Rattle.cover_lacks.specs.Inner.Asked.{search_nodes, search_stock}
use Rattle.cover_lacks.proofs.AskLemmas.{of_part_none, of_part_some, form_at}
use Rattle.cover_lacks.proofs.asks.add_of_part.Goals as goal

pub returns-in_default : goal.returns-in_default
returns-in_default c =
    let search = c.args.search.now in
    let form : Form = get_or search.forms.now c.args.k c.index-search-k.result in
    of_part_none (search_stock search) (search_nodes search) c.args.k (model_of_form form) (form_at search.forms.now c.args.k c.index-search-k.result c.requires.form) (model_of_tree c.args.part.now) c.args.at
    c.args.numbers.now.items (sym (append-nil c.args.numbers.now.items)) (sym c.part_destination.ensures ∙ ap (option_map model_of_destination) c.in_default.is)

pub add_asked-requires-clause-stands : goal.add_asked-requires-clause-stands
add_asked-requires-clause-stands c =
    let search = c.args.search.now in
    let form : Form = get_or search.forms.now c.args.k c.index-search-k.result in
    part_stands (search_nodes search) c.args.at (model_of_destination c.in-Some.destination) (model_of_tree c.args.part.now)
    (goal_holds (model_of_goal form.goal) (model_of_destination c.in-Some.destination) (sym c.part_destination.ensures ∙ ap (option_map model_of_destination) c.in-Some.is))
    (nodes_hold (model_of_destination search.destination) (model_of_tree search.tree.now) c.args.at (model_of_tree c.args.part.now) c.requires.here)

pub returns : goal.returns
returns c =
    let search = c.args.search.now in
    let form : Form = get_or search.forms.now c.args.k c.index-search-k.result in
    let there : part_goal (model_of_goal form.goal) ≡ Some (model_of_destination c.in-Some.destination) = sym c.part_destination.ensures ∙ ap (option_map model_of_destination) c.in-Some.is in
    let look : Look = record { goal = record { destination = c.in-Some.destination; tree = c.args.part; whole = false; at = c.args.at }; below = Some c.in_ok-tree_size.field-0 } in
    on_ok_weaker c.add_asked.result (λ e. of_part_some (search_stock search) (search_nodes search) c.args.k (model_of_form form) (form_at search.forms.now c.args.k c.index-search-k.result c.requires.form) look c.args.numbers.now.items c.add_asked.new.numbers.items
    (goal_holds (model_of_goal form.goal) (model_of_destination c.in-Some.destination) there, ap Some c.in_ok-tree_size.ensures) refl there e) c.add_asked.ensures
