use Rattle.std.proofs.Common.{◌≡◌, ◌<◌, ◌^◌, ◌∙◌, Some, arith, length, subst, sym}
use Rattle.std.specs.Prelude.{IfSome}
use Rattle.std.proofs.lemmas.List.{length-map}
use Rattle.form_model.specs.Forms.{model_of_form}
use Rattle.form_model.specs.CoverModels.{model_of_cover_operands, model_of_cover_cuts}
use Rattle.form_model.specs.Trees.{model_of_tree}
use Rattle.tree_grammar.specs.Leaves.{model_of_destination}
use Rattle.tree_sharing.proofs.NodeLemmas.{root_stands}
use Rattle.least_costs.specs.Subgoals.{free}
use Rattle.least_costs.specs.Least.{IsLeastOrder, IsLeastCut}
use Rattle.least_costs.specs.Searches.{search_stock, search_nodes, open_operands, open_cuts, OperandsAt, CutsAt}
use Rattle.least_costs.specs.Fits.{fit_cost}
use Rattle.least_costs.proofs.FitLemmas.{best_none, best_some}
use Rattle.cover.specs.Inner.Choice.{IsFirstOrder, IsFirstCuts}
use Rattle.cover.specs.Inner.Best.{root_subgoal}
use Rattle.cover.proofs.BestLemmas.{parts_first}
use Rattle.cover.proofs.jobs.cover_by.Goals as goal

pub best_fit-requires-clause-stands : goal.best_fit-requires-clause-stands
best_fit-requires-clause-stands c = root_stands (model_of_destination c.args.search.now.destination) (model_of_tree c.args.search.now.tree.now)

pub cost_of-cost-requires : goal.cost_of-cost-requires
cost_of-cost-requires c = subst (λ o. IfSome o (λ b. fit_cost b.fit < 2 ^ 64)) c.in-Some.is c.in_ok-best.ensures.few

pub returns-in_default : goal.returns-in_default
returns-in_default c =
    let search = c.args.search.now in
    let stock = search_stock search in
    let n : length search.forms.now ≡ length stock.forms = (let l = length-map search.forms.now model_of_form in omega (arith, l)) in
    best_none stock (free stock) (root_subgoal (model_of_destination search.destination) (model_of_tree search.tree.now)) c.in_ok-best.field-0 (length search.forms.now) c.in_ok-best.ensures.best n c.in_default.is

pub choose_parts-requires-clause-order : goal.choose_parts-requires-clause-order
choose_parts-requires-clause-order c =
    let search = c.args.search.now in
    let stock = search_stock search in
    let n : length search.forms.now ≡ length stock.forms = (let l = length-map search.forms.now model_of_form in omega (arith, l)) in
    let b = best_some stock (free stock) (root_subgoal (model_of_destination search.destination) (model_of_tree search.tree.now)) c.in_ok-best.field-0 c.in-Some.best (length search.forms.now) c.in_ok-best.ensures.best n c.in-Some.is in
    subst (λ l. IsLeastOrder stock (free stock) (open_operands l) (Some c.in-Some.best.fit.operands_cost)) (sym c.deref.ensures.value) b.fits.order

pub choose_parts-requires-clause-cut : goal.choose_parts-requires-clause-cut
choose_parts-requires-clause-cut c =
    let search = c.args.search.now in
    let stock = search_stock search in
    let n : length search.forms.now ≡ length stock.forms = (let l = length-map search.forms.now model_of_form in omega (arith, l)) in
    let b = best_some stock (free stock) (root_subgoal (model_of_destination search.destination) (model_of_tree search.tree.now)) c.in_ok-best.field-0 c.in-Some.best (length search.forms.now) c.in_ok-best.ensures.best n c.in-Some.is in
    subst (λ l. IsLeastCut stock (open_cuts l) (Some c.in-Some.best.fit.cuts_cost)) (sym c.deref-2.ensures.value) b.fits.cut

pub choose_parts-requires-clause-at : goal.choose_parts-requires-clause-at
choose_parts-requires-clause-at c =
    subst (OperandsAt (search_nodes c.args.search.now)) (sym c.deref.ensures.value)
    (subst (λ o. IfSome o (λ b. OperandsAt (search_nodes c.args.search.now) b.fit.operands.items)) c.in-Some.is c.in_ok-best.ensures.at)

pub choose_parts-requires-clause-cuts_at : goal.choose_parts-requires-clause-cuts_at
choose_parts-requires-clause-cuts_at c =
    subst (CutsAt (search_nodes c.args.search.now)) (sym c.deref-2.ensures.value)
    (subst (λ o. IfSome o (λ b. CutsAt (search_nodes c.args.search.now) b.fit.cuts.items)) c.in-Some.is c.in_ok-best.ensures.cuts_at)

pub returns : goal.returns
returns c =
    let search = c.args.search.now in
    let stock = search_stock search in
    let ask = root_subgoal (model_of_destination search.destination) (model_of_tree search.tree.now) in
    let n : length search.forms.now ≡ length stock.forms = (let l = length-map search.forms.now model_of_form in omega (arith, l)) in
    let b = best_some stock (free stock) ask c.in_ok-best.field-0 c.in-Some.best (length search.forms.now) c.in_ok-best.ensures.best n c.in-Some.is in
    let (form, order, cuts) = c.in_ok-cover.ensures.first in
    let (first, cost) = parts_first stock (free stock) ask c.in-Some.best c.in_ok-cover.cover b
    (form, subst (λ l. IsFirstOrder stock (free stock) (open_operands l) (model_of_cover_operands c.in_ok-cover.cover.operands)) c.deref.ensures.value order, subst (λ l. IsFirstCuts stock (open_cuts l) (model_of_cover_cuts c.in_ok-cover.cover.cuts)) c.deref-2.ensures.value cuts) in
    (first, c.cost_of-cost.ensures ∙ cost)
