use Rattle.std.proofs.Common.{◌≡◌, ◌<◌, ◌^◌, Some, arith, length, subst, sym}
use Rattle.std.specs.Prelude.{IfSome}
use Rattle.std.proofs.lemmas.List.{length-map}
use Rattle.form_model.specs.Forms.{model_of_form}
use Rattle.least_costs.specs.Subgoals.{free}
use Rattle.least_costs.specs.Least.{IsLeast}
use Rattle.least_costs.specs.Searches.{search_stock}
use Rattle.least_costs.specs.Fits.{model_of_subgoal, fit_cost}
use Rattle.least_costs.proofs.FitLemmas.{best_least, best_none, best_some}
use Rattle.least_costs.proofs.search.Search.least_of.Goals as goal

pub cost_of-requires : goal.cost_of-requires
cost_of-requires c = subst (λ o. IfSome o (λ b. fit_cost b.fit < 2 ^ 64)) c.in-Some.is c.in_ok-best.ensures.few

pub returns-in-Some-clause-least : goal.returns-in-Some-clause-least
returns-in-Some-clause-least c =
    let stock = search_stock c.args.self.now in
    let ask = model_of_subgoal c.args.goal.now in
    let n : length c.args.self.now.forms.now ≡ length stock.forms = (let l = length-map c.args.self.now.forms.now model_of_form in omega (arith, l)) in
    subst (λ m. IsLeast stock (free stock) ask (Some m)) (sym c.cost_of.ensures)
    (best_least stock (free stock) ask c.in-Some.best (best_some stock (free stock) ask c.in_ok-best.field-0 c.in-Some.best (length c.args.self.now.forms.now) c.in_ok-best.ensures.best n c.in-Some.is))

pub returns-in-None-clause-least : goal.returns-in-None-clause-least
returns-in-None-clause-least c =
    let stock = search_stock c.args.self.now in
    let n : length c.args.self.now.forms.now ≡ length stock.forms = (let l = length-map c.args.self.now.forms.now model_of_form in omega (arith, l)) in
    record { reached = tt; least = best_none stock (free stock) (model_of_subgoal c.args.goal.now) c.in_ok-best.field-0 (length c.args.self.now.forms.now) c.in_ok-best.ensures.best n c.in-None.is }
