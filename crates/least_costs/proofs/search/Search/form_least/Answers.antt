use Rattle.std.proofs.Common.{sym, subst}
use Rattle.least_costs.specs.Subgoals.{free}
use Rattle.least_costs.specs.Least.{IsLeastForm}
use Rattle.least_costs.specs.Searches.{search_stock}
use Rattle.least_costs.specs.Fits.{model_of_subgoal}
use Rattle.least_costs.proofs.FitLemmas.{fit_form}
use Rattle.least_costs.proofs.search.Search.form_least.Goals as goal

pub returns-clause-least : goal.returns-clause-least
returns-clause-least c =
    subst (IsLeastForm (search_stock c.args.self.now) (free (search_stock c.args.self.now)) (model_of_subgoal c.args.goal.now) c.args.k) (sym c.cost_if.ensures)
    (fit_form (search_stock c.args.self.now) (free (search_stock c.args.self.now)) (model_of_subgoal c.args.goal.now) c.args.k c.in_ok-fit.fit c.in_ok-fit.ensures.fit)
