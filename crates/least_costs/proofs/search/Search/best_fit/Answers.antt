use Rattle.std.proofs.Common.{◌≡◌, ◌<◌, ◌^◌, arith, length, subst}
use Rattle.least_costs.specs.declared.fits.Fit.{Fit}
use Rattle.least_costs.specs.Subgoals.{free}
use Rattle.least_costs.specs.Searches.{search_stock, search_nodes, OperandsAt, CutsAt}
use Rattle.least_costs.specs.Fits.{model_of_subgoal, fit_cost, IsBestAmong}
use Rattle.least_costs.proofs.FitLemmas.{best_start, best_more, cheaper_keeps}
use Rattle.least_costs.proofs.search.Search.best_fit.Goals as goal

pub loop-k-init : goal.loop-k-init
loop-k-init c = record { best = best_start _ _ _; at = tt; cuts_at = tt; few = tt; right = c.requires.right }

pub loop-k-preserved : goal.loop-k-preserved
loop-k-preserved c =
    let known = c.loop-k.invariant in
    let fit = c.in_ok-fit.fit in
    rw c.cheaper-best.ensures (record {
      best = best_more (search_stock c.args.self.now) (free (search_stock c.args.self.now)) (model_of_subgoal c.args.goal.now) c.loop-k.k c.loop-k.best fit known.best c.in_ok-fit.ensures.fit;
      at = cheaper_keeps (λ f. OperandsAt (search_nodes c.args.self.now) f.operands.items) c.loop-k.best c.loop-k.k fit known.at c.in_ok-fit.ensures.at;
      cuts_at = cheaper_keeps (λ f. CutsAt (search_nodes c.args.self.now) f.cuts.items) c.loop-k.best c.loop-k.k fit known.cuts_at c.in_ok-fit.ensures.cuts_at;
      few = cheaper_keeps (λ (f : Fit). fit_cost f < 2 ^ 64) c.loop-k.best c.loop-k.k fit known.few c.in_ok-fit.ensures.few;
      right = c.in_ok-fit.ensures.right;
    })

pub returns-clause-best : goal.returns-clause-best
returns-clause-best c =
    let n : c.loop-k.k ≡ length c.args.self.now.forms.now = omega (arith, c.loop-k-test.false, c.loop-k.auto.k-end) in
    subst (λ j. IsBestAmong (search_stock c.args.self.now) (free (search_stock c.args.self.now)) (model_of_subgoal c.args.goal.now) j c.loop-k.best) n c.loop-k.invariant.best
