use Rattle.std.proofs.Common.{sym, subst, refl, inl, inr}
use Rattle.std.proofs.lemmas.Bool.{OnTrue_at}
use Rattle.least_costs.specs.Least.{AtMost}
use Rattle.least_costs.specs.Searches.{search_stock, open_operands, open_cuts}
use Rattle.least_costs.proofs.FewLemmas.{opened_low, order_few, parts_held}
use Rattle.cover.proofs.choice.costs_within.Goals as goal

pub returns-then-is_above-clause-costs : goal.returns-then-is_above-clause-costs
returns-then-is_above-clause-costs c = inr (
  refl,
  record {
    operands = c.in_ok-floor.floor;
    cuts = c.in_ok-b.b;
    floor = c.in_ok-floor.ensures.floor;
    cut = c.in_ok-b.ensures.least;
    above = λ h. OnTrue_at c.if-is_above.true c.is_above.ensures (subst (λ o. AtMost o c.args.n) (sym c.form_cost.ensures) h);
  },
)

pub returns-clause-costs : goal.returns-clause-costs
returns-clause-costs c = inl (record { operands = c.in_ok-a.a; cuts = c.in_ok-b.b; order = c.in_ok-a.ensures.least; cut = c.in_ok-b.ensures.least; costs = c.costs_of.ensures })

pub form_cost-requires : goal.form_cost-requires
form_cost-requires c =
    parts_held c.args.search.now (open_operands c.args.operands.now) (open_cuts c.args.cuts.now) c.in_ok-floor.floor c.in_ok-b.b c.requires.right.few c.requires.few c.in_ok-floor.ensures.few c.in_ok-b.ensures.least

pub costs_of-requires : goal.costs_of-requires
costs_of-requires c =
    parts_held c.args.search.now (open_operands c.args.operands.now) (open_cuts c.args.cuts.now) c.in_ok-a.a c.in_ok-b.b c.requires.right.few c.requires.few
    (order_few (search_stock c.args.search.now) c.args.search.now.low c.args.limits (open_operands c.args.operands.now) c.in_ok-a.a (opened_low c.args.operands.now) c.in_ok-a.ensures.least) c.in_ok-b.ensures.least
