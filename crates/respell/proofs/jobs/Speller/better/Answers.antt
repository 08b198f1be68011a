use Rattle.std.proofs.Common.{ℕ, ◌≡◌, ◌<◌, Option, Some, None, subst, arith}
use Rattle.std.specs.Prelude.{IfSome}
use Rattle.form_model.specs.Covers.{StockModel}
use Rattle.mode_set.specs.Plans.{UsableAt, stock_at}
use Rattle.src_trees.specs.Jobs.{model_of_job}
use Rattle.src_trees.specs.Lowered.{JobModel}
use Rattle.src_trees.specs.Measures.{IsSmall}
use Rattle.tree_laws.specs.Classes.{cell_bits}
use Rattle.respell.specs.Respelled.{IsRespelled}
use Rattle.respell.specs.Inner.Choosing.{IsCheaper, IsLess}
use Rattle.respell.specs.declared.jobs.Spelled.{Spelled}
use Rattle.respell.proofs.jobs.Speller.better.Goals as goal

-- what is less than a lesser cost is less, too
less_below : (cost other : ℕ) (known : Option ℕ) → cost < other → IsLess other known → IsLess cost known
less_below cost other None below less = tt
less_below cost other (Some n) below less = omega (arith, below, less)

pub returns-in-Some-2 : goal.returns-in-Some-2
returns-in-Some-2 c =
    let own = c.args.own in
    let limits = c.args.self.now.limits in
    let other = c.in-Some.other in
    let bits = cell_bits c.args.picks.now.graph.table.now in
    let respelled : IsRespelled bits other.turned (model_of_job own.job.now) (model_of_job other.job) =
    subst (λ o. IfSome o (λ (s : Spelled). IsRespelled bits s.turned (model_of_job own.job.now) (model_of_job s.job)))
    c.in-Some.is c.in_ok-other.ensures.respelled in
    let small : IsSmall limits.cell limits.temps limits.nodes (model_of_job other.job) =
    subst (λ o. IfSome o (λ (s : Spelled). IsSmall limits.cell limits.temps limits.nodes (model_of_job s.job)))
    c.in-Some.is c.in_ok-other.ensures.small in
    let cheaper : IsCheaper (stock_at c.args.self.now.forms.now limits.temps) (UsableAt c.args.self.now.usable.now) c.args.known (model_of_job other.job) c.in-Some-2.cost =
    subst (λ o. IfSome o (IsCheaper (stock_at c.args.self.now.forms.now limits.temps) (UsableAt c.args.self.now.usable.now) c.args.known (model_of_job other.job)))
    c.in-Some-2.is c.in_ok-cost.ensures in
    let less : IsLess c.in-Some-2.cost own.cost = c.requires.known c.in-Some-2.cost cheaper.less in
    record {
      found = record {
        respelled = subst (λ n. IsRespelled n other.turned (model_of_job own.job.now) (model_of_job other.job)) c.requires.cell respelled;
        small = small;
        cost = c.in-Some-2.cost;
        cheaper = record { costs = cheaper.costs; less = less };
      };
      least = λ cost below. less_below cost c.in-Some-2.cost own.cost below less;
    }
