use Rattle.std.proofs.Common.{sym, ap, ◌∙◌}
use Rattle.std.specs.Int.Bits.{or_zero_r}
use Rattle.tree_grammar.specs.Leaves.{model_of_home}
use Rattle.least_costs.specs.Subgoals.{after}
use Rattle.least_costs.proofs.limits.after_home.Goals as goal

pub returns-in-File : goal.returns-in-File
returns-in-File c =
    (λ i. record { avoid = sym (or_zero_r c.args.limits.avoid) i; allowed = c.saturating_sub.ensures i })
    ∙ ap (λ h. after c.args.limits (model_of_home h)) (sym c.in-File.is)
