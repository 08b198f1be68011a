use Rattle.mode_set.specs.Plans.{UsableAt, stock_at}
use Rattle.src_trees.specs.Jobs.{model_of_job}
use Rattle.respell.specs.Inner.Choosing.{IsBest}
use Rattle.respell.proofs.jobs.Speller.cheapest.Given as goal

abbrev pub invariant-loop-mode : goal.invariant-loop-mode
invariant-loop-mode l =
    IsBest (stock_at l.fn.self.forms.now l.fn.self.limits.temps) (UsableAt l.fn.self.usable.now) l.fn.self.limits.cell l.fn.self.limits.temps l.fn.self.limits.nodes l.fn.own.cost (model_of_job l.fn.own.job.now)
    l.best
