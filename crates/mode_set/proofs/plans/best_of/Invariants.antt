use Rattle.form_model.specs.Forms.{aim_destination}
use Rattle.cover.specs.Jobs.{trees_of}
use Rattle.mode_set.specs.Inner.Best.{IsBestBelow}
use Rattle.mode_set.specs.Plans.{UsableAt, stock_at}
use Rattle.mode_set.proofs.plans.best_of.Given as goal

abbrev pub invariant-loop-mode : goal.invariant-loop-mode
invariant-loop-mode l = IsBestBelow (stock_at l.forms l.temps) (UsableAt l.usable) (aim_destination l.job.aim) (trees_of l.job.trees.items) l.mode l.best
