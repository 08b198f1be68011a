use Rattle.form_model.specs.Forms.{aim_destination}
use Rattle.cover.specs.Jobs.{trees_of}
use Rattle.form_model.specs.Covers.{stock_with}
use Rattle.cover.specs.Inner.Best.{IsBest}
use Rattle.cover.proofs.jobs.best_of.Given as goal

abbrev pub invariant-loop-j : goal.invariant-loop-j
invariant-loop-j l = IsBest (stock_with l.forms l.temps l.file) (aim_destination l.job.aim) (trees_of l.job.trees.items) l.j l.best
