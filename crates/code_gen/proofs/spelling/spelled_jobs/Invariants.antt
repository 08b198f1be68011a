use Rattle.std.proofs.Common.{◌≡◌, length}
use Rattle.mode_set.specs.Plans.{UsableAt, stock_at}
use Rattle.respell.specs.Kept.{AreSpelled}
use Rattle.src_trees.specs.Jobs.{models_of_jobs}
use Rattle.code_gen.specs.Inner.Spelling.{turns_of}
use Rattle.code_gen.proofs.spelling.spelled_jobs.Given as goal

-- the jobs up to here stay or are spelled anew, and each has its mark
abbrev pub invariant-loop-job : goal.invariant-loop-job
invariant-loop-job l =
    AreSpelled (stock_at l.speller.forms.now l.speller.limits.temps) (UsableAt l.speller.usable.now) l.speller.limits.cell l.speller.limits.temps l.speller.limits.nodes
    (turns_of l.list.turned.items) (models_of_jobs l.yielded) (models_of_jobs l.list.jobs.items)
    × (length l.list.turned.items ≡ length l.yielded)
