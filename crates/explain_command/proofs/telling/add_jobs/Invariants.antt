use Rattle.std.proofs.Common.{drop, map}
use Rattle.job_places.specs.Places.{model_of_job_place}
use Rattle.src_trees.specs.Jobs.{models_of_jobs}
use Rattle.explain_command.specs.Explained.{AreJobTexts}
use Rattle.explain_command.specs.Inner.Telling.{Begins, netlist_of, stock_of}
use Rattle.explain_command.proofs.telling.add_jobs.Given as goal

abbrev pub invariant-loop-number : goal.invariant-loop-number
invariant-loop-number l =
    Begins
    (AreJobTexts (netlist_of l.subject) (stock_of l.subject) l.subject.src.now l.number
    (map model_of_job_place (drop l.number l.places)) (models_of_jobs (drop l.number l.jobs)))
    (AreJobTexts (netlist_of l.subject) (stock_of l.subject) l.subject.src.now 0 (map model_of_job_place l.places) (models_of_jobs l.jobs))
    l.initial.text.items l.text.items
