use Rattle.std.proofs.Common.{◌≡◌, Some, ◌∙◌, ap, map, slice_get, sym}
use Rattle.std.specs.Prelude.{option_copied}
use Rattle.form_model.specs.Trees.{model_of_tree}
use Rattle.std.proofs.lemmas.Result.{on_ok_weaker}
use Rattle.segment.proofs.Putting.{test_gathered}
use Rattle.segment.proofs.run.Segment.test_elements.Goals as goal

pub returns : goal.returns
returns c =
    let seg = c.args.self.now in
    let there : slice_get seg.jobs.now c.in-Some.number ≡ Some c.in-Some-job_at.job.now = sym c.job_at.ensures ∙ ap option_copied c.in-Some-job_at.is in
    on_ok_weaker c.all_elements.result
    (test_gathered seg c.in-Some.number c.in-Some-job_at.job.now (map model_of_tree c.as_slice.result.now) c.in-Some.is there (ap (map model_of_tree) c.as_slice.ensures.value)
    c.args.table.now c.all_elements.new.table c.args.run.now c.all_elements.new.run) c.all_elements.ensures
