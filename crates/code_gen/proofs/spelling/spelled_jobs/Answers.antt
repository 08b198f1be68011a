use Rattle.std.proofs.Common.{◌≡◌, ◌++◌, [], ◌∷◌, ◌∙◌, Bool, List, ap, arith, length, subst, sym}
use Rattle.std.proofs.lemmas.List.{length-append, length-map, map-append}
use Rattle.form_model.specs.declared.trees.Job.{Job}
use Rattle.mode_set.specs.Plans.{UsableAt, stock_at}
use Rattle.respell.specs.Kept.{AreSpelled}
use Rattle.src_trees.specs.Jobs.{model_of_job, models_of_jobs}
use Rattle.src_trees.specs.Lowered.{JobModel}
use Rattle.code_gen.specs.Inner.Spelling.{turns_of}
use Rattle.code_gen.proofs.Spellings.{spelled_more}
use Rattle.code_gen.proofs.spelling.spelled_jobs.Goals as goal

pub loop-job-preserved : goal.loop-job-preserved
loop-job-preserved c =
    let speller = c.args.speller.now in
    let limits = speller.limits in
    let stock = stock_at speller.forms.now limits.temps in
    let Usable = UsableAt speller.usable.now in
    let marks = c.loop-job.list.turned.items in
    let old = c.loop-job.yielded in
    let new = c.loop-job.list.jobs.items in
    let job = c.in-Some.job in
    let next = c.in_ok-next.next in
    let before = c.loop-job.invariant in
    let long = length-map old model_of_job in
    let more = spelled_more stock Usable limits.cell limits.temps limits.nodes marks next.turned (models_of_jobs old) (models_of_jobs new) (model_of_job job) (model_of_job next.job) (before.1 ∙ sym long) before.0 c.in_ok-next.ensures in
    let jobs = ap models_of_jobs c.in_ok-push.ensures.items ∙ map-append model_of_job new (next.job ∷ []) in (
      subst (λ (list : List Bool). AreSpelled stock Usable limits.cell limits.temps limits.nodes (turns_of list) (models_of_jobs (old ++ job ∷ [])) (models_of_jobs c.push.new.self.items)) (sym c.in_ok-push-2.ensures.items)
          (subst (λ (list : List JobModel). AreSpelled stock Usable limits.cell limits.temps limits.nodes (turns_of (marks ++ next.turned ∷ [])) (models_of_jobs (old ++ job ∷ [])) list) (sym jobs)
          (subst (λ (list : List JobModel). AreSpelled stock Usable limits.cell limits.temps limits.nodes (turns_of (marks ++ next.turned ∷ [])) list (models_of_jobs new ++ model_of_job next.job ∷ [])) (sym (map-append model_of_job old (job ∷ []))) more)),
      ap (λ (list : List Bool). length list) c.in_ok-push-2.ensures.items ∙ (let e = before.1 in omega (arith, e, length-append marks (next.turned ∷ []), length-append old (job ∷ []))),
    )
