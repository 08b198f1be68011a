use Rattle.std.proofs.Common.{◌≡◌, ◌+◌, ◌∷◌, ◌++◌, List, [], drop, map, sym, subst, refl, arith}
use Rattle.std.proofs.lemmas.List.{drop_all}
use Rattle.rec_bits.proofs.Faults.{drop_item}
use Rattle.form_model.specs.declared.trees.Job.{Job}
use Rattle.job_places.specs.Places.{model_of_job_place}
use Rattle.job_places.specs.declared.places.JobPlace.{JobPlace}
use Rattle.src_trees.specs.Jobs.{model_of_job, models_of_jobs}
use Rattle.explain_command.specs.Explained.{AreJobTexts}
use Rattle.explain_command.specs.Inner.Telling.{netlist_of, stock_of}
use Rattle.explain_command.proofs.Growing.{begins_end, begins_none, begins_on, jobs_more}
use Rattle.explain_command.proofs.telling.add_jobs.Goals as goal

pub loop-number-init : goal.loop-number-init
loop-number-init c =
    let s = c.args.subject.now in
    begins_none c.args.text.now.items (AreJobTexts (netlist_of s) (stock_of s) s.src.now 0 (map model_of_job_place c.args.places.now) (models_of_jobs c.args.jobs.now))

pub loop-number-preserved : goal.loop-number-preserved
loop-number-preserved c =
    let s = c.args.subject.now in
    let places = c.args.places.now in
    let jobs = c.args.jobs.now in
    let n = c.loop-number.number in
    let place = c.index-places-number.result in
    let job = c.index-jobs-number.result in
    let at : drop n places ≡ place ∷ drop (n + 1) places = drop_item places n place (omega arith) c.index-places-number.is in
    let is : drop n jobs ≡ job ∷ drop (n + 1) jobs = drop_item jobs n job (omega arith) c.index-jobs-number.is in
    let told = c.in_ok-add_job.ensures in
    begins_on c.args.text.now.items c.loop-number.text.items
    (AreJobTexts (netlist_of s) (stock_of s) s.src.now n (map model_of_job_place (drop n places)) (models_of_jobs (drop n jobs)))
    (AreJobTexts (netlist_of s) (stock_of s) s.src.now 0 (map model_of_job_place places) (models_of_jobs jobs))
    (AreJobTexts (netlist_of s) (stock_of s) s.src.now (n + 1) (map model_of_job_place (drop (n + 1) places)) (models_of_jobs (drop (n + 1) jobs)))
    told.more c.add_job.new.text.items
    (λ later left. subst (λ (ps : List JobPlace). AreJobTexts (netlist_of s) (stock_of s) s.src.now n (map model_of_job_place ps) (models_of_jobs (drop n jobs)) (told.more ++ later)) (sym at)
    (subst (λ (js : List Job). AreJobTexts (netlist_of s) (stock_of s) s.src.now n (map model_of_job_place (place ∷ drop (n + 1) places)) (models_of_jobs js) (told.more ++ later)) (sym is)
    (jobs_more (netlist_of s) (stock_of s) s.src.now n (model_of_job_place place) (map model_of_job_place (drop (n + 1) places)) (model_of_job job) (models_of_jobs (drop (n + 1) jobs)) told.more later told.is left)))
    told.text c.loop-number.invariant

pub returns : goal.returns
returns c =
    let s = c.args.subject.now in
    let places = c.args.places.now in
    let jobs = c.args.jobs.now in
    let n = c.loop-number.number in
    let at : drop n places ≡ [] = drop_all n places (omega arith) in
    let is : drop n jobs ≡ [] = drop_all n jobs (omega arith) in
    begins_end c.args.text.now.items c.loop-number.text.items
    (AreJobTexts (netlist_of s) (stock_of s) s.src.now n (map model_of_job_place (drop n places)) (models_of_jobs (drop n jobs)))
    (AreJobTexts (netlist_of s) (stock_of s) s.src.now 0 (map model_of_job_place places) (models_of_jobs jobs))
    (subst (λ (ps : List JobPlace). AreJobTexts (netlist_of s) (stock_of s) s.src.now n (map model_of_job_place ps) (models_of_jobs (drop n jobs)) []) (sym at)
    (subst (λ (js : List Job). AreJobTexts (netlist_of s) (stock_of s) s.src.now n [] (models_of_jobs js) []) (sym is) refl))
    c.loop-number.invariant
