use Rattle.std.proofs.Common.{◌≡◌, ◌+◌, ◌-◌, ◌^◌, ◌<◌, ℕ, List, Some, length, get_or, slice_get, subst, sym, take, arith}
use Rattle.std.specs.List.{AllByRecursion}
use Rattle.std.proofs.lemmas.List.{length-map, length-take-le}
use Rattle.rec_bits.proofs.Lists.{take_get, all_at}
use Rattle.bit_bdd.proofs.CallerLemmas.{extends_trans}
use Rattle.net_model.specs.Nets.{memory_width}
use Rattle.form_model.specs.Covers.{stock_with}
use Rattle.form_model.specs.declared.trees.Job.{Job}
use Rattle.form_model.specs.Forms.{models_of_forms}
use Rattle.src_trees.specs.Jobs.{model_of_job, models_of_jobs}
use Rattle.src_trees.specs.Lowered.{JobModel}
use Rattle.code_gen.specs.Machines.{known_netlist, known_patterns}
use Rattle.code_gen.proofs.Listing.{mapped_get}
use Rattle.self_test.specs.Cells.{test_jobs}
use Rattle.test_code.specs.Codes.{IsCodeOf}
use Rattle.test_code.specs.Inner.Jobs.{IsCellJob}
use Rattle.test_code.proofs.Adding.{code_count, code_more}
use Rattle.test_code.proofs.Plain.{test_plain}
use Rattle.test_code.proofs.code.code_of.Goals as goal

-- the job at an index of a list that was read
job_at : (read jobs : List Job) (index : ℕ) (job : Job) → read ≡ jobs → index < length read → job ≡ get_or read index job → slice_get (models_of_jobs jobs) index ≡ Some (model_of_job job)
job_at read jobs index job e lt is = subst (λ (list : List Job). slice_get (models_of_jobs list) index ≡ Some (model_of_job job)) e (mapped_get model_of_job read index job lt is)

pub add_job-requires-clause-job : goal.add_job-requires-clause-job
add_job-requires-clause-job c =
    let netlist = known_netlist c.args.known.now in
    let patterns = known_patterns c.args.known.now in
    let forms = models_of_forms c.args.forms.now.list.items in
    let tests = c.args.tests.now in
    let jobs = tests.blocks.jobs.items in
    let index = c.loop-job.job-index in
    let job = c.job-item.result in
    let at : slice_get (models_of_jobs jobs) index ≡ Some (model_of_job job) = job_at c.deref-job-items.result.now jobs index job c.deref-job-items.ensures.value c.loop-job-test.true c.job-item.is in
    all_at (IsCellJob (memory_width netlist.storages) tests.temps) (models_of_jobs jobs) index (model_of_job job)
    (subst (AllByRecursion (IsCellJob (memory_width netlist.storages) tests.temps)) (sym c.requires.jobs)
    (subst (λ (temps : ℕ). AllByRecursion (IsCellJob (memory_width netlist.storages) temps) (test_jobs netlist forms patterns)) (sym c.requires.temps) (test_plain netlist forms patterns)))
    at

pub add_job-requires-clause-few : goal.add_job-requires-clause-few
add_job-requires-clause-few c =
    let tests = c.args.tests.now in
    let jobs = models_of_jobs tests.blocks.jobs.items in
    let index = c.loop-job.job-index in
    let code = c.loop-job.code in
    let count = code_count (known_netlist c.args.known.now) (known_patterns c.args.known.now) (stock_with c.args.forms.now.list.items tests.temps c.args.forms.now.file) (take index jobs) code c.loop-job.invariant.code in
    let long = length-map tests.blocks.jobs.items model_of_job in
    let taken = length-take-le index jobs (omega (arith, long, c.loop-job-test.true)) in
    let few : code.tested + code.skipped < 2 ^ 64 - 1 = omega (arith, count, taken, long, tests.blocks.jobs.ok.0, c.loop-job-test.true) in
    few

pub loop-job-preserved : goal.loop-job-preserved
loop-job-preserved c =
    let netlist = known_netlist c.args.known.now in
    let patterns = known_patterns c.args.known.now in
    let tests = c.args.tests.now in
    let stock = stock_with c.args.forms.now.list.items tests.temps c.args.forms.now.file in
    let jobs = tests.blocks.jobs.items in
    let models = models_of_jobs jobs in
    let index = c.loop-job.job-index in
    let job = c.job-item.result in
    let at : slice_get models index ≡ Some (model_of_job job) =
    job_at c.deref-job-items.result.now jobs index job c.deref-job-items.ensures.value c.loop-job-test.true c.job-item.is in
    record {
      grows = extends_trans c.args.book.now c.loop-job.book c.add_job.new.book c.loop-job.invariant.grows c.add_job.ensures.grows;
      ready = c.add_job.ensures.ready;
      code =
          subst (λ (some : List JobModel). IsCodeOf netlist patterns stock some c.add_job.new.code) (sym (take_get models index (model_of_job job) at))
          (code_more netlist patterns stock (take index models) (model_of_job job) c.loop-job.code c.add_job.new.code c.loop-job.invariant.code c.in_ok-add_job.ensures.added);
    }
