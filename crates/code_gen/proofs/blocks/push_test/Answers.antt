use Rattle.std.proofs.lemmas.Result.{IfOk-from_err}
use Rattle.std.proofs.Common.{◌≡◌, ◌∙◌, ◌+◌, ◌++◌, [], ◌∷◌, Some, ap, arith, slice_get, sym, subst}
use Rattle.std.specs.Prelude.{slice_index_or}
use Rattle.std.proofs.lemmas.List.{length-map}
use Rattle.std.proofs.lemmas.Option.{slice_get_within}
use Rattle.rec_bits.proofs.Options.{same_Some}
use Rattle.cover.specs.Best.{model_of_job_cover}
use Rattle.form_model.specs.declared.trees.Job.{Job}
use Rattle.mode_set.specs.declared.plans.Plan.{Plan}
use Rattle.mode_set.specs.Costs.{PlanModel}
use Rattle.mode_set.specs.Plans.{model_of_plan}
use Rattle.src_trees.specs.Jobs.{model_of_job}
use Rattle.src_trees.specs.Lowered.{JobModel}
use Rattle.code_gen.specs.Inner.Coded.{IsBlockCode}
use Rattle.code_gen.specs.Inner.Planning.{plans_in, jobs_in}
use Rattle.code_gen.specs.Inner.Views.{IsTestJob}
use Rattle.code_gen.proofs.Coding.{test_more}
use Rattle.code_gen.proofs.Frames.{plan_of_job, test_job, test_mode}
use Rattle.code_gen.proofs.Listing.{mapped_get}
use Rattle.code_gen.proofs.blocks.push_test.Goals as goal

pub bounds-program-tree : goal.bounds-program-tree
bounds-program-tree c =
    let program = c.args.program.now in
    let q = c.requires.planned in
    let p = c.requires.place in
    let t = test_job c.args.program.now.modes program q.task q.isas q.planning c.args.at c.args.tree p.when_one p.when_zero p.place in
    let l = slice_get_within (jobs_in program) c.args.tree t.job t.at in
    let n = length-map program.jobs.now model_of_job in
    omega (arith, l, n)

pub bounds-program-tree-2 : goal.bounds-program-tree-2
bounds-program-tree-2 c =
    let program = c.args.program.now in
    let q = c.requires.planned in
    let p = c.requires.place in
    let t = test_job c.args.program.now.modes program q.task q.isas q.planning c.args.at c.args.tree p.when_one p.when_zero p.place in
    let d = plan_of_job c.args.program.now.modes program q.task q.isas q.planning c.args.tree t.job t.at in
    let l = slice_get_within (plans_in program) c.args.tree d.0 d.1 in
    let n = length-map program.plans.now model_of_plan in
    omega (arith, l, n)

pub test_block-requires-clause-job : goal.test_block-requires-clause-job
test_block-requires-clause-job c =
    let modes = c.args.program.now.modes in
    let program = c.args.program.now in
    let q = c.requires.planned in
    let p = c.requires.place in
    let t = test_job modes program q.task q.isas q.planning c.args.at c.args.tree p.when_one p.when_zero p.place in
    let d = plan_of_job modes program q.task q.isas q.planning c.args.tree t.job t.at in
    let few = slice_get_within (jobs_in program) c.args.tree t.job t.at in
    let as_many = slice_get_within (plans_in program) c.args.tree d.0 d.1 in
    let jobs = length-map program.jobs.now model_of_job in
    let plans = length-map program.plans.now model_of_plan in
    let job : model_of_job c.index-program-tree.result ≡ t.job =
    same_Some (model_of_job c.index-program-tree.result) t.job
    (sym (mapped_get model_of_job program.jobs.now c.args.tree c.index-program-tree.result (omega (arith, few, jobs)) c.index-program-tree.is) ∙ t.at) in
    let cover : model_of_plan c.index-program-tree-2.result ≡ d.0 =
    same_Some (model_of_plan c.index-program-tree-2.result) d.0
    (sym (mapped_get model_of_plan program.plans.now c.args.tree c.index-program-tree-2.result (omega (arith, as_many, plans)) c.index-program-tree-2.is) ∙ d.1) in
    let mode = test_mode modes program q.task q.isas q.planning c.args.tree t.job d.0 t.at d.1 t.destination in
    let own = ap model_of_job (sym c.index-program-tree.is) ∙ job in
    let planned = ap model_of_plan (sym c.index-program-tree-2.is) ∙ cover in
    subst (λ (w : JobModel). IsTestJob program w (record { mode = 0; choice = model_of_job_cover (slice_index_or program.plans.now c.args.tree c.index-program-tree-2.result).cover })) (sym own)
    (subst (λ (x : PlanModel). IsTestJob program t.job (record { mode = 0; choice = x.choice })) (sym planned)
    (record { tree = c.args.tree; jobs = t.at; plans = d.1 ∙ (λ j. Some (record { mode = mode j; choice = d.0.choice })); test = t.destination }))

pub returns-clause-code : goal.returns-clause-code
returns-clause-code c = λ task isas q.
    (let modes = c.args.program.now.modes in
    let program = c.args.program.now in
    let flow = program.flow.now in
    let code = c.args.code.now in
    let p = c.requires.place in
    let t = test_job modes program task isas q c.args.at c.args.tree p.when_one p.when_zero p.place in
    let d = plan_of_job modes program task isas q c.args.tree t.job t.at in
    let few = slice_get_within (jobs_in program) c.args.tree t.job t.at in
    let as_many = slice_get_within (plans_in program) c.args.tree d.0 d.1 in
    let jobs = length-map program.jobs.now model_of_job in
    let plans = length-map program.plans.now model_of_plan in
    let job = slice_index_or program.jobs.now c.args.tree c.index-program-tree.result in
    let plan = slice_index_or program.plans.now c.args.tree c.index-program-tree-2.result in
    let model : slice_get (jobs_in program) c.args.tree ≡ Some (model_of_job job) =
    mapped_get model_of_job program.jobs.now c.args.tree c.index-program-tree.result (omega (arith, few, jobs)) c.index-program-tree.is
    ∙ ap (λ (x : Job). Some (model_of_job x)) c.index-program-tree.is in
    let has : slice_get (plans_in program) c.args.tree ≡ Some (model_of_plan plan) =
    mapped_get model_of_plan program.plans.now c.args.tree c.index-program-tree-2.result (omega (arith, as_many, plans)) c.index-program-tree-2.is
    ∙ ap (λ (x : Plan). Some (model_of_plan x)) c.index-program-tree-2.is in
    let own : model_of_job job ≡ t.job = same_Some (model_of_job job) t.job (sym model ∙ t.at) in
    let mode : plan.mode ≡ 0 = test_mode modes program task isas q c.args.tree (model_of_job job) (model_of_plan plan) model has (ap (λ (w : JobModel). w.destination) own ∙ t.destination) in
    let zero : slice_get (plans_in program) c.args.tree ≡ Some (record { mode = 0; choice = model_of_job_cover plan.cover }) = has ∙ (λ j. Some (record { mode = mode j; choice = model_of_job_cover plan.cover })) in
    let more =
    test_more task isas flow (jobs_in program) (plans_in program) c.args.at c.args.tree p.when_one p.when_zero
    code.blocks.items code.branches.items c.in_ok-block.block c.in_ok-block.branch (c.requires.code task isas q) p.place (model_of_job job) (record { mode = 0; choice = model_of_job_cover plan.cover }) model zero
    (c.in_ok-block.ensures.code task isas q) in
    subst (λ blocks. IsBlockCode task isas flow (jobs_in program) (plans_in program) (c.args.at + 1) blocks c.push-2.new.self.items)
    (sym c.in_ok-push.ensures.items)
    (subst (λ branches. IsBlockCode task isas flow (jobs_in program) (plans_in program) (c.args.at + 1) (code.blocks.items ++ c.in_ok-block.block ∷ []) branches)
    (sym c.in_ok-push-2.ensures.items) more))

pub returns-in_err-block-clause-code : goal.returns-in_err-block-clause-code
returns-in_err-block-clause-code c = IfOk-from_err c.from_residual.result _ c.from_residual.ensures.0

pub returns-in_err-block-clause-once : goal.returns-in_err-block-clause-once
returns-in_err-block-clause-once c = IfOk-from_err c.from_residual.result _ c.from_residual.ensures.0

pub returns-in_err-push-2-clause-code : goal.returns-in_err-push-2-clause-code
returns-in_err-push-2-clause-code c = IfOk-from_err c.from_residual-in_err-push-2.result _ c.from_residual-in_err-push-2.ensures.0

pub returns-in_err-push-2-clause-once : goal.returns-in_err-push-2-clause-once
returns-in_err-push-2-clause-once c = IfOk-from_err c.from_residual-in_err-push-2.result _ c.from_residual-in_err-push-2.ensures.0

pub returns-in_err-push-clause-code : goal.returns-in_err-push-clause-code
returns-in_err-push-clause-code c = IfOk-from_err c.from_residual-in_err-push.result _ c.from_residual-in_err-push.ensures.0

pub returns-in_err-push-clause-once : goal.returns-in_err-push-clause-once
returns-in_err-push-clause-once c = IfOk-from_err c.from_residual-in_err-push.result _ c.from_residual-in_err-push.ensures.0
