use Rattle.std.proofs.Common.{ℕ, ◌≡◌, ◌∙◌, ap, map, subst, sym}
use Rattle.std.proofs.lemmas.Result.{IfOk-weaker}
use Rattle.std.specs.Prelude.{IfOk}
use Rattle.src_model.specs.Written.{model_of_program}
use Rattle.form_model.specs.declared.flow.Blocks.{Blocks}
use Rattle.src_trees.specs.Held.{HoldsVars}
use Rattle.src_trees.specs.Jobs.{models_of_jobs}
use Rattle.dual_bank.specs.Banked.{job_of_banked, jobs_of_banked, joined_memory}
use Rattle.dual_command.proofs.compiler.jobs.Goals as goal

pub lower-requires-clause-held : goal.lower-requires-clause-held
lower-requires-clause-held c =
    let typed = c.args.typed.now in
    let places = c.args.places.now in
    subst (λ (k : ℕ). HoldsVars places.temps (model_of_program typed.program).vars (joined_memory typed.width k places.list)) (sym c.sizes_of-addr_width.ensures.addr_width) c.requires.held

pub returns-clause-jobs : goal.returns-clause-jobs
returns-clause-jobs c =
    let typed = c.args.typed.now in
    let places = c.args.places.now in
    subst (λ (k : ℕ). IfOk c.banked.result (λ (made : Blocks). models_of_jobs made.jobs.items ≡ jobs_of_banked k (joined_memory typed.width k places.list) (model_of_program typed.program))) c.sizes_of-addr_width.ensures.addr_width
    (IfOk-weaker c.banked.result _ _ (λ made is. is ∙ ap (map (job_of_banked c.sizes_of-addr_width.result.addr_width)) c.in_ok-blocks.ensures.jobs) c.banked.ensures.jobs)
