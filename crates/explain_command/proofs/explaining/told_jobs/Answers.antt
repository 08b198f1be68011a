use Rattle.std.proofs.Common.{◌∙◌, List, ap, arith, length, sym, subst}
use Rattle.std.proofs.lemmas.List.{length-map}
use Rattle.std.proofs.lemmas.Result.{IfOk-weaker}
use Rattle.net_model.specs.declared.hardware.Netlist.{Netlist}
use Rattle.form_model.specs.Covers.{stock_with}
use Rattle.form_model.specs.declared.trees.Job.{Job}
use Rattle.job_places.proofs.Counts.{of_stmts}
use Rattle.job_places.specs.Places.{program_job_places}
use Rattle.src_model.specs.Written.{ProgramModel, stmts_of, model_of_program}
use Rattle.src_trees.specs.Jobs.{model_of_job, models_of_jobs}
use Rattle.src_trees.specs.Lowered.{JobModel}
use Rattle.right_code.specs.Tasks.{read_task, row_memory, task_jobs}
use Rattle.code_gen.proofs.Built.{few_jobs}
use Rattle.explain_command.specs.Explained.{AreJobTexts}
use Rattle.explain_command.proofs.Alone.{first_is}
use Rattle.explain_command.proofs.explaining.told_jobs.Goals as goal

pub job_texts-text-requires-clause-same : goal.job_texts-text-requires-clause-same
job_texts-text-requires-clause-same c =
    let task = read_task c.args.modes.now c.args.typed.now in
    let jobs = ap (λ (js : List Job). length (models_of_jobs js)) c.deref.ensures.value ∙ ap length c.in_ok-blocks.ensures.jobs in
    let long = length-map c.deref.result.now model_of_job in
    let spots = of_stmts (row_memory task.netlist task.width task.program) (stmts_of task.program.body) in
    rw c.program.ensures.value (omega (arith, jobs, long, spots))

pub job_texts-text-requires-clause-few : goal.job_texts-text-requires-clause-few
job_texts-text-requires-clause-few c =
    let task = read_task c.args.modes.now c.args.typed.now in
    let few = few_jobs task c.requires.checked in
    let jobs = ap (λ (js : List Job). length (models_of_jobs js)) c.deref.ensures.value ∙ ap length c.in_ok-blocks.ensures.jobs in
    let long = length-map c.deref.result.now model_of_job in
    omega (arith, few, jobs, long)

pub blocks_of-requires : goal.blocks_of-requires
blocks_of-requires c = record { width = sym c.requires.checked.words; places = c.requires.places; room = c.requires.room.room }

pub returns : goal.returns
returns c =
    let task = read_task c.args.modes.now c.args.typed.now in
    let stock = stock_with c.args.forms.now.list.items c.args.places.now.temps c.args.forms.now.file in
    let same = first_is c.args.modes.now c.requires.alone c.first.result.now.netlist c.first.ensures.base in
    IfOk-weaker c.job_texts-text.result _ _
    (λ text is. subst (λ (n : Netlist). AreJobTexts n stock c.args.src.now 0 (program_job_places task.program) (task_jobs task) text.items) same
    (subst (λ (l : ProgramModel). AreJobTexts c.first.result.now.netlist stock c.args.src.now 0 (program_job_places l) (task_jobs task) text.items) (ap model_of_program c.program.ensures.value)
    (subst (λ (jobs : List JobModel). AreJobTexts c.first.result.now.netlist stock c.args.src.now 0 (program_job_places (model_of_program c.program.result.now)) jobs text.items)
    (ap models_of_jobs c.deref.ensures.value ∙ c.in_ok-blocks.ensures.jobs) is)))
    c.job_texts-text.ensures
