use Rattle.std.proofs.Common.{◌∙◌, ℕ, ap, arith, sym, subst}
use Rattle.std.proofs.lemmas.Result.{IfErr-weaker, IfOk-from_err, IfOk-weaker, err_from_is_err_and}
use Rattle.right_code.specs.Tasks.{read_task}
use Rattle.src_front.proofs.Lengths.{few_variables}
use Rattle.src_front.proofs.SourceNames.{source_names}
use Rattle.src_front.specs.Fronts.{IsSrcFile}
use Rattle.src_model.specs.Written.{model_of_program}
use Rattle.net_model.specs.Nets.{memory_width}
use Rattle.code_gen.proofs.Memories.{first_storages}
use Rattle.compile_command.proofs.TaskLemmas.{fault_of_code, fault_of_program, holds_of_read, read_refused}
use Rattle.explain_command.specs.Explained.{IsExplainedTask}
use Rattle.explain_command.proofs.Alone.{taken_file, taken_modes}
use Rattle.explain_command.proofs.Early.{of_program, of_task}
use Rattle.explain_command.proofs.explaining.explain_on.Goals as goal

pub task_text-text-requires-clause-few : goal.task_text-text-requires-clause-few
task_text-text-requires-clause-few c =
    let k = few_variables c.args.src.now (model_of_program c.in_ok-typed.typed.program) c.in_ok-typed.ensures.found.says.text in
    omega (arith, k, c.requires.src)

pub task_text-text-requires-clause-named : goal.task_text-text-requires-clause-named
task_text-text-requires-clause-named c = source_names c.args.src.now (model_of_program c.in_ok-typed.typed.program) c.in_ok-typed.ensures.found.says.text

pub task_text-text-requires-clause-width : goal.task_text-text-requires-clause-width
task_text-text-requires-clause-width c =
    c.in_ok-typed.ensures.width ∙ c.memory_width.ensures.width
    ∙ ap memory_width (first_storages c.args.modes.now.netlist c.first.result.now.netlist c.first.ensures.base)

pub returns-clause-explained : goal.returns-clause-explained
returns-clause-explained c = λ net read.
    let modes = c.args.modes.now in
    let typed = c.in_ok-typed.typed in
    let src = c.args.src.now in
    let wide = c.in_ok-typed.ensures.width ∙ c.memory_width.ensures.width
    ∙ ap memory_width (first_storages modes.netlist c.first.result.now.netlist c.first.ensures.base) in
    let file = subst (λ (n : ℕ). IsSrcFile src n (model_of_program typed.program)) (sym c.in_ok-typed.ensures.width) c.in_ok-typed.ensures.found in
    IfOk-weaker c.task_text-text.result _ _ (λ text is. (taken_file net modes read, holds_of_read net src modes typed (taken_modes net modes read) wide file (IsExplainedTask src text.items) is)) c.task_text-text.ensures.explained

pub returns-clause-refused : goal.returns-clause-refused
returns-clause-refused c = λ net read.
    let modes = c.args.modes.now in
    let typed = c.in_ok-typed.typed in
    let src = c.args.src.now in
    let wide = c.in_ok-typed.ensures.width ∙ c.memory_width.ensures.width
    ∙ ap memory_width (first_storages modes.netlist c.first.result.now.netlist c.first.ensures.base) in
    let file = subst (λ (n : ℕ). IsSrcFile src n (model_of_program typed.program)) (sym c.in_ok-typed.ensures.width) c.in_ok-typed.ensures.found in
    IfErr-weaker c.task_text-text.result _ _
    (λ fault h. of_task net src (taken_file net modes read) (read_task modes typed) fault (fault_of_code net src modes typed (taken_modes net modes read) wide file fault) h) c.task_text-text.ensures.refused

pub returns-in_err-typed-clause-refused : goal.returns-in_err-typed-clause-refused
returns-in_err-typed-clause-refused c = λ net read.
    let p = err_from_is_err_and c.from_residual.result c.from_residual.ensures.1 in
    let refused = c.in_err-typed.ensures.refused in
    let modes = c.args.modes.now in
    let wide = c.memory_width.ensures.width ∙ ap memory_width (first_storages modes.netlist c.first.result.now.netlist c.first.ensures.base) in
    rw (p.1, p.2)
    (of_program net c.args.src.now (taken_file net modes read) _ _ refused
    (read_refused net c.args.src.now _ (fault_of_program net c.args.src.now modes _ (taken_modes net modes read) wide _ refused)))

pub returns-in_err-typed-clause-explained : goal.returns-in_err-typed-clause-explained
returns-in_err-typed-clause-explained c = λ net read. IfOk-from_err c.from_residual.result _ c.from_residual.ensures.0
