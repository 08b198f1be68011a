use Rattle.std.proofs.Common.{subst, sym}
use Rattle.std.proofs.lemmas.Result.{err_from_is_err_and}
use Rattle.src_model.specs.Written.{model_of_program}
use Rattle.right_code.specs.Tasks.{IsChecked, Task, read_task}
use Rattle.code_gen.specs.Refusals.{IsReached}
use Rattle.code_gen.specs.Spelled.{HasSpelling, IsPlain, IsRightByEqualTrees, IsTunedFault}
use Rattle.compile_command.proofs.TaskLemmas.{fault_of_places}
use Rattle.tune_command.specs.Tuned.{IsTunedTaskFault}
use Rattle.tune_command.proofs.FaultLemmas.{fault_of_image}
use Rattle.tune_command.proofs.PlainLemmas.{row_plain}
use Rattle.tune_command.proofs.compiler.image_for.Goals as goal

pub tuned_image_of-requires-clause-checked : goal.tuned_image_of-requires-clause-checked
tuned_image_of-requires-clause-checked c = c.in_ok-lowered.ensures.checked

pub tuned_image_of-requires-clause-plain : goal.tuned_image_of-requires-clause-plain
tuned_image_of-requires-clause-plain c =
    let modes = c.args.modes.now in
    let typed = c.args.typed.now in
    let own = c.in_ok-lowered.ensures.task in
    subst IsPlain (sym own) (row_plain modes.netlist typed.width (model_of_program typed.program) (subst IsChecked own c.in_ok-lowered.ensures.checked))

pub returns-clause-image : goal.returns-clause-image
returns-clause-image c =
    let own = c.in_ok-lowered.ensures.task in
    record {
      room = c.in_ok-lowered.ensures.room;
      reached = subst (HasSpelling IsReached) own c.in_ok-image.ensures.reached;
      right = subst (λ (task : Task). IsRightByEqualTrees task c.in_ok-image.image) own c.in_ok-image.ensures.right;
      fits = c.in_ok-image.ensures.fits;
    }

pub returns-in_err-lowered-clause-refused : goal.returns-in_err-lowered-clause-refused
returns-in_err-lowered-clause-refused c =
    let p = err_from_is_err_and c.from_residual.result c.from_residual.ensures.1 in
    let task = read_task c.args.modes.now c.args.typed.now in
    rw (p.1, p.2) (fault_of_places task (IsTunedTaskFault task) (λ need have full. full) tt _ c.in_err-lowered.ensures.refused)

pub returns-in_err-image-clause-refused : goal.returns-in_err-image-clause-refused
returns-in_err-image-clause-refused c =
    let p = err_from_is_err_and c.from_residual-in_err-image.result c.from_residual-in_err-image.ensures.1 in
    rw (p.1, p.2)
    (fault_of_image (read_task c.args.modes.now c.args.typed.now) c.in_ok-lowered.ensures.room _
    (subst (λ (task : Task). IsTunedFault task c.in_err-image.field-0.0) c.in_ok-lowered.ensures.task c.in_err-image.ensures.refused))
