use Rattle.std.proofs.Common.{subst}
use Rattle.std.proofs.lemmas.Result.{err_from_is_err_and}
use Rattle.right_code.specs.Images.{IsRightImage}
use Rattle.right_code.specs.Tasks.{Task, read_task}
use Rattle.code_gen.specs.Refusals.{IsCodeFault, IsReached}
use Rattle.compile_command.specs.Code.{IsTaskFault}
use Rattle.compile_command.proofs.TaskLemmas.{fault_of_image, fault_of_places}
use Rattle.compile_command.proofs.compiler.image_for.Goals as goal

pub image_of-requires-clause-checked : goal.image_of-requires-clause-checked
image_of-requires-clause-checked c = c.in_ok-lowered.ensures.checked

pub returns-clause-image : goal.returns-clause-image
returns-clause-image c =
    let own = c.in_ok-lowered.ensures.task in
    record {
      room = c.in_ok-lowered.ensures.room;
      reached = subst IsReached own c.in_ok-image.ensures.reached;
      right = subst (λ (task : Task). IsRightImage task c.in_ok-image.image) own c.in_ok-image.ensures.right;
      fits = c.in_ok-image.ensures.fits;
    }

pub returns-in_err-lowered-clause-refused : goal.returns-in_err-lowered-clause-refused
returns-in_err-lowered-clause-refused c =
    let p = err_from_is_err_and c.from_residual.result c.from_residual.ensures.1 in
    let task = read_task c.args.modes.now c.args.typed.now in
    rw (p.1, p.2) (fault_of_places task (IsTaskFault task) (λ need have full. full) tt _ c.in_err-lowered.ensures.refused)

pub returns-in_err-image-clause-refused : goal.returns-in_err-image-clause-refused
returns-in_err-image-clause-refused c =
    let p = err_from_is_err_and c.from_residual-in_err-image.result c.from_residual-in_err-image.ensures.1 in
    rw (p.1, p.2)
    (fault_of_image (read_task c.args.modes.now c.args.typed.now) c.in_ok-lowered.ensures.room _
    (subst (λ (task : Task). IsCodeFault task c.in_err-image.field-0.0) c.in_ok-lowered.ensures.task c.in_err-image.ensures.refused))
