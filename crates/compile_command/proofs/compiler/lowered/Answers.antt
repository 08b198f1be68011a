use Rattle.std.proofs.Common.{◌≡◌, ap, refl, subst, sym}
use Rattle.std.proofs.lemmas.Result.{err_from_is_err_and}
use Rattle.src_model.specs.Written.{model_of_program}
use Rattle.code_model.specs.declared.image.Places.{Places}
use Rattle.right_code.specs.Tasks.{IsChecked, read_task}
use Rattle.right_code.proofs.Rows.{task_checked}
use Rattle.code_gen.specs.Tasks.{coded_task}
use Rattle.compile_command.proofs.TaskLemmas.{same_parts}
use Rattle.compile_command.proofs.compiler.lowered.Goals as goal

pub places-requires-clause-few : goal.places-requires-clause-few
places-requires-clause-few c = c.requires.few

pub places-requires-clause-named : goal.places-requires-clause-named
places-requires-clause-named c = c.requires.named

pub blocks_of-requires : goal.blocks_of-requires
blocks_of-requires c = record { width = c.requires.width; places = c.in_ok-places.ensures.places; room = c.in_ok-places.ensures.room.room }

pub returns-clause-task : goal.returns-clause-task
returns-clause-task c =
    let modes = c.args.modes.now in
    let typed = c.args.typed.now in
    same_parts (coded_task modes.netlist typed c.in_ok-places.places.list c.in_ok-blocks.blocks) (read_task modes typed) refl refl refl (ap (λ (p : Places). p.list) c.in_ok-places.ensures.places) c.in_ok-blocks.ensures.flow c.in_ok-blocks.ensures.jobs

pub returns-clause-checked : goal.returns-clause-checked
returns-clause-checked c =
    let modes = c.args.modes.now in
    let typed = c.args.typed.now in
    let own : read_task modes typed ≡ coded_task modes.netlist typed c.in_ok-places.places.list c.in_ok-blocks.blocks = sym (returns-clause-task c) in
    subst IsChecked own
    (task_checked modes.netlist typed.width (model_of_program typed.program) c.requires.rules c.requires.program (sym c.requires.width) c.in_ok-places.ensures.room.room)

pub returns-in_err-places-clause-refused : goal.returns-in_err-places-clause-refused
returns-in_err-places-clause-refused c =
    let p = err_from_is_err_and c.from_residual.result c.from_residual.ensures.1 in
    rw (p.1, p.2) c.in_err-places.ensures.refused
