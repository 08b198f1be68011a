use Rattle.std.proofs.lemmas.Result.{IfOk-from_err}
use Rattle.compaction.specs.Machines.{known_operation}
use Rattle.compaction.proofs.Appended.{first_of_two, is_read_by-append, second_of_two}
use Rattle.compaction.proofs.depends.is_read_by_either.Goals as goal

pub returns-then-in_first : goal.returns-then-in_first
returns-then-in_first c =
    let m = known_operation c.args.known.now in
    first_of_two _ _ _ _ (is_read_by-append m (m c.args.step) c.args.first.now c.args.second.now) c.in_ok-in_first.ensures c.if-in_first.true

pub returns-else-in_first : goal.returns-else-in_first
returns-else-in_first c =
    let m = known_operation c.args.known.now in
    second_of_two _ _ _ _ _ (is_read_by-append m (m c.args.step) c.args.first.now c.args.second.now) c.in_ok-in_first.ensures c.if-in_first.false c.in_ok-in_second.ensures

pub returns-in_err-in_first : goal.returns-in_err-in_first
returns-in_err-in_first c = IfOk-from_err c.from_residual.result _ c.from_residual.ensures.0

pub returns-in_err-in_second : goal.returns-in_err-in_second
returns-in_err-in_second c = IfOk-from_err c.from_residual-in_err-in_second.result _ c.from_residual-in_err-in_second.ensures.0
