use Rattle.std.proofs.lemmas.Result.{IfOk-from_err}
use Rattle.transfer_set.proofs.InOrder.{in_order}
use Rattle.transfer_set.proofs.row.sorted_rows.Goals as goal

pub returns-clause-ordered : goal.returns-clause-ordered
returns-clause-ordered c = in_order c.sort.new.self.items (c.in_ok-sort.ensures.sorted)

pub returns-in_err-rows-clause-same : goal.returns-in_err-rows-clause-same
returns-in_err-rows-clause-same c = IfOk-from_err c.from_residual.result _ c.from_residual.ensures.0

pub returns-in_err-rows-clause-shows : goal.returns-in_err-rows-clause-shows
returns-in_err-rows-clause-shows c = IfOk-from_err c.from_residual.result _ c.from_residual.ensures.0

pub returns-in_err-rows-clause-ordered : goal.returns-in_err-rows-clause-ordered
returns-in_err-rows-clause-ordered c = IfOk-from_err c.from_residual.result _ c.from_residual.ensures.0

pub returns-in_err-rows-clause-few : goal.returns-in_err-rows-clause-few
returns-in_err-rows-clause-few c = IfOk-from_err c.from_residual.result _ c.from_residual.ensures.0

pub returns-in_err-sort-clause-same : goal.returns-in_err-sort-clause-same
returns-in_err-sort-clause-same c = IfOk-from_err c.from_residual-in_err-sort.result _ c.from_residual-in_err-sort.ensures.0

pub returns-in_err-sort-clause-shows : goal.returns-in_err-sort-clause-shows
returns-in_err-sort-clause-shows c = IfOk-from_err c.from_residual-in_err-sort.result _ c.from_residual-in_err-sort.ensures.0

pub returns-in_err-sort-clause-ordered : goal.returns-in_err-sort-clause-ordered
returns-in_err-sort-clause-ordered c = IfOk-from_err c.from_residual-in_err-sort.result _ c.from_residual-in_err-sort.ensures.0

pub returns-in_err-sort-clause-few : goal.returns-in_err-sort-clause-few
returns-in_err-sort-clause-few c = IfOk-from_err c.from_residual-in_err-sort.result _ c.from_residual-in_err-sort.ensures.0
