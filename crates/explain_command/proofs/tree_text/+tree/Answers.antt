use Rattle.std.proofs.lemmas.Result.{IfOk-from_err}
use Rattle.explain_command.proofs.tree_text.+tree.Goals as goal

pub add_first-returns-in_err-add_bytes : goal.add_first-returns-in_err-add_bytes
add_first-returns-in_err-add_bytes t c = IfOk-from_err c.from_residual.result _ c.from_residual.ensures.0

pub add_first-returns-in_err-add_bytes-2 : goal.add_first-returns-in_err-add_bytes-2
add_first-returns-in_err-add_bytes-2 t c = IfOk-from_err c.from_residual-in_err-add_bytes-2.result _ c.from_residual-in_err-add_bytes-2.ensures.0

pub add_next-returns-in_err-add_bytes : goal.add_next-returns-in_err-add_bytes
add_next-returns-in_err-add_bytes t c = IfOk-from_err c.from_residual.result _ c.from_residual.ensures.0

pub add_read-returns-in_err-add_memory : goal.add_read-returns-in_err-add_memory
add_read-returns-in_err-add_memory t c = IfOk-from_err c.from_residual.result _ c.from_residual.ensures.0

pub add_read-returns-in_err-add_next : goal.add_read-returns-in_err-add_next
add_read-returns-in_err-add_next t c = IfOk-from_err c.from_residual-in_err-add_next.result _ c.from_residual-in_err-add_next.ensures.0

pub add_one-returns-in_err-add_first : goal.add_one-returns-in_err-add_first
add_one-returns-in_err-add_first t c = IfOk-from_err c.from_residual.result _ c.from_residual.ensures.0

pub add_two-returns-in_err-add_first : goal.add_two-returns-in_err-add_first
add_two-returns-in_err-add_first t c = IfOk-from_err c.from_residual.result _ c.from_residual.ensures.0

pub add_two-returns-in_err-add_next : goal.add_two-returns-in_err-add_next
add_two-returns-in_err-add_next t c = IfOk-from_err c.from_residual-in_err-add_next.result _ c.from_residual-in_err-add_next.ensures.0

pub add_slice-returns-in_err-add_first : goal.add_slice-returns-in_err-add_first
add_slice-returns-in_err-add_first t c = IfOk-from_err c.from_residual.result _ c.from_residual.ensures.0

pub add_extension-returns-in_err-add_first : goal.add_extension-returns-in_err-add_first
add_extension-returns-in_err-add_first t c = IfOk-from_err c.from_residual.result _ c.from_residual.ensures.0
