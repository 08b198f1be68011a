use Rattle.std.proofs.Common.{arith}
use Rattle.std.proofs.lemmas.Result.{err_from_is_err_and}
use Rattle.src_check.proofs.widths.+wide.Goals as goal
use Rattle.src_check.proofs.widths.+wide.Goals.{sides-in_default-via-then-is_literal+then-is_literal-2, sides-in_default-via-else-is_literal+else-this}

pub wide-returns-in_err-sides-in-Bin : goal.wide-returns-in_err-sides-in-Bin
wide-returns-in_err-sides-in-Bin t c =
    let p = err_from_is_err_and c.from_residual.result c.from_residual.ensures.1 in
    rw (p.1, p.2) (grind arith)

pub sides-returns-in_err-wide-in-true-false : goal.sides-returns-in_err-wide-in-true-false
sides-returns-in_err-wide-in-true-false t c =
    let p = err_from_is_err_and c.from_residual.result c.from_residual.ensures.1 in
    rw (p.1, p.2) (grind arith)

pub sides-returns-in_err-wide-in-false-true : goal.sides-returns-in_err-wide-in-false-true
sides-returns-in_err-wide-in-false-true t c =
    let p = err_from_is_err_and c.from_residual-in_err-wide-in-false-true.result c.from_residual-in_err-wide-in-false-true.ensures.1 in
    rw (p.1, p.2) (grind arith)

pub sides-returns-in_default : goal.sides-returns-in_default
sides-returns-in_default t c = elim c.in_default.branch [
  | sides-in_default-via-then-is_literal+then-is_literal-2 w ↦ grind arith
  | sides-in_default-via-else-is_literal+else-this w ↦ grind arith
]
