use Rattle.std.proofs.Common.{arith}
use Rattle.text_lines.proofs.Values.{overflows}
use Rattle.text_lines.proofs.field.value.Goals as goal

pub returns-in_err-checked_mul : goal.returns-in_err-checked_mul
returns-in_err-checked_mul c = rw c.from_residual.ensures (overflows c.args.digits.now c.loop-digit.digit-index c.loop-digit.number _ c.loop-digit-test.true c.loop-digit.invariant.same (omega (arith, c.in_err-checked_mul.ensures)))

pub returns-in_err-number : goal.returns-in_err-number
returns-in_err-number c = rw c.from_residual-in_err-number.ensures (overflows c.args.digits.now c.loop-digit.digit-index c.loop-digit.number _ c.loop-digit-test.true c.loop-digit.invariant.same (omega (arith, c.in_err-number.ensures, c.in_ok-checked_mul.ensures, c.from-more.ensures)))
