use Rattle.std.proofs.Common.{◌≤◌, ◌+◌, ◌^◌, arith}
use Rattle.std.proofs.Math.Pow.{pow_mono}
use Rattle.transfer_set.proofs.fields.span.Goals as goal

pub overflow_sub-result : goal.overflow_sub-result
overflow_sub-result c =
    let mono : 2 ^ c.args.lo ≤ 2 ^ (c.args.hi + 1) = pow_mono (omega (arith, c.requires.order)) in
    omega (arith, mono, c.mask-else-lo-eq0.ensures, c.mask-else-lo-eq0-2.ensures)
