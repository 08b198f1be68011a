use Rattle.std.proofs.Common.{arith}
use Rattle.operand_swaps.specs.Sides.{model_of_sides}
use Rattle.operand_swaps.proofs.Swapping.{sides_count}
use Rattle.operand_swaps.proofs.swaps.swap_count.Goals as goal

pub returns-clause-count : goal.returns-clause-count
returns-clause-count c =
    let n = sides_count (model_of_sides c.args.sides.now) in
    omega (arith, n, c.min.ensures, c.addr_swaps.ensures, c.swaps_of.ensures)
