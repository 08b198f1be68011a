use Rattle.std.proofs.Common.{ap, arith}
use Rattle.rec_bits.proofs.Faults.{drop_item}
use Rattle.src_model.specs.Meaning.{cell_count}
use Rattle.binding.proofs.Cells.{count_le}
use Rattle.binding.proofs.layout.cell_count.Goals as goal

pub overflow_add-count : goal.overflow_add-count
overflow_add-count c =
    let all = count_le c.args.vars.now c.requires.lengths in
    let here = ap cell_count (drop_item c.args.vars.now c.loop-var.var-index c.var-item.result c.loop-var-test.true c.var-item.is) in
    omega (arith, all, here, c.loop-var.invariant, c.cells_in-count.ensures, c.requires.few)
