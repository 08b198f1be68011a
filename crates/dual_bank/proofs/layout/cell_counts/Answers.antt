use Rattle.std.proofs.Common.{arith}
use Rattle.dual_bank.proofs.Cells.{counts_le, memory_here, bank_here}
use Rattle.dual_bank.proofs.layout.cell_counts.Goals as goal

pub overflow_add-memory : goal.overflow_add-memory
overflow_add-memory c =
    let all = counts_le c.args.in_bank.now c.args.vars.now c.requires.lengths in
    let here = memory_here c.args.in_bank.now c.args.vars.now c.loop-number.number c.index-vars-number.result c.loop-number-test.true c.requires.flags c.index-vars-number.is c.if-in_bank-number.false in
    omega (arith, all, here, c.loop-number.invariant.memory, c.cells_in-cells.ensures, c.requires.few)

pub overflow_add-bank : goal.overflow_add-bank
overflow_add-bank c =
    let all = counts_le c.args.in_bank.now c.args.vars.now c.requires.lengths in
    let here = bank_here c.args.in_bank.now c.args.vars.now c.loop-number.number c.index-vars-number.result c.loop-number-test.true c.requires.flags c.index-vars-number.is c.if-in_bank-number.true in
    omega (arith, all, here, c.loop-number.invariant.bank, c.cells_in-cells.ensures, c.requires.few)
