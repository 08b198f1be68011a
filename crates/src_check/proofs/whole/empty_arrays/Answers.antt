use Rattle.src_model.specs.Widths.{empty_array}
use Rattle.rec_bits.proofs.Faults.{gather_next, gather_end}
use Rattle.src_check.proofs.whole.empty_arrays.Goals as goal

pub loop-var-preserved : goal.loop-var-preserved
loop-var-preserved c =
    rw (c.lesser_offset-found.ensures, c.empty_array.ensures)
    (gather_next empty_array _ _ c.var-item.result _ _ c.loop-var-test.true c.var-item.is c.loop-var.invariant)

pub returns : goal.returns
returns c = gather_end empty_array _ _ _ _ c.loop-var-test.false c.loop-var.invariant
