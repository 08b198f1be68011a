use Rattle.std.proofs.Common.{◌≡◌, drop}
use Rattle.rec_bits.specs.Faults.{lesser_offset, least, gather}
use Rattle.src_model.specs.Widths.{empty_array}
use Rattle.src_check.proofs.whole.empty_arrays.Given as goal

abbrev pub invariant-loop-var : goal.invariant-loop-var
invariant-loop-var l = lesser_offset l.found (least (gather empty_array (drop l.var-index l.vars))) ≡ least (gather empty_array l.vars)
