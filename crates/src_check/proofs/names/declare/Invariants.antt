use Rattle.std.proofs.Common.{◌≡◌, [], take, drop}
use Rattle.rec_bits.specs.Faults.{lesser_offset, least}
use Rattle.src_model.specs.Names.{repeats}
use Rattle.src_check.specs.Inner.Tables.{Finds}
use Rattle.src_check.proofs.names.declare.Given as goal

-- the table finds what was declared so far, and the least of what is repeated so far and further on
-- is that of the whole
abbrev pub invariant-loop-var : goal.invariant-loop-var
invariant-loop-var l = record {
  finds : Finds l.first.entries (take l.var-index l.vars);
  all : lesser_offset l.repeated (least (repeats (take l.var-index l.vars) (drop l.var-index l.vars))) ≡ least (repeats [] l.vars);
}
