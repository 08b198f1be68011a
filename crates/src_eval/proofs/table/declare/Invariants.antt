use Rattle.std.proofs.Common.{◌≡◌, ◌+◌, take, drop}
use Rattle.src_model.specs.Meaning.{cell_count}
use Rattle.src_eval.proofs.TableLemmas.{Finds}
use Rattle.src_eval.proofs.table.declare.Given as goal

-- the table finds the cells of what was declared so far, and the cells left are the others
abbrev pub invariant-loop-var : goal.invariant-loop-var
invariant-loop-var l = record {
  finds : Finds l.first.entries (take l.var-index l.vars);
  count : l.total ≡ cell_count (take l.var-index l.vars);
  left : l.total + cell_count (drop l.var-index l.vars) ≡ cell_count l.vars;
}
