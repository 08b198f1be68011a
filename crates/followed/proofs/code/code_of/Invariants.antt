use Rattle.std.proofs.Common.{◌≡◌, length}
use Rattle.sym_expr.specs.Pools.{Grows}
use Rattle.followed.specs.Inner.Coded.{AreWordsOf}
use Rattle.followed.proofs.code.code_of.Given as goal

abbrev pub invariant-loop-i : goal.invariant-loop-i
invariant-loop-i l = record {
  grows : Grows l.initial.pool l.pool;
  long : length l.code ≡ l.i;
  is : AreWordsOf l.checked.netlist l.pool l.words l.code;
}
