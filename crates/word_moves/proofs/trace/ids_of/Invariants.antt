use Rattle.std.proofs.Common.{◌≡◌, ◌<◌, ℕ, length}
use Rattle.net_model.specs.Order.{position_of}
use Rattle.sym_expr.specs.Pools.{Grows}
use Rattle.word_moves.proofs.Traced.{IsTraced}
use Rattle.word_moves.proofs.trace.ids_of.Given as goal

abbrev pub invariant-loop-id : goal.invariant-loop-id
invariant-loop-id l = record {
  grows : Grows l.initial.pool l.pool;
  long : length l.ids ≡ length l.checked.netlist.nets;
  done : (m : ℕ) → position_of l.order m < l.id-index → IsTraced l.checked.netlist l.at.word l.pool l.ids m;
}
