use Rattle.std.proofs.Common.{◌≡◌, ℕ, ◌^◌, ◌<◌, ◌&&◌, not, take, length, if◌then◌else◌}
use Rattle.bit_bdd.specs.Diagrams.{Extends, has_word}
use Rattle.sym_expr.specs.Pools.{Grows}
use Rattle.transfer_set.specs.Routes.{IsRouteTable, models_under}
use Rattle.route_trace.specs.Inner.Routing.{first_exprs, passes}
use Rattle.route_trace.proofs.tracer.Tracer.add_first.Given as goal

abbrev pub invariant-loop-test : goal.invariant-loop-test
invariant-loop-test l = record {
  book : Extends l.initial.book l.book;
  pool : Grows l.initial.pool l.pool;
  table : IsRouteTable l.book l.pool l.out;
  left_within : l.left < length l.book.nodes;
  left : (word : ℕ) → word < 2 ^ l.initial.book.bits → has_word l.book l.left word ≡ (has_word l.initial.book l.initial.left word && not (passes l.initial.book word (take l.test-index l.tests)));
  exprs : (word : ℕ) → word < 2 ^ l.initial.book.bits → models_under l.book l.pool l.out word ≡ (if has_word l.initial.book l.initial.left word then first_exprs l.initial.book l.initial.pool l.self.nets.now word (take l.test-index l.tests) else models_under l.initial.book l.initial.pool l.initial.out word);
}
