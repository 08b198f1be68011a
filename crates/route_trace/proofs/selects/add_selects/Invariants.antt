use Rattle.std.proofs.Common.{◌≡◌, ℕ, ◌^◌, ◌<◌, take, if◌then◌else◌}
use Rattle.bit_bdd.specs.Diagrams.{Extends, has_word}
use Rattle.sym_expr.specs.Pools.{Grows}
use Rattle.transfer_set.specs.Routes.{IsRouteTable, models_under}
use Rattle.route_trace.specs.Inner.Routing.{each}
use Rattle.route_trace.specs.Inner.Selects.{under}
use Rattle.route_trace.proofs.selects.add_selects.Given as goal

abbrev pub invariant-loop-route : goal.invariant-loop-route
invariant-loop-route l = record {
  book : Extends l.initial.book l.book;
  pool : Grows l.initial.pool l.pool;
  table : IsRouteTable l.book l.pool l.out;
  exprs : (word : ℕ) → word < 2 ^ l.initial.book.bits → models_under l.book l.pool l.out word ≡ (if has_word l.initial.book l.set word then each (λ c. under c (models_under l.initial.book l.initial.pool l.selection.firsts.now word) (models_under l.initial.book l.initial.pool l.selection.seconds.now word)) (models_under l.initial.book l.initial.pool (take l.route-index l.selection.choices.now) word) else models_under l.initial.book l.initial.pool l.initial.out word);
}
