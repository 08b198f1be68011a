use Rattle.std.proofs.Common.{◌≡◌, ℕ, ◌^◌, ◌<◌, length, true}
use Rattle.bit_bdd.specs.Diagrams.{Extends, has_word}
use Rattle.sym_expr.specs.Pools.{Grows, expr_of_id}
use Rattle.route_trace.specs.Inner.Routing.{pairs}
use Rattle.transfer_set.specs.Routes.{IsRouteTable, models_under}
use Rattle.route_trace.proofs.Lookups.{left_exprs, words_in}
use Rattle.route_trace.proofs.pairs.add_pairs.Given as goal

abbrev pub invariant-loop-word : goal.invariant-loop-word
invariant-loop-word l = record {
  book : Extends l.initial.book l.book;
  pool : Grows l.initial.pool l.pool;
  table : IsRouteTable l.book l.pool l.out;
  within : l.left < length l.book.nodes;
  inside : (word : ℕ) → has_word l.book l.left word ≡ true → has_word l.initial.book l.set word ≡ true;
  exprs : (word : ℕ) → word < 2 ^ l.initial.book.bits → models_under l.book l.pool l.out word ≡ left_exprs (has_word l.initial.book l.set word) (has_word l.book l.left word) (pairs l.operation.binary (expr_of_id l.initial.pool) (models_under l.initial.book l.initial.pool l.operation.firsts.now word) (models_under l.initial.book l.initial.pool l.operation.seconds.now word)) (models_under l.initial.book l.initial.pool l.initial.out word);
}

-- each turn takes a word
abbrev pub decreases-loop-word : goal.decreases-loop-word
decreases-loop-word l = words_in l.book l.left (2 ^ l.book.bits)
