use Rattle.std.proofs.Common.{◌≡◌, ℕ, ◌<◌, ◌&&◌, take, length}
use Rattle.bit_bdd.specs.Diagrams.{Extends, has_word}
use Rattle.transfer_set.specs.Routes.{exprs_under}
use Rattle.route_trace.specs.Inner.Lookups.{is_free}
use Rattle.route_trace.proofs.lookup.not_held.Given as goal

abbrev pub invariant-loop-route : goal.invariant-loop-route
invariant-loop-route l = record {
  book : Extends l.initial.book l.book;
  within : l.left < length l.book.nodes;
  words : (word : ℕ) → has_word l.book l.left word ≡ (has_word l.initial.book l.set word && is_free (exprs_under l.initial.book (take l.route-index l.routes) word));
}
