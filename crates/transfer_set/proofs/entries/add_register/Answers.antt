use Rattle.std.proofs.Common.{◌≡◌, ◌==◌, ◌&&◌, take, slice_get, Some, refl, arith}
use Rattle.std.specs.List.{slice_index_or}
use Rattle.std.proofs.lemmas.Option.{slice_get-get_or}
use Rattle.bit_bdd.specs.Diagrams.{has_word}
use Rattle.bit_bdd.proofs.CallerLemmas.{same_words, extends_trans}
use Rattle.net_model.specs.Exprs.{write}
use Rattle.sym_expr.specs.Pools.{expr_of_id}
use Rattle.transfer_set.specs.declared.route.Route.{Route}
use Rattle.transfer_set.specs.Routes.{models_under}
use Rattle.transfer_set.specs.Inner.Entries.{transfers_under, register_transfers}
use Rattle.transfer_set.proofs.Collecting.{expr_at, set_at, models_more, turn, words_same}
use Rattle.transfer_set.proofs.entries.add_register.Goals as goal

pub add_write-requires-clause-set : goal.add_write-requires-clause-set
add_write-requires-clause-set c =
    let at = slice_get-get_or c.args.routes.now c.loop-route.route-index (record { expr = 0; set = 0 }) c.loop-route-test.true in
    omega (arith, (set_at c.args.book.now c.args.routes.now c.loop-route.route-index _ at c.requires.sets).within, c.loop-route.invariant.grows.longer)

pub add_write-requires-clause-expr : goal.add_write-requires-clause-expr
add_write-requires-clause-expr c =
    expr_at _ c.args.routes.now c.loop-route.route-index _ (slice_get-get_or c.args.routes.now c.loop-route.route-index (record { expr = 0; set = 0 }) c.loop-route-test.true) c.requires.exprs

pub loop-route-preserved : goal.loop-route-preserved
loop-route-preserved c =
    let route : Route = slice_index_or c.args.routes.now c.loop-route.route-index (record { expr = 0; set = 0 }) in
    let at : slice_get c.args.routes.now c.loop-route.route-index ≡ Some route = slice_get-get_or c.args.routes.now c.loop-route.route-index (record { expr = 0; set = 0 }) c.loop-route-test.true in
    let within = (set_at c.args.book.now c.args.routes.now c.loop-route.route-index route at c.requires.sets).within in
    let grows = c.loop-route.invariant.grows in
    let on = same_words c.args.book.now c.loop-route.book grows c.args.sink.on c.requires.on in
    let of_route = same_words c.args.book.now c.loop-route.book grows route.set within in
    record {
      grows = extends_trans c.args.book.now c.loop-route.book c.add_write.new.book grows c.in_ok-add_write.ensures.grows;
      words = c.in_ok-add_write.ensures.words;
      moves = λ id word.
          turn (register_transfers c.args.sink.storage) (expr_of_id c.args.pool.now route.expr)
          (models_under c.args.book.now c.args.pool.now (take c.loop-route.route-index c.args.routes.now) word) _
          _ (transfers_under c.loop-route.book c.args.pool.now c.loop-route.out id word) _ (register_transfers c.args.sink.storage (expr_of_id c.args.pool.now route.expr))
          (c.args.sink.storage == id) (has_word c.args.book.now c.args.sink.on word) (has_word c.args.book.now route.set word)
          (has_word c.loop-route.book c.args.sink.on word) (has_word c.loop-route.book route.set word)
          (c.loop-route.invariant.moves id word) (on word) (of_route word) refl (c.in_ok-add_write.ensures.moves id word)
          (models_more c.args.book.now c.args.pool.now c.args.routes.now c.loop-route.route-index route at word);
      whole = λ netlist w h.
          c.in_ok-add_write.ensures.whole netlist (c.loop-route.invariant.whole netlist w h)
          (λ other. words_same netlist c.args.book.now.bits c.loop-route.book.bits c.args.sink.storage (write (expr_of_id c.args.pool.now route.expr))
          (λ word. has_word c.args.book.now c.args.sink.on word && has_word c.args.book.now route.set word)
          (λ word. has_word c.loop-route.book c.args.sink.on word && has_word c.loop-route.book route.set word)
          grows.bits (λ word. λ j. on word j && of_route word j) (h c.loop-route.route-index route at other));
      known = λ h. c.in_ok-add_write.ensures.known (c.loop-route.invariant.known h);
    }
