use Rattle.std.proofs.lemmas.Result.{IfOk-from_err}
use Rattle.std.proofs.Common.{◌≡◌, ◌==◌, ◌&&◌, take, slice_get, Some, refl, arith}
use Rattle.std.specs.List.{slice_index_or}
use Rattle.std.proofs.lemmas.Option.{slice_get-get_or}
use Rattle.bit_bdd.specs.Diagrams.{has_word}
use Rattle.bit_bdd.proofs.CallerLemmas.{same_words, extends_trans}
use Rattle.net_model.specs.Exprs.{write_at}
use Rattle.sym_expr.specs.Pools.{expr_of_id}
use Rattle.transfer_set.specs.declared.route.Route.{Route}
use Rattle.transfer_set.specs.Routes.{models_under}
use Rattle.transfer_set.specs.Inner.Entries.{memory_transfers, transfers_under}
use Rattle.transfer_set.proofs.Collecting.{expr_at, set_at, models_more, turn, words_same}
use Rattle.transfer_set.proofs.entries.add_values.Goals as goal

pub add_entry-requires-clause-set : goal.add_entry-requires-clause-set
add_entry-requires-clause-set c =
    let at = slice_get-get_or c.args.values.now c.loop-route.route-index (record { expr = 0; set = 0 }) c.loop-route-test.true in
    omega (arith, (set_at c.args.book.now c.args.values.now c.loop-route.route-index _ at c.requires.values).within, c.loop-route.invariant.grows.longer)

pub loop-route-preserved : goal.loop-route-preserved
loop-route-preserved c =
    let route : Route = slice_index_or c.args.values.now c.loop-route.route-index (record { expr = 0; set = 0 }) in
    let at : slice_get c.args.values.now c.loop-route.route-index ≡ Some route = slice_get-get_or c.args.values.now c.loop-route.route-index (record { expr = 0; set = 0 }) c.loop-route-test.true in
    let within = (set_at c.args.book.now c.args.values.now c.loop-route.route-index route at c.requires.values).within in
    let grows = c.loop-route.invariant.grows in
    let on = same_words c.args.book.now c.loop-route.book grows c.args.sink.on c.requires.on in
    let of_route = same_words c.args.book.now c.loop-route.book grows route.set within in
    record {
      grows = extends_trans c.args.book.now c.loop-route.book c.add_entry.new.book grows c.in_ok-add_entry.ensures.grows;
      words = c.in_ok-add_entry.ensures.words;
      moves = λ pool id word.
          turn (memory_transfers (expr_of_id pool c.args.addr)) (expr_of_id pool route.expr)
          (models_under c.args.book.now pool (take c.loop-route.route-index c.args.values.now) word) _
          _ (transfers_under c.loop-route.book pool c.loop-route.out id word) _ (memory_transfers (expr_of_id pool c.args.addr) (expr_of_id pool route.expr))
          (c.args.sink.storage == id) (has_word c.args.book.now c.args.sink.on word) (has_word c.args.book.now route.set word)
          (has_word c.loop-route.book c.args.sink.on word) (has_word c.loop-route.book route.set word)
          (c.loop-route.invariant.moves pool id word) (on word) (of_route word) refl (c.in_ok-add_entry.ensures.moves pool id word)
          (models_more c.args.book.now pool c.args.values.now c.loop-route.route-index route at word);
      whole = λ netlist pool w h.
          c.in_ok-add_entry.ensures.whole netlist pool (c.loop-route.invariant.whole netlist pool w h)
          (words_same netlist c.args.book.now.bits c.loop-route.book.bits c.args.sink.storage (write_at (expr_of_id pool c.args.addr) (expr_of_id pool route.expr))
          (λ word. has_word c.args.book.now c.args.sink.on word && has_word c.args.book.now route.set word)
          (λ word. has_word c.loop-route.book c.args.sink.on word && has_word c.loop-route.book route.set word)
          grows.bits (λ word. λ j. on word j && of_route word j) (h c.loop-route.route-index route at));
      known = λ size h a v. c.in_ok-add_entry.ensures.known size (c.loop-route.invariant.known size h a v) a (expr_at size c.args.values.now c.loop-route.route-index route at v);
    }

pub returns-in_err-add_entry-clause-words : goal.returns-in_err-add_entry-clause-words
returns-in_err-add_entry-clause-words c = IfOk-from_err c.from_residual.result _ c.from_residual.ensures.0

pub returns-in_err-add_entry-clause-moves : goal.returns-in_err-add_entry-clause-moves
returns-in_err-add_entry-clause-moves c = IfOk-from_err c.from_residual.result _ c.from_residual.ensures.0

pub returns-in_err-add_entry-clause-whole : goal.returns-in_err-add_entry-clause-whole
returns-in_err-add_entry-clause-whole c = IfOk-from_err c.from_residual.result _ c.from_residual.ensures.0

pub returns-in_err-add_entry-clause-known : goal.returns-in_err-add_entry-clause-known
returns-in_err-add_entry-clause-known c = IfOk-from_err c.from_residual.result _ c.from_residual.ensures.0
