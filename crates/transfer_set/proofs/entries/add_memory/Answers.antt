use Rattle.std.proofs.lemmas.Result.{IfOk-from_err}
use Rattle.std.proofs.Common.{◌≡◌, ◌==◌, ◌&&◌, ◌++◌, take, slice_get, Some, ap, ◌∙◌, arith}
use Rattle.std.specs.List.{slice_index_or}
use Rattle.std.proofs.lemmas.Option.{slice_get-get_or}
use Rattle.bit_bdd.specs.Diagrams.{has_word}
use Rattle.bit_bdd.proofs.CallerLemmas.{same_words, extends_trans}
use Rattle.net_model.specs.Exprs.{ExprModel, write_at}
use Rattle.sym_expr.specs.Pools.{expr_of_id}
use Rattle.transfer_set.specs.declared.route.Route.{Route}
use Rattle.transfer_set.specs.Routes.{models_under}
use Rattle.transfer_set.specs.Inner.Entries.{each, list_if, memory_transfers, transfers_under}
use Rattle.transfer_set.proofs.Collecting.{expr_at, held_entries_later, moves_later, set_at, sets_later, models_later, models_more, turn, whole_later, words_same}
use Rattle.transfer_set.proofs.entries.add_memory.Goals as goal

pub and-requires-clause-b : goal.and-requires-clause-b
and-requires-clause-b c =
    let at = slice_get-get_or c.args.addrs.now c.loop-route.route-index (record { expr = 0; set = 0 }) c.loop-route-test.true in
    omega (arith, (set_at c.args.book.now c.args.addrs.now c.loop-route.route-index _ at c.requires.addrs).within, c.loop-route.invariant.grows.longer)

pub add_values-requires-clause-values : goal.add_values-requires-clause-values
add_values-requires-clause-values c =
    sets_later c.args.book.now c.and.new.self (extends_trans c.args.book.now c.loop-route.book c.and.new.self c.loop-route.invariant.grows c.in_ok-on.ensures.grows) c.args.values.now c.requires.values

pub add_values-requires-clause-words : goal.add_values-requires-clause-words
add_values-requires-clause-words c = held_entries_later c.loop-route.book c.and.new.self c.in_ok-on.ensures.grows c.loop-route.out c.loop-route.invariant.words

pub loop-route-preserved : goal.loop-route-preserved
loop-route-preserved c =
    let route : Route = slice_index_or c.args.addrs.now c.loop-route.route-index (record { expr = 0; set = 0 }) in
    let at : slice_get c.args.addrs.now c.loop-route.route-index ≡ Some route = slice_get-get_or c.args.addrs.now c.loop-route.route-index (record { expr = 0; set = 0 }) c.loop-route-test.true in
    let within = (set_at c.args.book.now c.args.addrs.now c.loop-route.route-index route at c.requires.addrs).within in
    let grows = c.loop-route.invariant.grows in
    let step = c.in_ok-on.ensures.grows in
    let more = extends_trans c.args.book.now c.loop-route.book c.and.new.self grows step in
    let on = same_words c.args.book.now c.loop-route.book grows c.args.sink.on c.requires.on in
    let of_route = same_words c.args.book.now c.loop-route.book grows route.set within in
    record {
      grows = extends_trans c.args.book.now c.and.new.self c.add_values.new.book more c.in_ok-add_values.ensures.grows;
      words = c.in_ok-add_values.ensures.words;
      moves = λ pool id word.
          let words = c.in_ok-on.ensures.words word in
          turn (λ (a : ExprModel). each (memory_transfers a) (models_under c.args.book.now pool c.args.values.now word)) (expr_of_id pool route.expr)
          (models_under c.args.book.now pool (take c.loop-route.route-index c.args.addrs.now) word) _
          _ (transfers_under c.and.new.self pool c.loop-route.out id word) _
          (each (memory_transfers (expr_of_id pool route.expr)) (models_under c.and.new.self pool c.args.values.now word))
          (c.args.sink.storage == id) (has_word c.args.book.now c.args.sink.on word) (has_word c.args.book.now route.set word)
          (has_word c.loop-route.book c.args.sink.on word) (has_word c.loop-route.book route.set word)
          (moves_later c.loop-route.book c.and.new.self step pool c.loop-route.out c.loop-route.invariant.words id word ∙ c.loop-route.invariant.moves pool id word)
          (on word) (of_route word)
          (ap (each (memory_transfers (expr_of_id pool route.expr))) (models_later c.args.book.now c.and.new.self more pool c.args.values.now c.requires.values word))
          (c.in_ok-add_values.ensures.moves pool id word
          ∙ (λ j. transfers_under c.and.new.self pool c.loop-route.out id word
          ++ list_if ((c.args.sink.storage == id) && words j) (each (memory_transfers (expr_of_id pool route.expr)) (models_under c.and.new.self pool c.args.values.now word))))
          (models_more c.args.book.now pool c.args.addrs.now c.loop-route.route-index route at word);
      whole = λ netlist pool w h.
          c.in_ok-add_values.ensures.whole netlist pool
          (whole_later c.loop-route.book c.and.new.self step netlist pool c.loop-route.out c.loop-route.invariant.words (c.loop-route.invariant.whole netlist pool w h))
          (λ place value there.
          let of_value = same_words c.args.book.now c.and.new.self more value.set (set_at c.args.book.now c.args.values.now place value there c.requires.values).within in
          words_same netlist c.args.book.now.bits c.and.new.self.bits c.args.sink.storage (write_at (expr_of_id pool route.expr) (expr_of_id pool value.expr))
          (λ word. (has_word c.args.book.now c.args.sink.on word && has_word c.args.book.now route.set word) && has_word c.args.book.now value.set word)
          (λ word. has_word c.and.new.self c.in_ok-on.on word && has_word c.and.new.self value.set word)
          more.bits (λ word.
          let both : has_word c.and.new.self c.in_ok-on.on word ≡ (has_word c.args.book.now c.args.sink.on word && has_word c.args.book.now route.set word) = c.in_ok-on.ensures.words word ∙ (λ i. on word i && of_route word i) in
          λ j. both j && of_value word j)
          (h c.loop-route.route-index route at place value there));
      known = λ size h a v. c.in_ok-add_values.ensures.known size (c.loop-route.invariant.known size h a v) (expr_at size c.args.addrs.now c.loop-route.route-index route at a) v;
    }

pub returns-in_err-add_values-clause-words : goal.returns-in_err-add_values-clause-words
returns-in_err-add_values-clause-words c = IfOk-from_err c.from_residual-in_err-add_values.result _ c.from_residual-in_err-add_values.ensures.0

pub returns-in_err-add_values-clause-moves : goal.returns-in_err-add_values-clause-moves
returns-in_err-add_values-clause-moves c = IfOk-from_err c.from_residual-in_err-add_values.result _ c.from_residual-in_err-add_values.ensures.0

pub returns-in_err-add_values-clause-whole : goal.returns-in_err-add_values-clause-whole
returns-in_err-add_values-clause-whole c = IfOk-from_err c.from_residual-in_err-add_values.result _ c.from_residual-in_err-add_values.ensures.0

pub returns-in_err-add_values-clause-known : goal.returns-in_err-add_values-clause-known
returns-in_err-add_values-clause-known c = IfOk-from_err c.from_residual-in_err-add_values.result _ c.from_residual-in_err-add_values.ensures.0

pub returns-in_err-on-clause-words : goal.returns-in_err-on-clause-words
returns-in_err-on-clause-words c = IfOk-from_err c.from_residual.result _ c.from_residual.ensures.0

pub returns-in_err-on-clause-moves : goal.returns-in_err-on-clause-moves
returns-in_err-on-clause-moves c = IfOk-from_err c.from_residual.result _ c.from_residual.ensures.0

pub returns-in_err-on-clause-whole : goal.returns-in_err-on-clause-whole
returns-in_err-on-clause-whole c = IfOk-from_err c.from_residual.result _ c.from_residual.ensures.0

pub returns-in_err-on-clause-known : goal.returns-in_err-on-clause-known
returns-in_err-on-clause-known c = IfOk-from_err c.from_residual.result _ c.from_residual.ensures.0
