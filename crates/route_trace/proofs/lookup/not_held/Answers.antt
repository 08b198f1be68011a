use Rattle.std.proofs.lemmas.Result.{IfOk-from_err}
use Rattle.std.proofs.Common.{◌&&◌, not, take, sym, ap, ◌∙◌, arith}
use Rattle.std.specs.List.{slice_index_or}
use Rattle.std.proofs.lemmas.Option.{slice_get-get_or}
use Rattle.bit_bdd.specs.Diagrams.{has_word}
use Rattle.bit_bdd.proofs.CallerLemmas.{extends_trans, same_words}
use Rattle.transfer_set.specs.Routes.{exprs_under}
use Rattle.transfer_set.proofs.Collecting.{set_at}
use Rattle.route_trace.specs.Inner.Lookups.{is_free}
use Rattle.route_trace.proofs.Products.{held_more}
use Rattle.route_trace.proofs.Lookups.{free_more}
use Rattle.route_trace.proofs.lookup.not_held.Goals as goal

pub without-requires-clause-other : goal.without-requires-clause-other
without-requires-clause-other c =
    let at = slice_get-get_or c.args.routes.now c.loop-route.route-index (record { expr = 0; set = 0 }) c.loop-route-test.true in
    omega (arith, (set_at c.args.book.now c.args.routes.now c.loop-route.route-index _ at c.requires.sets).within, c.loop-route.invariant.book.longer)

pub loop-route-preserved : goal.loop-route-preserved
loop-route-preserved c =
    let at = slice_get-get_or c.args.routes.now c.loop-route.route-index (record { expr = 0; set = 0 }) c.loop-route-test.true in
    let in_set = (set_at c.args.book.now c.args.routes.now c.loop-route.route-index _ at c.requires.sets).within in
    record {
      book = extends_trans c.args.book.now c.loop-route.book c.without.new.book c.loop-route.invariant.book c.in_ok-left.ensures.book;
      within = c.in_ok-left.ensures.within;
      words = λ word.
          let e = c.loop-route.invariant.words word in
          let f = same_words c.args.book.now c.loop-route.book c.loop-route.invariant.book _ in_set word in
          c.in_ok-left.ensures.words word ∙ (λ j. e j && not (f j))
          ∙ free_more (has_word c.args.book.now c.args.set word) (exprs_under c.args.book.now (take c.loop-route.route-index c.args.routes.now) word)
          (has_word c.args.book.now (slice_index_or c.args.routes.now c.loop-route.route-index (record { expr = 0; set = 0 })).set word)
          (slice_index_or c.args.routes.now c.loop-route.route-index (record { expr = 0; set = 0 })).expr
          ∙ ap (λ xs. has_word c.args.book.now c.args.set word && is_free xs) (sym (held_more c.args.book.now c.args.routes.now c.loop-route.route-index _ at word));
    }

pub returns-in_err-left-clause-within : goal.returns-in_err-left-clause-within
returns-in_err-left-clause-within c = IfOk-from_err c.from_residual.result _ c.from_residual.ensures.0

pub returns-in_err-left-clause-words : goal.returns-in_err-left-clause-words
returns-in_err-left-clause-words c = IfOk-from_err c.from_residual.result _ c.from_residual.ensures.0
