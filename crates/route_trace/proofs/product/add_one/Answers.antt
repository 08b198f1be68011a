use Rattle.std.proofs.lemmas.Result.{IfOk-from_err}
use Rattle.std.proofs.Common.{◌<◌, ◌^◌, ◌&&◌, sym, subst, ◌∙◌}
use Rattle.transfer_set.proofs.Collecting.{held_later}
use Rattle.bit_bdd.specs.Diagrams.{has_word}
use Rattle.bit_bdd.proofs.CallerLemmas.{extends_trans, same_words, still_within}
use Rattle.route_trace.proofs.Merging.{routes_later}
use Rattle.route_trace.proofs.Products.{added_exprs, exprs_later}
use Rattle.route_trace.proofs.product.add_one.Goals as goal

pub and-requires-clause-a : goal.and-requires-clause-a
and-requires-clause-a c = still_within c.args.book.now c.without.new.book c.in_ok-left.ensures.book c.args.set c.requires.set

pub and-requires-clause-b : goal.and-requires-clause-b
and-requires-clause-b c = still_within c.args.book.now c.without.new.book c.in_ok-left.ensures.book c.args.last.route.set c.requires.route_set

pub returns-in_err-both-clause-book : goal.returns-in_err-both-clause-book
returns-in_err-both-clause-book c = extends_trans c.args.book.now c.without.new.book c.and.new.self c.in_ok-left.ensures.book c.in_err-both.ensures.grows

pub returns-in_err-expr-clause-book : goal.returns-in_err-expr-clause-book
returns-in_err-expr-clause-book c = extends_trans c.args.book.now c.without.new.book c.and.new.self c.in_ok-left.ensures.book c.in_ok-both.ensures.grows

pub returns-in_err-add_route-clause-book : goal.returns-in_err-add_route-clause-book
returns-in_err-add_route-clause-book c =
    extends_trans c.args.book.now c.and.new.self c.add_route.new.book
    (extends_trans c.args.book.now c.without.new.book c.and.new.self c.in_ok-left.ensures.book c.in_ok-both.ensures.grows) c.in_err-add_route.ensures.grows

pub returns-clause-book : goal.returns-clause-book
returns-clause-book c =
    extends_trans c.args.book.now c.and.new.self c.add_route.new.book
    (extends_trans c.args.book.now c.without.new.book c.and.new.self c.in_ok-left.ensures.book c.in_ok-both.ensures.grows) c.in_ok-add_route.ensures.grows

pub add_route-requires-clause-set : goal.add_route-requires-clause-set
add_route-requires-clause-set c =
    let grows = extends_trans c.args.book.now c.without.new.book c.and.new.self c.in_ok-left.ensures.book c.in_ok-both.ensures.grows in
    let e = same_words c.args.book.now c.without.new.book c.in_ok-left.ensures.book c.args.set c.requires.set c.requires.meet.word in
    let f = same_words c.args.book.now c.without.new.book c.in_ok-left.ensures.book c.args.last.route.set c.requires.route_set c.requires.meet.word in
    record {
      within = c.in_ok-both.ensures.within;
      word = c.requires.meet.word;
      fits = subst (λ b. c.requires.meet.word < 2 ^ b) (sym grows.bits) c.requires.meet.fits;
      holds = c.in_ok-both.ensures.words c.requires.meet.word ∙ (λ j. (e ∙ c.requires.meet.first) j && (f ∙ c.requires.meet.second) j);
    }

pub add_route-requires-clause-routes : goal.add_route-requires-clause-routes
add_route-requires-clause-routes c =
    routes_later c.args.book.now c.and.new.self (extends_trans c.args.book.now c.without.new.book c.and.new.self c.in_ok-left.ensures.book c.in_ok-both.ensures.grows) c.args.out.now c.requires.table.right

pub add_route-requires-clause-apart : goal.add_route-requires-clause-apart
add_route-requires-clause-apart c word fits holds =
    let grows = extends_trans c.args.book.now c.without.new.book c.and.new.self c.in_ok-left.ensures.book c.in_ok-both.ensures.grows in
    let e = same_words c.args.book.now c.without.new.book c.in_ok-left.ensures.book c.args.set c.requires.set word in
    let f = same_words c.args.book.now c.without.new.book c.in_ok-left.ensures.book c.args.last.route.set c.requires.route_set word in
    held_later c.args.book.now c.and.new.self grows c.args.out.now c.requires.table.right.sets word
    ∙ c.requires.apart word (subst (λ b. word < 2 ^ b) grows.bits fits) (sym (c.in_ok-both.ensures.words word ∙ (λ j. e j && f j)) ∙ holds)

pub returns-clause-table : goal.returns-clause-table
returns-clause-table c = record {
  right = c.in_ok-add_route.ensures.routes;
  exprs = c.in_ok-add_route.ensures.exprs _ c.in_ok-expr.ensures.within (exprs_later _ _ c.in_ok-expr.ensures.grows.longer c.args.out.now c.requires.table.exprs);
}

pub returns-clause-exprs : goal.returns-clause-exprs
returns-clause-exprs c word fits =
    let grows = extends_trans c.args.book.now c.without.new.book c.and.new.self c.in_ok-left.ensures.book c.in_ok-both.ensures.grows in
    let e = same_words c.args.book.now c.without.new.book c.in_ok-left.ensures.book c.args.set c.requires.set word in
    let f = same_words c.args.book.now c.without.new.book c.in_ok-left.ensures.book c.args.last.route.set c.requires.route_set word in
    added_exprs c.args.book.now c.and.new.self c.add_route.new.book c.args.pool.now c.close.new.pool grows c.in_ok-expr.ensures.grows c.args.out.now c.add_route.new.out c.requires.table
    c.in_ok-expr.expr _ c.in_ok-expr.ensures.expr word _ (has_word c.and.new.self c.in_ok-both.both word) (c.in_ok-both.ensures.words word ∙ (λ j. e j && f j))
    (c.in_ok-add_route.ensures.by_word word (subst (λ b. word < 2 ^ b) (sym grows.bits) fits))

pub returns-clause-left_within : goal.returns-clause-left_within
returns-clause-left_within c =
    still_within c.without.new.book c.add_route.new.book (extends_trans c.without.new.book c.and.new.self c.add_route.new.book c.in_ok-both.ensures.grows c.in_ok-add_route.ensures.grows)
    c.in_ok-left.left c.in_ok-left.ensures.within

pub returns-clause-left : goal.returns-clause-left
returns-clause-left c word =
    same_words c.without.new.book c.add_route.new.book (extends_trans c.without.new.book c.and.new.self c.add_route.new.book c.in_ok-both.ensures.grows c.in_ok-add_route.ensures.grows)
    c.in_ok-left.left c.in_ok-left.ensures.within word
    ∙ c.in_ok-left.ensures.words word

pub returns-in_err-add_route-clause-table : goal.returns-in_err-add_route-clause-table
returns-in_err-add_route-clause-table c = IfOk-from_err c.from_residual-in_err-add_route.result _ c.from_residual-in_err-add_route.ensures.0

pub returns-in_err-add_route-clause-exprs : goal.returns-in_err-add_route-clause-exprs
returns-in_err-add_route-clause-exprs c = IfOk-from_err c.from_residual-in_err-add_route.result _ c.from_residual-in_err-add_route.ensures.0

pub returns-in_err-add_route-clause-left_within : goal.returns-in_err-add_route-clause-left_within
returns-in_err-add_route-clause-left_within c = IfOk-from_err c.from_residual-in_err-add_route.result _ c.from_residual-in_err-add_route.ensures.0

pub returns-in_err-add_route-clause-left : goal.returns-in_err-add_route-clause-left
returns-in_err-add_route-clause-left c = IfOk-from_err c.from_residual-in_err-add_route.result _ c.from_residual-in_err-add_route.ensures.0

pub returns-in_err-both-clause-table : goal.returns-in_err-both-clause-table
returns-in_err-both-clause-table c = IfOk-from_err c.from_residual-in_err-both.result _ c.from_residual-in_err-both.ensures.0

pub returns-in_err-both-clause-exprs : goal.returns-in_err-both-clause-exprs
returns-in_err-both-clause-exprs c = IfOk-from_err c.from_residual-in_err-both.result _ c.from_residual-in_err-both.ensures.0

pub returns-in_err-both-clause-left_within : goal.returns-in_err-both-clause-left_within
returns-in_err-both-clause-left_within c = IfOk-from_err c.from_residual-in_err-both.result _ c.from_residual-in_err-both.ensures.0

pub returns-in_err-both-clause-left : goal.returns-in_err-both-clause-left
returns-in_err-both-clause-left c = IfOk-from_err c.from_residual-in_err-both.result _ c.from_residual-in_err-both.ensures.0

pub returns-in_err-expr-clause-table : goal.returns-in_err-expr-clause-table
returns-in_err-expr-clause-table c = IfOk-from_err c.from_residual-in_err-expr.result _ c.from_residual-in_err-expr.ensures.0

pub returns-in_err-expr-clause-exprs : goal.returns-in_err-expr-clause-exprs
returns-in_err-expr-clause-exprs c = IfOk-from_err c.from_residual-in_err-expr.result _ c.from_residual-in_err-expr.ensures.0

pub returns-in_err-expr-clause-left_within : goal.returns-in_err-expr-clause-left_within
returns-in_err-expr-clause-left_within c = IfOk-from_err c.from_residual-in_err-expr.result _ c.from_residual-in_err-expr.ensures.0

pub returns-in_err-expr-clause-left : goal.returns-in_err-expr-clause-left
returns-in_err-expr-clause-left c = IfOk-from_err c.from_residual-in_err-expr.result _ c.from_residual-in_err-expr.ensures.0

pub returns-in_err-left-clause-table : goal.returns-in_err-left-clause-table
returns-in_err-left-clause-table c = IfOk-from_err c.from_residual.result _ c.from_residual.ensures.0

pub returns-in_err-left-clause-exprs : goal.returns-in_err-left-clause-exprs
returns-in_err-left-clause-exprs c = IfOk-from_err c.from_residual.result _ c.from_residual.ensures.0

pub returns-in_err-left-clause-left_within : goal.returns-in_err-left-clause-left_within
returns-in_err-left-clause-left_within c = IfOk-from_err c.from_residual.result _ c.from_residual.ensures.0

pub returns-in_err-left-clause-left : goal.returns-in_err-left-clause-left
returns-in_err-left-clause-left c = IfOk-from_err c.from_residual.result _ c.from_residual.ensures.0
