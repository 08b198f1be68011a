use Rattle.std.proofs.lemmas.Result.{IfOk-from_err}
use Rattle.std.proofs.Common.{refl}
use Rattle.bit_bdd.specs.Diagrams.{has_word}
use Rattle.bit_bdd.proofs.CallerLemmas.{extends_refl}
use Rattle.route_trace.proofs.Products.{added_exprs, exprs_later}
use Rattle.route_trace.proofs.gates.add_leaf.Goals as goal

pub returns-in_ok-add_route-in-Some-clause-table : goal.returns-in_ok-add_route-in-Some-clause-table
returns-in_ok-add_route-in-Some-clause-table c = record {
  right = c.in_ok-add_route-in-Some.ensures.routes;
  exprs = c.in_ok-add_route-in-Some.ensures.exprs _ c.in_ok-expr-in-Some.ensures.within (exprs_later _ _ c.in_ok-expr-in-Some.ensures.grows.longer c.args.out.now c.requires.table.exprs);
}

pub returns-in_ok-add_route-in-Some-clause-exprs : goal.returns-in_ok-add_route-in-Some-clause-exprs
returns-in_ok-add_route-in-Some-clause-exprs c word fits =
    added_exprs c.args.book.now c.args.book.now c.add_route.new.book c.args.pool.now c.intern.new.self (extends_refl c.args.book.now) c.in_ok-expr-in-Some.ensures.grows c.args.out.now c.add_route.new.out c.requires.table
    c.in_ok-expr-in-Some.expr _ c.in_ok-expr-in-Some.ensures.expr word (has_word c.args.book.now c.args.set word) (has_word c.args.book.now c.args.set word) refl
    (c.in_ok-add_route-in-Some.ensures.by_word word fits)

pub returns-in_err-add_route-in-Some-clause-table : goal.returns-in_err-add_route-in-Some-clause-table
returns-in_err-add_route-in-Some-clause-table c = IfOk-from_err c.from_residual-in_err-add_route-in-Some.result _ c.from_residual-in_err-add_route-in-Some.ensures.0

pub returns-in_err-add_route-in-Some-clause-exprs : goal.returns-in_err-add_route-in-Some-clause-exprs
returns-in_err-add_route-in-Some-clause-exprs c = IfOk-from_err c.from_residual-in_err-add_route-in-Some.result _ c.from_residual-in_err-add_route-in-Some.ensures.0

pub returns-in_err-expr-in-Some-clause-table : goal.returns-in_err-expr-in-Some-clause-table
returns-in_err-expr-in-Some-clause-table c = IfOk-from_err c.from_residual.result _ c.from_residual.ensures.0

pub returns-in_err-expr-in-Some-clause-exprs : goal.returns-in_err-expr-in-Some-clause-exprs
returns-in_err-expr-in-Some-clause-exprs c = IfOk-from_err c.from_residual.result _ c.from_residual.ensures.0
