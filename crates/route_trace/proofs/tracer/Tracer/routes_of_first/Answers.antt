use Rattle.std.proofs.Common.{◌^◌, ◌<◌, inr, if◌then◌else◌, sym, ap, subst, ◌∙◌}
use Rattle.std.proofs.lemmas.Result.{err_from_is_err_and, IfOk-from_err}
use Rattle.bit_bdd.specs.Diagrams.{has_word}
use Rattle.transfer_set.specs.Routes.{models_under}
use Rattle.route_trace.proofs.Products.{both_later}
use Rattle.route_trace.proofs.Firsts.{map_same, all_fit_same, tables_later, rest_apart, with_rest}
use Rattle.route_trace.proofs.Stopping.{many_in, part_of_tests}
use Rattle.bit_bdd.proofs.CallerLemmas.{extends_trans}
use Rattle.sym_expr.proofs.CallerLemmas.{grows_trans}
use Rattle.route_trace.proofs.tracer.Tracer.routes_of_first.Goals as goal

pub returns-in_err-add_all-in-Some-clause-book : goal.returns-in_err-add_all-in-Some-clause-book
returns-in_err-add_all-in-Some-clause-book c = extends_trans c.args.book.now c.add_first.new.book c.add_all.new.book c.in_ok-left.ensures.book c.in_err-add_all-in-Some.ensures.book

pub returns-in_err-add_all-in-Some-clause-pool : goal.returns-in_err-add_all-in-Some-clause-pool
returns-in_err-add_all-in-Some-clause-pool c = grows_trans c.args.pool.now c.add_first.new.pool c.add_all.new.pool c.in_ok-left.ensures.pool c.in_err-add_all-in-Some.ensures.pool

pub returns-in_ok-add_all-in-Some-clause-book : goal.returns-in_ok-add_all-in-Some-clause-book
returns-in_ok-add_all-in-Some-clause-book c = extends_trans c.args.book.now c.add_first.new.book c.add_all.new.book c.in_ok-left.ensures.book c.in_ok-add_all-in-Some.ensures.book

pub returns-in_ok-add_all-in-Some-clause-pool : goal.returns-in_ok-add_all-in-Some-clause-pool
returns-in_ok-add_all-in-Some-clause-pool c = grows_trans c.args.pool.now c.add_first.new.pool c.add_all.new.pool c.in_ok-left.ensures.pool c.in_ok-add_all-in-Some.ensures.pool

pub returns-in_err-add_leaf-in-None-clause-book : goal.returns-in_err-add_leaf-in-None-clause-book
returns-in_err-add_leaf-in-None-clause-book c = extends_trans c.args.book.now c.add_first.new.book c.add_leaf.new.book c.in_ok-left.ensures.book c.in_err-add_leaf-in-None.ensures.book

pub returns-in_err-add_leaf-in-None-clause-pool : goal.returns-in_err-add_leaf-in-None-clause-pool
returns-in_err-add_leaf-in-None-clause-pool c = grows_trans c.args.pool.now c.add_first.new.pool c.add_leaf.new.pool c.in_ok-left.ensures.pool c.in_err-add_leaf-in-None.ensures.pool

pub returns-in_ok-add_leaf-in-None-clause-book : goal.returns-in_ok-add_leaf-in-None-clause-book
returns-in_ok-add_leaf-in-None-clause-book c = extends_trans c.args.book.now c.add_first.new.book c.add_leaf.new.book c.in_ok-left.ensures.book c.in_ok-add_leaf-in-None.ensures.book

pub returns-in_ok-add_leaf-in-None-clause-pool : goal.returns-in_ok-add_leaf-in-None-clause-pool
returns-in_ok-add_leaf-in-None-clause-pool c = grows_trans c.args.pool.now c.add_first.new.pool c.add_leaf.new.pool c.in_ok-left.ensures.pool c.in_ok-add_leaf-in-None.ensures.pool

pub add_all-requires-clause-source : goal.add_all-requires-clause-source
add_all-requires-clause-source c =
    let t = tables_later c.args.book.now c.add_first.new.book c.args.pool.now c.add_first.new.pool c.in_ok-left.ensures.book c.in_ok-left.ensures.pool c.args.self.now.nets.now c.requires.nets in
    rw c.routes_of-routes.ensures (t.tables _)

pub add_all-requires-clause-one : goal.add_all-requires-clause-one
add_all-requires-clause-one c word fits =
    let t = tables_later c.args.book.now c.add_first.new.book c.args.pool.now c.add_first.new.pool c.in_ok-left.ensures.book c.in_ok-left.ensures.pool c.args.self.now.nets.now c.requires.nets in
    rw c.routes_of-routes.ensures (t.one _ word fits)

pub add_all-requires-clause-fits : goal.add_all-requires-clause-fits
add_all-requires-clause-fits c = all_fit_same c.add_first.new.pool c.routes_of-routes.result.now

pub add_all-requires-clause-apart : goal.add_all-requires-clause-apart
add_all-requires-clause-apart c word fits holds =
    let low = subst (λ b. word < 2 ^ b) c.in_ok-left.ensures.book.bits fits in
    rest_apart c.args.book.now c.args.pool.now c.args.self.now.nets.now word c.args.decision.now.tests.now c.add_first.new.pool _ _ _ (c.in_ok-left.ensures.left word low)
    (rw c.new-out.ensures at c.in_ok-left.ensures.exprs word low) holds

pub add_leaf-requires-clause-apart : goal.add_leaf-requires-clause-apart
add_leaf-requires-clause-apart c word fits holds =
    let low = subst (λ b. word < 2 ^ b) c.in_ok-left.ensures.book.bits fits in
    rest_apart c.args.book.now c.args.pool.now c.args.self.now.nets.now word c.args.decision.now.tests.now c.add_first.new.pool _ _ _ (c.in_ok-left.ensures.left word low)
    (rw c.new-out.ensures at c.in_ok-left.ensures.exprs word low) holds

pub returns-in_ok-add_all-in-Some-clause-exprs : goal.returns-in_ok-add_all-in-Some-clause-exprs
returns-in_ok-add_all-in-Some-clause-exprs c word low = rw c.in-Some.is
    (with_rest c.args.book.now c.args.pool.now c.args.self.now.nets.now word c.args.decision.now.tests.now _ (models_under c.add_first.new.book c.add_first.new.pool c.add_first.new.out word) _ _ _ (c.in_ok-left.ensures.left word low)
    (rw c.new-out.ensures at c.in_ok-left.ensures.exprs word low)
    (c.in_ok-add_all-in-Some.ensures.exprs word (subst (λ b. word < 2 ^ b) (sym c.in_ok-left.ensures.book.bits) low)
    ∙ ap (λ l. if has_word c.add_first.new.book c.in_ok-left.left word then l else models_under c.add_first.new.book c.add_first.new.pool c.add_first.new.out word)
    (map_same _ ∙ ap (λ l. models_under c.add_first.new.book c.add_first.new.pool l word) c.routes_of-routes.ensures
    ∙ both_later c.args.book.now c.add_first.new.book c.args.pool.now c.add_first.new.pool c.in_ok-left.ensures.book c.in_ok-left.ensures.pool _ (c.requires.nets.tables _) word)))

pub returns-in_err-left-clause-many : goal.returns-in_err-left-clause-many
returns-in_err-left-clause-many c =
    let p = err_from_is_err_and c.from_residual.result c.from_residual.ensures.1 in
    let many = rw c.new-out.ensures at c.in_err-left.ensures.many in
    rw (p.1, p.2)
    (many_in c.in_err-left.field-0.0 c.add_first.new.book c.add_first.new.pool _ _
    (λ word fits exprs e. part_of_tests c.args.book.now c.args.pool.now c.args.self.now.nets.now word c.args.decision.now.tests.now (has_word c.args.book.now c.args.self.now.controls.now.legal word) _ exprs e)
    many)

pub returns-in_err-add_all-in-Some-clause-many : goal.returns-in_err-add_all-in-Some-clause-many
returns-in_err-add_all-in-Some-clause-many c =
    let p = err_from_is_err_and c.from_residual-in_err-add_all-in-Some.result c.from_residual-in_err-add_all-in-Some.ensures.1 in
    rw (p.1, p.2, c.in-Some.is)
    (many_in c.in_err-add_all-in-Some.field-0.0 c.add_all.new.book c.add_all.new.pool _ _
    (λ word fits exprs e.
    (let low = subst (λ b. word < 2 ^ b) c.in_ok-left.ensures.book.bits (subst (λ b. word < 2 ^ b) c.in_err-add_all-in-Some.ensures.book.bits fits) in
    inr (with_rest c.args.book.now c.args.pool.now c.args.self.now.nets.now word c.args.decision.now.tests.now exprs (models_under c.add_first.new.book c.add_first.new.pool c.add_first.new.out word) _ _ _ (c.in_ok-left.ensures.left word low)
    (rw c.new-out.ensures at c.in_ok-left.ensures.exprs word low)
    (e ∙ ap (λ l. if has_word c.add_first.new.book c.in_ok-left.left word then l else models_under c.add_first.new.book c.add_first.new.pool c.add_first.new.out word)
    (map_same _ ∙ ap (λ l. models_under c.add_first.new.book c.add_first.new.pool l word) c.routes_of-routes.ensures
    ∙ both_later c.args.book.now c.add_first.new.book c.args.pool.now c.add_first.new.pool c.in_ok-left.ensures.book c.in_ok-left.ensures.pool _ (c.requires.nets.tables _) word)))))
    c.in_err-add_all-in-Some.ensures.many)

pub returns-in_err-add_all-in-Some-clause-table : goal.returns-in_err-add_all-in-Some-clause-table
returns-in_err-add_all-in-Some-clause-table c = IfOk-from_err c.from_residual-in_err-add_all-in-Some.result _ c.from_residual-in_err-add_all-in-Some.ensures.0

pub returns-in_err-add_all-in-Some-clause-exprs : goal.returns-in_err-add_all-in-Some-clause-exprs
returns-in_err-add_all-in-Some-clause-exprs c = IfOk-from_err c.from_residual-in_err-add_all-in-Some.result _ c.from_residual-in_err-add_all-in-Some.ensures.0

pub returns-in_err-add_leaf-in-None-clause-table : goal.returns-in_err-add_leaf-in-None-clause-table
returns-in_err-add_leaf-in-None-clause-table c = IfOk-from_err c.from_residual-in_err-add_leaf-in-None.result _ c.from_residual-in_err-add_leaf-in-None.ensures.0

pub returns-in_err-add_leaf-in-None-clause-exprs : goal.returns-in_err-add_leaf-in-None-clause-exprs
returns-in_err-add_leaf-in-None-clause-exprs c = IfOk-from_err c.from_residual-in_err-add_leaf-in-None.result _ c.from_residual-in_err-add_leaf-in-None.ensures.0

pub returns-in_err-left-clause-table : goal.returns-in_err-left-clause-table
returns-in_err-left-clause-table c = IfOk-from_err c.from_residual.result _ c.from_residual.ensures.0

pub returns-in_err-left-clause-exprs : goal.returns-in_err-left-clause-exprs
returns-in_err-left-clause-exprs c = IfOk-from_err c.from_residual.result _ c.from_residual.ensures.0
