use Rattle.std.proofs.Common.{inr, ℕ, ◌^◌, ◌<◌, ◌==◌, List, length, ap, sym, subst, ◌∙◌}
use Rattle.std.proofs.lemmas.Result.{IfErr-weaker, IfOk-from_err, IfOk-weaker}
use Rattle.sym_expr.proofs.CallerLemmas.{grows_refl}
use Rattle.route_trace.specs.Inner.Tests.{sets_in}
use Rattle.route_trace.proofs.Choosing.{bit_case, tests_case}
use Rattle.route_trace.proofs.Firsts.{tables_later}
use Rattle.route_trace.proofs.Selecting.{none_there, some_there, target_wide}
use Rattle.route_trace.proofs.Stopping.{many_in}
use Rattle.bit_bdd.proofs.CallerLemmas.{extends_trans, still_within}
use Rattle.route_trace.proofs.tracer.Tracer.case_routes.Goals as goal

pub routes_of_first-requires-clause-legal : goal.routes_of_first-requires-clause-legal
routes_of_first-requires-clause-legal c = still_within c.args.book.now c.row_tests.new.book c.in_ok-tests.ensures.book c.args.self.now.controls.now.legal c.requires.legal

pub routes_of_first-requires-clause-tests : goal.routes_of_first-requires-clause-tests
routes_of_first-requires-clause-tests c = rw c.as_slice.ensures c.in_ok-tests.ensures.sets

pub returns-clause-book : goal.returns-clause-book
returns-clause-book c = extends_trans c.args.book.now c.row_tests.new.book c.routes_of_first.new.book c.in_ok-tests.ensures.book c.routes_of_first.ensures.book

pub select_routes-requires-clause-one : goal.select_routes-requires-clause-one
select_routes-requires-clause-one c = rw c.target_of-one.ensures (target_wide c.args.pool.now c.args.self.now.nets.now c.args.case.now.width _ c.args.case.now.rows.now c.args.case.now.rest c.requires.wide)

pub select_routes-requires-clause-zero : goal.select_routes-requires-clause-zero
select_routes-requires-clause-zero c = rw c.target_of-zero.ensures (target_wide c.args.pool.now c.args.self.now.nets.now c.args.case.now.width _ c.args.case.now.rows.now c.args.case.now.rest c.requires.wide)

pub returns-then-is_empty-clause-exprs : goal.returns-then-is_empty-clause-exprs
returns-then-is_empty-clause-exprs c =
    IfOk-weaker c.select_routes.result _ _
    (λ out made t u f word fits given selected.
    bit_case c.args.book.now c.args.pool.now c.args.self.now.nets.now c.args.self.now.controls.now.legal (sets_in c.args.self.now.controls.now.bits c.args.case.now.sel) c.args.case.now.width c.args.case.now.sel c.args.case.now.rows.now c.args.case.now.rest word
    (none_there (sets_in c.args.self.now.controls.now.bits c.args.case.now.sel) c.is_empty.result (c.is_empty.ensures ∙ ap (λ (l : List ℕ). length l == 0) c.sets_of-bits.ensures) c.if-is_empty.true) _
    (made word fits) t u f given selected)
    (rw (c.target_of-one.ensures, c.target_of-zero.ensures) at c.select_routes.ensures.exprs)

pub returns-then-is_empty-clause-many : goal.returns-then-is_empty-clause-many
returns-then-is_empty-clause-many c =
    IfErr-weaker c.select_routes.result _ _
    (λ stop many. many_in stop c.select_routes.new.book c.select_routes.new.pool _ _
    (λ word fits exprs e. inr (bit_case c.args.book.now c.args.pool.now c.args.self.now.nets.now c.args.self.now.controls.now.legal (sets_in c.args.self.now.controls.now.bits c.args.case.now.sel) c.args.case.now.width c.args.case.now.sel c.args.case.now.rows.now c.args.case.now.rest word
    (none_there (sets_in c.args.self.now.controls.now.bits c.args.case.now.sel) c.is_empty.result (c.is_empty.ensures ∙ ap (λ (l : List ℕ). length l == 0) c.sets_of-bits.ensures) c.if-is_empty.true) exprs e))
    many)
    (rw (c.target_of-one.ensures, c.target_of-zero.ensures) at c.select_routes.ensures.many)

pub row_tests-requires-clause-keys : goal.row_tests-requires-clause-keys
row_tests-requires-clause-keys c =
    rw c.sets_of-bits.ensures
    (c.requires.keys (some_there (sets_in c.args.self.now.controls.now.bits c.args.case.now.sel) c.is_empty.result (c.is_empty.ensures ∙ ap (λ (l : List ℕ). length l == 0) c.sets_of-bits.ensures) c.if-is_empty.false))

pub routes_of_first-requires-clause-nets : goal.routes_of_first-requires-clause-nets
routes_of_first-requires-clause-nets c =
    tables_later c.args.book.now c.row_tests.new.book c.args.pool.now c.args.pool.now c.in_ok-tests.ensures.book (grows_refl c.args.pool.now) c.args.self.now.nets.now c.requires.nets

pub returns-clause-exprs : goal.returns-clause-exprs
returns-clause-exprs c =
    IfOk-weaker c.routes_of_first.result _ _
    (λ out made t u f word fits given selected.
    tests_case c.args.book.now c.args.pool.now c.args.self.now.nets.now c.args.self.now.controls.now.legal (sets_in c.args.self.now.controls.now.bits c.args.case.now.sel) c.args.case.now.width c.args.case.now.sel c.args.case.now.rows.now c.args.case.now.rest word
    c.row_tests.new.book c.in_ok-tests.ensures.book c.requires.nets c.requires.legal c.in_ok-tests.tests (rw c.sets_of-bits.ensures at c.in_ok-tests.ensures.tests word)
    (some_there (sets_in c.args.self.now.controls.now.bits c.args.case.now.sel) c.is_empty.result (c.is_empty.ensures ∙ ap (λ (l : List ℕ). length l == 0) c.sets_of-bits.ensures) c.if-is_empty.false) _
    (made word (subst (λ b. word < 2 ^ b) (sym c.in_ok-tests.ensures.book.bits) fits)) t u f given selected)
    (rw c.as_slice.ensures at c.routes_of_first.ensures.exprs)

pub returns-clause-many : goal.returns-clause-many
returns-clause-many c =
    IfErr-weaker c.routes_of_first.result _ _
    (λ stop many. many_in stop c.routes_of_first.new.book c.routes_of_first.new.pool _ _
    (λ word fits exprs e. inr (tests_case c.args.book.now c.args.pool.now c.args.self.now.nets.now c.args.self.now.controls.now.legal (sets_in c.args.self.now.controls.now.bits c.args.case.now.sel) c.args.case.now.width c.args.case.now.sel c.args.case.now.rows.now c.args.case.now.rest word
    c.row_tests.new.book c.in_ok-tests.ensures.book c.requires.nets c.requires.legal c.in_ok-tests.tests (rw c.sets_of-bits.ensures at c.in_ok-tests.ensures.tests word)
    (some_there (sets_in c.args.self.now.controls.now.bits c.args.case.now.sel) c.is_empty.result (c.is_empty.ensures ∙ ap (λ (l : List ℕ). length l == 0) c.sets_of-bits.ensures) c.if-is_empty.false) exprs e))
    many)
    (rw c.as_slice.ensures at c.routes_of_first.ensures.many)

pub returns-in_err-tests-clause-table : goal.returns-in_err-tests-clause-table
returns-in_err-tests-clause-table c = IfOk-from_err c.from_residual.result _ c.from_residual.ensures.0

pub returns-in_err-tests-clause-exprs : goal.returns-in_err-tests-clause-exprs
returns-in_err-tests-clause-exprs c = IfOk-from_err c.from_residual.result _ c.from_residual.ensures.0
