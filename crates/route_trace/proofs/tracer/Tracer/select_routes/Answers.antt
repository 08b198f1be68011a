use Rattle.std.proofs.Common.{◌^◌, ◌<◌, inr, sym, subst}
use Rattle.std.proofs.lemmas.Result.{err_from_is_err_and, IfOk-from_err}
use Rattle.bit_bdd.specs.Diagrams.{Extends}
use Rattle.bit_bdd.proofs.CallerLemmas.{extends_trans, still_within}
use Rattle.sym_expr.specs.Pools.{Grows}
use Rattle.sym_expr.proofs.CallerLemmas.{grows_trans}
use Rattle.transfer_set.specs.Routes.{routes_at}
use Rattle.transfer_set.proofs.Collecting.{held_later}
use Rattle.route_trace.specs.Inner.Routing.{AreTables}
use Rattle.route_trace.proofs.Products.{table_later}
use Rattle.route_trace.proofs.Firsts.{tables_later}
use Rattle.route_trace.proofs.Selecting.{wide_later, target_wide_later, select_fit_wide}
use Rattle.route_trace.proofs.Choosing.{selects_then}
use Rattle.route_trace.proofs.Stopping.{many_in}
use Rattle.route_trace.proofs.tracer.Tracer.select_routes.Goals as goal

later : (c : goal.After-row_routes-arg-4-1) → AreTables c.row_routes.new.book c.row_routes.new.pool c.args.self.now.nets.now
later c = tables_later c.args.book.now c.row_routes.new.book c.args.pool.now c.row_routes.new.pool c.in_ok-ones.ensures.book c.in_ok-ones.ensures.pool c.args.self.now.nets.now c.requires.nets

more : (c : goal.After-selection-1) → Extends c.args.book.now c.row_routes-2.new.book
more c = extends_trans c.args.book.now c.row_routes.new.book c.row_routes-2.new.book c.in_ok-ones.ensures.book c.in_ok-zeros.ensures.book

wider : (c : goal.After-selection-1) → Grows c.args.pool.now c.row_routes-2.new.pool
wider c = grows_trans c.args.pool.now c.row_routes.new.pool c.row_routes-2.new.pool c.in_ok-ones.ensures.pool c.in_ok-zeros.ensures.pool

latest : (c : goal.After-selection-1) → AreTables c.row_routes-2.new.book c.row_routes-2.new.pool c.args.self.now.nets.now
latest c = tables_later c.args.book.now c.row_routes-2.new.book c.args.pool.now c.row_routes-2.new.pool (more c) (wider c) c.args.self.now.nets.now c.requires.nets

pub row_routes-requires-2-clause-legal : goal.row_routes-requires-2-clause-legal
row_routes-requires-2-clause-legal c = still_within c.args.book.now c.row_routes.new.book c.in_ok-ones.ensures.book c.args.self.now.controls.now.legal c.requires.legal

pub returns-in_err-zeros-clause-book : goal.returns-in_err-zeros-clause-book
returns-in_err-zeros-clause-book c = extends_trans c.args.book.now c.row_routes.new.book c.row_routes-2.new.book c.in_ok-ones.ensures.book c.in_err-zeros.ensures.book

pub returns-in_err-zeros-clause-pool : goal.returns-in_err-zeros-clause-pool
returns-in_err-zeros-clause-pool c = grows_trans c.args.pool.now c.row_routes.new.pool c.row_routes-2.new.pool c.in_ok-ones.ensures.pool c.in_err-zeros.ensures.pool

pub add_selects-requires-clause-set : goal.add_selects-requires-clause-set
add_selects-requires-clause-set c = still_within c.args.book.now c.row_routes-2.new.book (more c) c.args.self.now.controls.now.legal c.requires.legal

pub add_selects-requires-clause-second : goal.add_selects-requires-clause-second
add_selects-requires-clause-second c = rw c.as_slice-2.ensures c.in_ok-zeros.ensures.table

pub add_selects-requires-clause-second_one : goal.add_selects-requires-clause-second_one
add_selects-requires-clause-second_one c word fits = rw c.as_slice-2.ensures (c.in_ok-zeros.ensures.one word (subst (λ b. word < 2 ^ b) c.in_ok-zeros.ensures.book.bits fits))

pub returns-in_err-add_selects-clause-book : goal.returns-in_err-add_selects-clause-book
returns-in_err-add_selects-clause-book c = extends_trans c.args.book.now c.row_routes-2.new.book c.add_selects.new.book (extends_trans c.args.book.now c.row_routes.new.book c.row_routes-2.new.book c.in_ok-ones.ensures.book c.in_ok-zeros.ensures.book) c.in_err-add_selects.ensures.book

pub returns-in_err-add_selects-clause-pool : goal.returns-in_err-add_selects-clause-pool
returns-in_err-add_selects-clause-pool c = grows_trans c.args.pool.now c.row_routes-2.new.pool c.add_selects.new.pool (grows_trans c.args.pool.now c.row_routes.new.pool c.row_routes-2.new.pool c.in_ok-ones.ensures.pool c.in_ok-zeros.ensures.pool) c.in_err-add_selects.ensures.pool

pub returns-clause-book : goal.returns-clause-book
returns-clause-book c = extends_trans c.args.book.now c.row_routes-2.new.book c.add_selects.new.book (extends_trans c.args.book.now c.row_routes.new.book c.row_routes-2.new.book c.in_ok-ones.ensures.book c.in_ok-zeros.ensures.book) c.in_ok-add_selects.ensures.book

pub returns-clause-pool : goal.returns-clause-pool
returns-clause-pool c = grows_trans c.args.pool.now c.row_routes-2.new.pool c.add_selects.new.pool (grows_trans c.args.pool.now c.row_routes.new.pool c.row_routes-2.new.pool c.in_ok-ones.ensures.pool c.in_ok-zeros.ensures.pool) c.in_ok-add_selects.ensures.pool

pub row_routes-requires-2-clause-nets : goal.row_routes-requires-2-clause-nets
row_routes-requires-2-clause-nets c = later c

pub row_routes-requires-2-clause-wide : goal.row_routes-requires-2-clause-wide
row_routes-requires-2-clause-wide c =
    target_wide_later c.args.book.now c.args.pool.now c.row_routes.new.pool c.args.self.now.nets.now c.in_ok-ones.ensures.pool c.requires.nets c.args.choice.width c.args.choice.zero c.requires.zero

pub add_selects-requires-clause-choice : goal.add_selects-requires-clause-choice
add_selects-requires-clause-choice c = rw c.routes_of-choices.ensures ((latest c).tables c.args.choice.sel)

pub add_selects-requires-clause-choice_one : goal.add_selects-requires-clause-choice_one
add_selects-requires-clause-choice_one c word fits = rw c.routes_of-choices.ensures ((latest c).one c.args.choice.sel word fits)

pub add_selects-requires-clause-first : goal.add_selects-requires-clause-first
add_selects-requires-clause-first c =
    rw c.as_slice.ensures (table_later c.row_routes.new.book c.row_routes-2.new.book c.row_routes.new.pool c.row_routes-2.new.pool c.in_ok-zeros.ensures.book c.in_ok-zeros.ensures.pool c.in_ok-ones.ones c.in_ok-ones.ensures.table)

pub add_selects-requires-clause-first_one : goal.add_selects-requires-clause-first_one
add_selects-requires-clause-first_one c word fits =
    let e = c.in_ok-zeros.ensures.book in
    let low : word < 2 ^ c.args.book.now.bits = subst (λ b. word < 2 ^ b) (more c).bits fits in
    rw (c.as_slice.ensures, held_later c.row_routes.new.book c.row_routes-2.new.book e c.in_ok-ones.ones c.in_ok-ones.ensures.table.right.sets word) (c.in_ok-ones.ensures.one word low)

pub add_selects-requires-clause-fits : goal.add_selects-requires-clause-fits
add_selects-requires-clause-fits c =
    rw (c.routes_of-choices.ensures, c.as_slice.ensures, c.as_slice-2.ensures)
    (select_fit_wide c.row_routes-2.new.pool c.args.choice.width (routes_at c.args.self.now.nets.now c.args.choice.sel) c.in_ok-ones.ones c.in_ok-zeros.zeros
    (wide_later c.args.pool.now c.row_routes-2.new.pool (wider c) 1 (routes_at c.args.self.now.nets.now c.args.choice.sel) (c.requires.nets.tables c.args.choice.sel).exprs c.requires.bit)
    (wide_later c.row_routes.new.pool c.row_routes-2.new.pool c.in_ok-zeros.ensures.pool c.args.choice.width c.in_ok-ones.ones c.in_ok-ones.ensures.table.exprs c.in_ok-ones.ensures.wide)
    c.in_ok-zeros.ensures.wide)

pub returns-clause-exprs : goal.returns-clause-exprs
returns-clause-exprs c word fits =
    let e : Extends c.args.book.now c.row_routes-2.new.book = extends_trans c.args.book.now c.row_routes.new.book c.row_routes-2.new.book c.in_ok-ones.ensures.book c.in_ok-zeros.ensures.book in
    selects_then c.args.book.now c.row_routes.new.book c.row_routes-2.new.book c.args.pool.now c.row_routes.new.pool c.row_routes-2.new.pool c.in_ok-ones.ensures.book c.in_ok-zeros.ensures.book c.in_ok-ones.ensures.pool c.in_ok-zeros.ensures.pool
    c.args.self.now.nets.now c.requires.nets c.args.self.now.controls.now.legal c.requires.legal c.args.choice.width c.args.choice.sel c.args.choice.one c.args.choice.zero c.in_ok-ones.ones c.in_ok-zeros.zeros c.in_ok-ones.ensures.table word
    (c.in_ok-ones.ensures.exprs word fits) (c.in_ok-zeros.ensures.exprs word (subst (λ b. word < 2 ^ b) (sym c.in_ok-ones.ensures.book.bits) fits)) _
    (rw (c.new-out.ensures, c.routes_of-choices.ensures, c.as_slice.ensures, c.as_slice-2.ensures) at c.in_ok-add_selects.ensures.exprs word (subst (λ b. word < 2 ^ b) (sym e.bits) fits))

pub returns-in_err-add_selects-clause-many : goal.returns-in_err-add_selects-clause-many
returns-in_err-add_selects-clause-many c =
    let e : Extends c.args.book.now c.row_routes-2.new.book = extends_trans c.args.book.now c.row_routes.new.book c.row_routes-2.new.book c.in_ok-ones.ensures.book c.in_ok-zeros.ensures.book in
    let p = err_from_is_err_and c.from_residual-in_err-add_selects.result c.from_residual-in_err-add_selects.ensures.1 in
    let many = rw (c.new-out.ensures, c.routes_of-choices.ensures, c.as_slice.ensures, c.as_slice-2.ensures) at c.in_err-add_selects.ensures.many in
    rw (p.1, p.2)
    (many_in c.in_err-add_selects.field-0.0 c.add_selects.new.book c.add_selects.new.pool _ _
    (λ word fits exprs is.
    (let low = subst (λ b. word < 2 ^ b) e.bits (subst (λ b. word < 2 ^ b) c.in_err-add_selects.ensures.book.bits fits) in
    inr (selects_then c.args.book.now c.row_routes.new.book c.row_routes-2.new.book c.args.pool.now c.row_routes.new.pool c.row_routes-2.new.pool c.in_ok-ones.ensures.book c.in_ok-zeros.ensures.book c.in_ok-ones.ensures.pool c.in_ok-zeros.ensures.pool
    c.args.self.now.nets.now c.requires.nets c.args.self.now.controls.now.legal c.requires.legal c.args.choice.width c.args.choice.sel c.args.choice.one c.args.choice.zero c.in_ok-ones.ones c.in_ok-zeros.zeros c.in_ok-ones.ensures.table word
    (c.in_ok-ones.ensures.exprs word low) (c.in_ok-zeros.ensures.exprs word (subst (λ b. word < 2 ^ b) (sym c.in_ok-ones.ensures.book.bits) low)) exprs is)))
    many)

pub returns-in_err-add_selects-clause-table : goal.returns-in_err-add_selects-clause-table
returns-in_err-add_selects-clause-table c = IfOk-from_err c.from_residual-in_err-add_selects.result _ c.from_residual-in_err-add_selects.ensures.0

pub returns-in_err-add_selects-clause-exprs : goal.returns-in_err-add_selects-clause-exprs
returns-in_err-add_selects-clause-exprs c = IfOk-from_err c.from_residual-in_err-add_selects.result _ c.from_residual-in_err-add_selects.ensures.0

pub returns-in_err-ones-clause-table : goal.returns-in_err-ones-clause-table
returns-in_err-ones-clause-table c = IfOk-from_err c.from_residual.result _ c.from_residual.ensures.0

pub returns-in_err-ones-clause-exprs : goal.returns-in_err-ones-clause-exprs
returns-in_err-ones-clause-exprs c = IfOk-from_err c.from_residual.result _ c.from_residual.ensures.0

pub returns-in_err-zeros-clause-table : goal.returns-in_err-zeros-clause-table
returns-in_err-zeros-clause-table c = IfOk-from_err c.from_residual-in_err-zeros.result _ c.from_residual-in_err-zeros.ensures.0

pub returns-in_err-zeros-clause-exprs : goal.returns-in_err-zeros-clause-exprs
returns-in_err-zeros-clause-exprs c = IfOk-from_err c.from_residual-in_err-zeros.result _ c.from_residual-in_err-zeros.ensures.0
