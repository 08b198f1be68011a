use Rattle.std.proofs.Common.{inr, ◌^◌, ◌<◌, sym, subst, ◌∙◌, arith}
use Rattle.std.proofs.lemmas.Result.{IfErr-weaker, IfOk-weaker}
use Rattle.net_model.specs.Value.{value_of}
use Rattle.net_model.specs.Symbolic.{no_state, is_static}
use Rattle.route_trace.specs.declared.heads.Head.TheVariants.{Same, Read, Un, Slice, Zext, Sext}
use Rattle.route_trace.specs.declared.heads.Binary.TheVariants.{Bin, Cat}
use Rattle.route_trace.proofs.Given.{binary_fit_wide, fit_wide}
use Rattle.route_trace.proofs.Deciders.{selector_sets, selector_few, selector_keys, selector_bit, selected_at, rows_wide, driver_sets, driver_one, enabled_at}
use Rattle.route_trace.proofs.Stopping.{many_in}
use Rattle.route_trace.proofs.tracer.Tracer.net_routes.Goals as goal

pub routes_under-requires-clause-fits : goal.routes_under-requires-clause-fits
routes_under-requires-clause-fits c = fit_wide (Read c.space-space.result c.args.net.now.width) c.args.pool.now _ (c.requires.fits.0, c.requires.fits.1) _ (c.requires.widths.widths _)

pub routes_under-requires-in-Wire-clause-fits : goal.routes_under-requires-in-Wire-clause-fits
routes_under-requires-in-Wire-clause-fits c = fit_wide Same c.args.pool.now _ tt _ (c.requires.widths.widths _)

pub routes_under-requires-in-Un-clause-fits : goal.routes_under-requires-in-Un-clause-fits
routes_under-requires-in-Un-clause-fits c = fit_wide (Un c.in-Un.op) c.args.pool.now _ tt _ (c.requires.widths.widths _)

pub routes_under-requires-in-Slice-clause-fits : goal.routes_under-requires-in-Slice-clause-fits
routes_under-requires-in-Slice-clause-fits c =
    let g = rw c.in-Slice.is at c.requires.fits.2 in
    fit_wide (Slice c.in-Slice.hi c.in-Slice.lo) c.args.pool.now _ (g.1, g.2) _ (c.requires.widths.widths _)

pub routes_under-requires-in-Zext-clause-fits : goal.routes_under-requires-in-Zext-clause-fits
routes_under-requires-in-Zext-clause-fits c =
    let g = rw c.in-Zext.is at c.requires.fits.2 in
    fit_wide (Zext c.args.net.now.width) c.args.pool.now _ (g.1, c.requires.fits.1) _ (c.requires.widths.widths _)

pub routes_under-requires-in-Sext-clause-fits : goal.routes_under-requires-in-Sext-clause-fits
routes_under-requires-in-Sext-clause-fits c =
    let g = rw c.in-Sext.is at c.requires.fits.2 in
    fit_wide (Sext c.args.net.now.width) c.args.pool.now _ (g.1, c.requires.fits.1) _ (c.requires.widths.widths _)

pub routes_over-requires-clause-fits : goal.routes_over-requires-clause-fits
routes_over-requires-clause-fits c =
    let g = rw c.in-Bin.is at c.requires.fits.2 in
    binary_fit_wide (Bin c.in-Bin.op) c.args.pool.now _ _ (λ a e. g.1.1 ∙ sym e) _ _ (c.requires.widths.widths _) (c.requires.widths.widths _)

pub routes_over-requires-in-Cat-clause-fits : goal.routes_over-requires-in-Cat-clause-fits
routes_over-requires-in-Cat-clause-fits c =
    let g = rw c.in-Cat.is at c.requires.fits.2 in
    binary_fit_wide Cat c.args.pool.now _ _ (λ a e. omega (arith, e, g.2, c.requires.fits.1)) _ _ (c.requires.widths.widths _) (c.requires.widths.widths _)

pub case_routes-requires-clause-sets : goal.case_routes-requires-clause-sets
case_routes-requires-clause-sets c = selector_sets c.args.self.now.netlist.now c.args.book.now _ _ (rw c.in-Case.is at c.requires.decided)

pub case_routes-requires-clause-few : goal.case_routes-requires-clause-few
case_routes-requires-clause-few c = selector_few c.args.self.now.netlist.now c.requires.typed c.args.book.now _ _ (rw c.in-Case.is at c.requires.decided)

pub case_routes-requires-clause-keys : goal.case_routes-requires-clause-keys
case_routes-requires-clause-keys c some =
    let g = rw c.in-Case.is at c.requires.fits.2 in
    rw c.as_slice-rows.ensures
    (selector_keys c.args.self.now.netlist.now c.args.book.now _ _ (rw c.in-Case.is at c.requires.decided) some c.args.net.now.width c.in-Case.rows g.1)

pub case_routes-requires-clause-bit : goal.case_routes-requires-clause-bit
case_routes-requires-clause-bit c none =
    let g = rw c.in-Case.is at c.requires.fits.2 in
    selector_bit c.args.self.now.netlist.now c.requires.typed c.args.book.now c.args.pool.now c.args.self.now.nets.now c.requires.widths _ c.in-Case.sel g.0 (rw c.in-Case.is at c.requires.decided) none

pub case_routes-requires-clause-wide : goal.case_routes-requires-clause-wide
case_routes-requires-clause-wide c =
    let g = rw c.in-Case.is at c.requires.fits.2 in
    rw c.as_slice-rows.ensures
    (rows_wide c.args.self.now.netlist.now c.args.pool.now c.args.self.now.nets.now c.requires.widths _ c.args.net.now.width c.in-Case.rows c.in-Case.rest g.1 g.2)

pub returns-in-Case-clause-exprs : goal.returns-in-Case-clause-exprs
returns-in-Case-clause-exprs c =
    IfOk-weaker c.case_routes.result _ _
    (λ out made t word fits given. rw c.in-Case.is
    (made t (value_of c.args.self.now.netlist.now no_state word) (is_static c.args.self.now.netlist.now) word fits (rw c.in-Case.is at given)
    (selected_at c.args.self.now.netlist.now c.requires.typed c.args.book.now _ c.in-Case.sel word (rw c.in-Case.is at c.requires.fits.2).0 fits (rw c.in-Case.is at c.requires.decided))))
    (rw c.as_slice-rows.ensures at c.case_routes.ensures.exprs)

pub returns-in-Case-clause-many : goal.returns-in-Case-clause-many
returns-in-Case-clause-many c =
    rw c.in-Case.is
    (IfErr-weaker c.case_routes.result _ _
    (λ stop many. many_in stop c.case_routes.new.book c.case_routes.new.pool _ _
    (λ word fits exprs made. inr (λ t given.
    made t (value_of c.args.self.now.netlist.now no_state word) (is_static c.args.self.now.netlist.now) given
    (selected_at c.args.self.now.netlist.now c.requires.typed c.args.book.now _ c.in-Case.sel word (rw c.in-Case.is at c.requires.fits.2).0 (subst (λ b. word < 2 ^ b) c.case_routes.ensures.book.bits fits) (rw c.in-Case.is at c.requires.decided))))
    many)
    (rw c.as_slice-rows.ensures at c.case_routes.ensures.many))

pub bus_routes-requires-clause-sets : goal.bus_routes-requires-clause-sets
bus_routes-requires-clause-sets c = rw c.as_slice.ensures (driver_sets c.args.self.now.netlist.now c.args.book.now _ _ (rw c.in-Bus.is at c.requires.decided))

pub bus_routes-requires-clause-one : goal.bus_routes-requires-clause-one
bus_routes-requires-clause-one c =
    let g = rw c.in-Bus.is at c.requires.fits.2 in
    rw c.as_slice.ensures (driver_one c.args.self.now.netlist.now c.args.book.now _ c.args.net.now.width _ g (rw c.in-Bus.is at c.requires.decided))

pub returns-in-Bus-clause-exprs : goal.returns-in-Bus-clause-exprs
returns-in-Bus-clause-exprs c =
    IfOk-weaker c.bus_routes.result _ _
    (λ out made t word fits given. rw c.in-Bus.is
    (made t (value_of c.args.self.now.netlist.now no_state word) word fits (rw c.in-Bus.is at given) (enabled_at c.args.self.now.netlist.now c.args.book.now _ word fits _ (rw c.in-Bus.is at c.requires.decided))))
    (rw c.as_slice.ensures at c.bus_routes.ensures.exprs)

pub returns-in-Bus-clause-many : goal.returns-in-Bus-clause-many
returns-in-Bus-clause-many c =
    rw c.in-Bus.is
    (IfErr-weaker c.bus_routes.result _ _
    (λ stop many. many_in stop c.bus_routes.new.book c.bus_routes.new.pool _ _
    (λ word fits exprs made. inr (λ t given.
    made t (value_of c.args.self.now.netlist.now no_state word) given
    (enabled_at c.args.self.now.netlist.now c.args.book.now _ word (subst (λ b. word < 2 ^ b) c.bus_routes.ensures.book.bits fits) _ (rw c.in-Bus.is at c.requires.decided))))
    many)
    (rw c.as_slice.ensures at c.bus_routes.ensures.many))

pub returns-in-Word-clause-many : goal.returns-in-Word-clause-many
returns-in-Word-clause-many c = IfErr-weaker c.routes_of_leaf.result _ _ (λ stop is. rw is tt) c.routes_of_leaf.ensures.few

pub returns-in-Reg-clause-many : goal.returns-in-Reg-clause-many
returns-in-Reg-clause-many c = IfErr-weaker c.routes_of_leaf-in-Reg.result _ _ (λ stop is. rw is tt) c.routes_of_leaf-in-Reg.ensures.few

pub returns-in-Const-clause-many : goal.returns-in-Const-clause-many
returns-in-Const-clause-many c = IfErr-weaker c.routes_of_leaf-in-Const.result _ _ (λ stop is. rw is tt) c.routes_of_leaf-in-Const.ensures.few
