use Rattle.std.proofs.Common.{inr}
use Rattle.std.proofs.lemmas.Result.{IfErr-weaker, IfOk-from_err, IfOk-weaker}
use Rattle.route_trace.proofs.Given.{given_bus}
use Rattle.route_trace.proofs.Selecting.{drivers_valued}
use Rattle.route_trace.proofs.Stopping.{many_in}
use Rattle.route_trace.proofs.tracer.Tracer.bus_routes.Goals as goal

pub returns-clause-exprs : goal.returns-clause-exprs
returns-clause-exprs c =
    IfOk-weaker c.routes_of_first.result _ _
    (λ out made t u word fits given enabled.
    given_bus c.args.book.now c.args.pool.now c.args.self.now.nets.now c.args.self.now.controls.now.legal t word c.args.width u c.in_ok-tests.tests c.args.drivers.now
    (drivers_valued c.args.book.now c.args.self.now.controls.now.bits word u c.in_ok-tests.tests c.args.drivers.now enabled (c.in_ok-tests.ensures.tests word)) given _
    (made word fits))
    (rw c.as_slice.ensures at c.routes_of_first.ensures.exprs)

pub returns-clause-many : goal.returns-clause-many
returns-clause-many c =
    IfErr-weaker c.routes_of_first.result _ _
    (λ stop many. many_in stop c.routes_of_first.new.book c.routes_of_first.new.pool _ _
    (λ word fits exprs e. inr (λ t u given enabled.
    given_bus c.args.book.now c.args.pool.now c.args.self.now.nets.now c.args.self.now.controls.now.legal t word c.args.width u c.in_ok-tests.tests c.args.drivers.now
    (drivers_valued c.args.book.now c.args.self.now.controls.now.bits word u c.in_ok-tests.tests c.args.drivers.now enabled (c.in_ok-tests.ensures.tests word)) given exprs e))
    many)
    (rw c.as_slice.ensures at c.routes_of_first.ensures.many)

pub returns-in_err-tests-clause-table : goal.returns-in_err-tests-clause-table
returns-in_err-tests-clause-table c = IfOk-from_err c.from_residual.result _ c.from_residual.ensures.0

pub returns-in_err-tests-clause-exprs : goal.returns-in_err-tests-clause-exprs
returns-in_err-tests-clause-exprs c = IfOk-from_err c.from_residual.result _ c.from_residual.ensures.0
