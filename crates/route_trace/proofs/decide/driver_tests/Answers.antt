use Rattle.std.proofs.lemmas.Result.{IfOk-from_err}
use Rattle.std.proofs.Common.{◌≡◌, ℕ, length, subst}
use Rattle.std.specs.List.{slice_index_or}
use Rattle.std.proofs.lemmas.List.{take_all}
use Rattle.ctl_bdd.specs.Bits.{AreSets, number_at}
use Rattle.route_trace.specs.Inner.Tests.{sets_in}
use Rattle.route_trace.specs.Inner.Gates.{DriverTests}
use Rattle.route_trace.proofs.Deciding.{tests_push, drivers_push, pair_at, enabled, one_in}
use Rattle.route_trace.proofs.decide.driver_tests.Goals as goal

pub loop-driver-preserved : goal.loop-driver-preserved
loop-driver-preserved c =
    let driver = slice_index_or c.args.drivers.now c.loop-driver.driver-index (0, 0) in
    let sets = pair_at (λ (d : ℕ × ℕ). AreSets c.args.book.now (sets_in c.args.controls.now.bits d.1)) c.args.drivers.now c.loop-driver.driver-index c.loop-driver-test.true c.requires.sets in
    let one = pair_at (λ (d : ℕ × ℕ). length (sets_in c.args.controls.now.bits d.1) ≡ 1) c.args.drivers.now c.loop-driver.driver-index c.loop-driver-test.true c.requires.one in
    rw (c.in_ok-push.ensures.pushed, c.sets_of.ensures)
    (record {
      sets = tests_push c.args.book.now c.loop-driver.tests _ driver.0 c.loop-driver.invariant.sets (one_in c.args.book.now (sets_in c.args.controls.now.bits driver.1) one sets);
      tests = λ word. drivers_push c.args.book.now word (λ n. number_at c.args.book.now (sets_in c.args.controls.now.bits n) word) _ c.loop-driver.tests c.args.drivers.now c.loop-driver.driver-index c.loop-driver-test.true
          (c.loop-driver.invariant.tests word) (enabled c.args.book.now (sets_in c.args.controls.now.bits driver.1) word one);
    })

pub returns-clause-tests : goal.returns-clause-tests
returns-clause-tests c word =
    subst (λ drivers. DriverTests c.args.book.now word (λ n. number_at c.args.book.now (sets_in c.args.controls.now.bits n) word) c.loop-driver.tests drivers) (take_all c.loop-driver.driver-index c.args.drivers.now c.loop-driver-test.false) (c.loop-driver.invariant.tests word)

pub returns-in_err-push-clause-sets : goal.returns-in_err-push-clause-sets
returns-in_err-push-clause-sets c = IfOk-from_err c.from_residual.result _ c.from_residual.ensures.0

pub returns-in_err-push-clause-tests : goal.returns-in_err-push-clause-tests
returns-in_err-push-clause-tests c = IfOk-from_err c.from_residual.result _ c.from_residual.ensures.0
