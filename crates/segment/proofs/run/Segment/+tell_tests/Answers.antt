use Rattle.std.proofs.lemmas.Result.{on_ok_weaker}
use Rattle.class_values.proofs.Keeping.{grows_same}
use Rattle.segment.proofs.Copying.{told_none, told_on}
use Rattle.segment.proofs.run.Segment.+tell_tests.Goals as goal

pub returns-in_default : goal.returns-in_default
returns-in_default t c = told_none c.args.table.now c.args.table.now c.args.run.now (grows_same c.args.table.now)

pub returns-then-count-eq0 : goal.returns-then-count-eq0
returns-then-count-eq0 t c = told_none c.args.table.now c.args.table.now c.args.run.now (grows_same c.args.table.now)

pub returns : goal.returns
returns t c =
    on_ok_weaker c.tell_tests-2.result
    (λ h. told_on c.args.table.now c.tell_test.new.table c.tell_tests-2.new.table c.args.run.now c.tell_test.new.run c.tell_tests-2.new.run c.in_ok-tell_test.ensures h) c.tell_tests-2.ensures
