use Rattle.std.proofs.Common.{arith}
use Rattle.std.proofs.lemmas.Result.{on_ok_weaker}
use Rattle.class_values.proofs.Keeping.{grows_same}
use Rattle.segment.proofs.Copying.{told_none, told_on}
use Rattle.segment.proofs.run.Segment.+tell_test.Goals as goal

pub returns-in_default : goal.returns-in_default
returns-in_default t c = told_none c.args.table.now c.args.table.now c.args.run.now (grows_same c.args.table.now)

pub returns-in_default-fact_at : goal.returns-in_default-fact_at
returns-in_default-fact_at t c = told_none c.args.table.now c.args.table.now c.args.run.now (grows_same c.args.table.now)

pub tell_test-requires : goal.tell_test-requires
tell_test-requires t c = omega (arith, c.requires, c.in_ok-tell_by.ensures.grows.longer)

pub returns : goal.returns
returns t c =
    on_ok_weaker c.tell_test.result
    (λ h. told_on c.args.table.now c.tell_by.new.table c.tell_test.new.table c.args.run.now c.tell_by.new.run c.tell_test.new.run c.in_ok-tell_by.ensures h) c.tell_test.ensures
