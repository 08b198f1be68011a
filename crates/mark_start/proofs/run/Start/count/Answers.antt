use Rattle.std.proofs.Common.{subst}
use Rattle.class_values.specs.Values.{IsNumber}
use Rattle.sym_run.proofs.Walking.{answer_of}
use Rattle.mark_start.proofs.Learning.{counter_learnt, learnt_none}
use Rattle.mark_start.proofs.run.Start.count.Goals as goal

pub returns-in-Some : goal.returns-in-Some
returns-in-Some c =
    counter_learnt c.args.self.now c.args.table.now c.number.new.table c.in_ok-found.ensures.grows c.args.run.now c.tell_reg.new.known c.args.self.now.counter_width c.in-Some.class
    (subst (λ a. IsNumber c.number.new.table c.args.self.now.counter_width a c.in-Some.class) c.from.ensures
    (answer_of (λ n. IsNumber c.number.new.table c.args.self.now.counter_width c.from.result n) c.in_ok-found.found c.in-Some.class c.in-Some.is c.in_ok-found.ensures.is))
    c.tell_reg.ensures.cells c.tell_reg.ensures.told

pub returns-in_default : goal.returns-in_default
returns-in_default c = learnt_none c.args.self.now _ c.args.table.now c.number.new.table c.args.run.now c.in_ok-found.ensures.grows
