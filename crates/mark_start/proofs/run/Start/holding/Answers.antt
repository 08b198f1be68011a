use Rattle.std.proofs.Common.{subst, sym}
use Rattle.form_model.specs.Trees.{model_of_tree}
use Rattle.class_values.specs.Values.{Holds}
use Rattle.sym_run.proofs.Walking.{answer_of}
use Rattle.mark_start.specs.Marked.{IsHeld}
use Rattle.mark_start.specs.Runs.{IsTreeOf}
use Rattle.mark_start.proofs.Learning.{learnt_none, machine_learnt}
use Rattle.mark_start.proofs.run.Start.holding.Goals as goal

pub returns-then-holding-len : goal.returns-then-holding-len
returns-then-holding-len c =
    let t = c.tree.new.table in
    let is = answer_of (IsTreeOf c.args.table.now t c.args.run.now (model_of_tree c.args.holding.now.tree)) c.in_ok-found.found c.in-Some.class c.in-Some.is c.in_ok-found.ensures.is in
    machine_learnt c.args.self.now (IsHeld c.args.self.now.pool.now c.args.holding.now) c.args.table.now t c.in_ok-found.ensures.grows c.args.run.now c.learn.new.known
    (c.learn.ensures.arrays c.args.self.now.from.now.spots)
    (λ s cells memory m h k n. c.learn.ensures.told t memory s n (subst (Holds t memory c.in-Some.class) (sym h) (is memory cells k.facts k.vars)))

pub returns-else-holding-len : goal.returns-else-holding-len
returns-else-holding-len c = learnt_none c.args.self.now _ c.args.table.now c.tree.new.table c.args.run.now c.in_ok-found.ensures.grows

pub returns-in_default : goal.returns-in_default
returns-in_default c = learnt_none c.args.self.now _ c.args.table.now c.tree.new.table c.args.run.now c.in_ok-found.ensures.grows
