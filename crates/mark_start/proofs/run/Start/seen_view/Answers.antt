use Rattle.std.proofs.Common.{◌∙◌, ap, slice_index, subst, sym}
use Rattle.sym_expr.specs.Pools.{expr_of_id}
use Rattle.class_values.specs.Values.{Holds}
use Rattle.sym_run.proofs.Walking.{answer_of}
use Rattle.mark_start.specs.Runs.{IsExprOf, IsViewOf}
use Rattle.std.proofs.lemmas.Result.{on_ok_weaker}
use Rattle.mark_start.proofs.Learning.{learnt_after, vars_learnt}
use Rattle.mark_start.proofs.run.Start.seen_view.Goals as goal

pub returns-in_default : goal.returns-in_default
returns-in_default c =
    on_ok_weaker c.kept_view.result
    (learnt_after c.args.self.now (IsViewOf c.args.self.now.pool.now c.args.view c.args.address) c.args.table.now c.expr.new.table c.kept_view.new.table c.args.run.now c.kept_view.new.run c.in_ok-found.ensures.grows)
    c.kept_view.ensures

pub returns : goal.returns
returns c =
    let t0 = c.args.table.now in
    let t = c.expr.new.table in
    let is = answer_of (IsExprOf t0 t c.args.run.now (expr_of_id c.args.self.now.pool.now c.args.view)) c.in_ok-found.found c.in-Some.class c.in-Some.is c.in_ok-found.ensures.is in
    vars_learnt c.args.self.now (IsViewOf c.args.self.now.pool.now c.args.view c.args.address) t0 t c.in_ok-found.ensures.grows c.args.run.now c.tell_var.new.known
    (c.tell_var.ensures.arrays c.args.self.now.from.now.spots)
    (λ s cells memory m h k n. c.tell_var.ensures.told t memory cells n (subst (Holds t memory c.in-Some.class) (h ∙ sym (ap (slice_index cells) c.from.ensures)) (is memory s k.facts k.machine)))
