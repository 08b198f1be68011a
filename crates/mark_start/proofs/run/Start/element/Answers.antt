use Rattle.std.proofs.Common.{List, subst, sym}
use Rattle.mark_start.specs.declared.hints.Spot.{Spot}
use Rattle.mark_start.specs.Marked.{IsInArrayAt}
use Rattle.form_model.specs.Trees.{model_of_tree}
use Rattle.sym_run.proofs.Walking.{answer_of}
use Rattle.mark_start.specs.Runs.{IsTreeOf}
use Rattle.mark_start.proofs.Learning.{element_gathered, gathered_none}
use Rattle.mark_start.proofs.run.Start.element.Goals as goal

pub returns-in_ok-push-2 : goal.returns-in_ok-push-2
returns-in_ok-push-2 c =
    let t = c.tree.new.table in
    let is = answer_of (IsTreeOf c.args.table.now t c.args.run.now (model_of_tree c.args.addr.now)) c.in_ok-found.found c.in-Some.class c.in-Some.is c.in_ok-found.ensures.is in
    element_gathered c.args.self.now c.args.addr.now (c.is_literal.ensures c.if-is_literal.false) c.args.table.now t c.in_ok-found.ensures.grows c.args.run.now c.in-Some.class c.first_in-first.result c.end_of.result
    c.push.new.self c.push-in-Some.new.self is c.first_in-first.ensures (λ a h. c.end_of.ensures a (subst (λ (spots : List Spot). IsInArrayAt spots c.first_in-first.result a) (sym c.as_slice.ensures) h)) c.in_ok-push.ensures.pushed c.in_ok-push-2.ensures.pushed

pub returns-in_default : goal.returns-in_default
returns-in_default c = gathered_none c.args.self.now _ c.args.table.now c.tree.new.table c.args.run.now c.in_ok-found.ensures.grows
