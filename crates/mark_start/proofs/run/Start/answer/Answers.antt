use Rattle.std.proofs.Common.{subst, sym, ◌∙◌, ◌≡◌}
use Rattle.rec_bits.specs.Operators.{bit_of}
use Rattle.form_model.specs.Trees.{model_of_tree}
use Rattle.src_trees.specs.Seen.{tree_value}
use Rattle.class_values.specs.Values.{Holds}
use Rattle.sym_run.proofs.Walking.{answer_of}
use Rattle.mark_start.specs.Runs.{IsTreeOf}
use Rattle.mark_start.proofs.Learning.{fact_learnt, learnt_none}
use Rattle.mark_start.proofs.run.Start.answer.Goals as goal

pub returns-in_ok-push : goal.returns-in_ok-push
returns-in_ok-push c =
    let t = c.tree.new.table in
    let is = answer_of (IsTreeOf c.args.table.now t c.args.run.now (model_of_tree c.args.tree.now)) c.in_ok-found.found c.in-Some.class c.in-Some.is c.in_ok-found.ensures.is in
    fact_learnt c.args.self.now (λ s cells. tree_value cells (model_of_tree c.args.tree.now) ≡ bit_of c.args.self.now.answer) c.args.table.now t c.in_ok-found.ensures.grows c.args.run.now
    (record { class = c.in-Some.class; number = c.bit.result }) _ c.in_ok-push.ensures.pushed
    (λ s cells memory m h k. subst (Holds t memory c.in-Some.class) (h ∙ sym c.bit.ensures) (is memory cells k.facts k.vars))

pub returns-in_default : goal.returns-in_default
returns-in_default c = learnt_none c.args.self.now _ c.args.table.now c.tree.new.table c.args.run.now c.in_ok-found.ensures.grows
