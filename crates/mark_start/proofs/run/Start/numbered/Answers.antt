use Rattle.std.proofs.Common.{List, ◌∙◌, ap, slice_index, subst, sym}
use Rattle.tree_laws.specs.Equal.{memory_alone}
use Rattle.class_values.specs.declared.facts.Fact.{Fact}
use Rattle.class_values.specs.Values.{AreFacts, Holds}
use Rattle.sym_run.proofs.Walking.{answer_of}
use Rattle.mark_start.specs.Marked.{IsNumbered}
use Rattle.mark_start.specs.Runs.{IsInCell}
use Rattle.mark_start.proofs.Learning.{fact_learnt, learnt_none}
use Rattle.mark_start.proofs.run.Start.numbered.Goals as goal

pub returns-in_ok-push : goal.returns-in_ok-push
returns-in_ok-push c =
    let t0 = c.args.table.now in
    let t = c.in_cell.new.table in
    let is = answer_of (IsInCell t0 t c.as_slice-facts.result.now c.args.run.now.vars c.from.result) c.in_ok-found.found c.in-Some.class c.in-Some.is c.in_ok-found.ensures.is in
    fact_learnt c.args.self.now (λ s cells. IsNumbered c.args.one cells) t0 t c.in_ok-found.ensures.grows c.args.run.now (record { class = c.in-Some.class; number = c.args.one.number }) _ c.in_ok-push.ensures.pushed
    (λ s cells memory m h k.
    subst (Holds t memory c.in-Some.class) (ap (slice_index cells) c.from.ensures ∙ h) (is memory (memory_alone cells) (subst (λ (fs : List Fact). AreFacts t0 memory fs) (sym c.as_slice-facts.ensures) k.facts) k.vars))

pub returns-in_default : goal.returns-in_default
returns-in_default c = learnt_none c.args.self.now _ c.args.table.now c.in_cell.new.table c.args.run.now c.in_ok-found.ensures.grows
