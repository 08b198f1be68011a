use Rattle.std.proofs.Common.{List, ap, map, subst}
use Rattle.rec_bits.specs.Operators.{bit_of}
use Rattle.form_model.specs.Trees.{model_of_tree}
use Rattle.form_model.specs.declared.trees.Tree.{Tree}
use Rattle.src_trees.specs.Doing.{AllAre}
use Rattle.src_trees.specs.Jobs.{model_of_job}
use Rattle.segment.specs.Runs.{IsAgreed}
use Rattle.segment.proofs.Leading.{admitted}
use Rattle.segment.proofs.run.Segment.admits.Goals as goal

pub returns-clause-learnt : goal.returns-clause-learnt
returns-clause-learnt c e =
    let seg = c.args.self.now in
    admitted seg (model_of_job c.args.job.now) (map model_of_tree c.as_slice-2.result.now) (ap (map model_of_tree) c.as_slice-2.ensures.value) c.as_slice-3.result.now c.as_slice-3.ensures
    c.args.table.now c.are_denied.new.table c.answers.new.table c.holdings.new.table c.args.run.now c.answers.new.run c.holdings.new.run
    c.in_ok-are_denied.ensures.grows c.in_ok-answers.ensures c.in_ok-holdings.ensures

pub returns-then-branch-clause-denied : goal.returns-then-branch-clause-denied
returns-then-branch-clause-denied c e =
    let bit = bit_of c.args.self.now.start.answer in
    let run = c.args.run.now in
    let t0 = c.args.table.now in
    let t1 = c.are_denied.new.table in
    subst (λ b. IsAgreed run (λ s now. AllAre bit now (map model_of_tree c.args.job.now.trees.items) → ⊥) t0 t1 b) c.if-branch.true
    (subst (λ (xs : List Tree). IsAgreed run (λ s now. AllAre bit now (map model_of_tree xs) → ⊥) t0 t1 c.in_ok-are_denied.field-0) c.as_slice.ensures.value c.in_ok-are_denied.ensures)
