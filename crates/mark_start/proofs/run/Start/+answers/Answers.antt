use Rattle.std.proofs.Common.{◌≡◌, ℕ, List, map, subst}
use Rattle.net_model.specs.declared.states.State.{State}
use Rattle.rec_bits.specs.Operators.{bit_of}
use Rattle.form_model.specs.Trees.{model_of_tree}
use Rattle.form_model.specs.declared.trees.Tree.{Tree}
use Rattle.src_trees.specs.Doing.{AllAre}
use Rattle.src_trees.specs.Seen.{tree_value}
use Rattle.std.proofs.lemmas.Result.{on_ok_weaker}
use Rattle.mark_start.proofs.Learning.{learnt_as, learnt_on}
use Rattle.mark_start.proofs.run.Start.+answers.Goals as goal

pub returns : goal.returns
returns t c =
    let seg = c.args.self.now in
    let t0 = c.args.table.now in
    let r0 = c.args.run.now in
    let first = λ (s : State) (cells : List ℕ). tree_value cells (model_of_tree c.in-Some.tree.now) ≡ bit_of seg.answer in
    let second = λ (s : State) (cells : List ℕ). AllAre (bit_of seg.answer) cells (map model_of_tree c.in-Some.rest.now) in
    on_ok_weaker c.answers.result
    (λ h. learnt_as seg (λ s cells. first s cells × second s cells) (λ s cells. AllAre (bit_of seg.answer) cells (map model_of_tree c.args.trees.now)) t0 c.answers.new.table r0 c.answers.new.run
    (λ s cells q. subst (λ (xs : List Tree). AllAre (bit_of seg.answer) cells (map model_of_tree xs)) c.in-Some.ensures.cases.0 q)
    (learnt_on seg first second t0 c.answer.new.table c.answers.new.table r0 c.answer.new.run c.answers.new.run c.in_ok-answer.ensures h)) c.answers.ensures
