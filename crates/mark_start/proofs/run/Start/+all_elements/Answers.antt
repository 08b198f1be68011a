use Rattle.std.proofs.Common.{ℕ, List, map, subst}
use Rattle.form_model.specs.Trees.{model_of_tree}
use Rattle.form_model.specs.declared.trees.Tree.{Tree}
use Rattle.mark_start.specs.Marked.{AllReadArrays, ReadsArrays}
use Rattle.std.proofs.lemmas.Result.{on_ok_weaker}
use Rattle.mark_start.proofs.Learning.{gathered_as, gathered_on}
use Rattle.mark_start.proofs.run.Start.+all_elements.Goals as goal

pub returns : goal.returns
returns t c =
    let seg = c.args.self.now in
    let spots = seg.from.now.spots in
    let t0 = c.args.table.now in
    let r0 = c.args.run.now in
    let first = λ (now : List ℕ). ReadsArrays spots now (model_of_tree c.in-Some.tree.now) in
    let second = λ (now : List ℕ). AllReadArrays spots now (map model_of_tree c.in-Some.rest.now) in
    on_ok_weaker c.all_elements.result
    (λ h. gathered_as seg (λ now. first now × second now) (λ now. AllReadArrays spots now (map model_of_tree c.args.trees.now)) t0 c.all_elements.new.table r0 c.all_elements.new.run
    (λ now q. subst (λ (xs : List Tree). AllReadArrays spots now (map model_of_tree xs)) c.in-Some.ensures.cases.0 q)
    (gathered_on seg first second t0 c.elements.new.table c.all_elements.new.table r0 c.elements.new.run c.all_elements.new.run c.in_ok-elements.ensures h)) c.all_elements.ensures
