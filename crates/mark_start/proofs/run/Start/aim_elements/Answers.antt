use Rattle.std.proofs.Common.{subst, ℕ, List}
use Rattle.form_model.specs.Forms.{aim_destination}
use Rattle.form_model.specs.Trees.{model_of_tree}
use Rattle.form_model.specs.declared.trees.Aim.{Aim}
use Rattle.mark_start.specs.Marked.{GoesIn, IsAddress, ReadsArrays}
use Rattle.std.proofs.lemmas.Result.{on_ok_weaker}
use Rattle.mark_start.proofs.Learning.{gathered_as, gathered_on}
use Rattle.mark_start.proofs.run.Start.aim_elements.Goals as goal

pub returns-in_ok-elements-in-Store : goal.returns-in_ok-elements-in-Store
returns-in_ok-elements-in-Store c =
    let seg = c.args.self.now in
    let spots = seg.from.now.spots in
    let t0 = c.args.table.now in
    let r0 = c.args.run.now in
    let tree = model_of_tree c.in-Store.addr in
    let first = λ (now : List ℕ). ReadsArrays spots now tree in
    let second = λ (now : List ℕ). IsAddress spots now tree in
    on_ok_weaker c.element.result
    (λ h. gathered_as seg (λ now. first now × second now) (λ now. GoesIn spots now (aim_destination c.args.aim.now)) t0 c.element.new.table r0 c.element.new.run
    (λ now q. subst (λ (a : Aim). GoesIn spots now (aim_destination a)) c.in-Store.is q)
    (gathered_on seg first second t0 c.elements.new.table c.element.new.table r0 c.elements.new.run c.element.new.run c.in_ok-elements-in-Store.ensures h)) c.element.ensures
