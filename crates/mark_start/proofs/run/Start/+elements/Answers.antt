use Rattle.std.proofs.Common.{subst, sym, ℕ, List}
use Rattle.form_model.specs.Trees.{model_of_tree}
use Rattle.form_model.specs.declared.trees.Tree.{Tree}
use Rattle.mark_start.specs.Marked.{IsAddress, ReadsArrays}
use Rattle.std.proofs.lemmas.Result.{on_ok_weaker}
use Rattle.mark_start.proofs.Learning.{gathered_as, gathered_on}
use Rattle.mark_start.proofs.run.Start.+elements.Goals as goal

pub returns-in_ok-elements-in-Read : goal.returns-in_ok-elements-in-Read
returns-in_ok-elements-in-Read t c =
    let seg = c.args.self.now in
    let spots = seg.from.now.spots in
    let t0 = c.args.table.now in
    let r0 = c.args.run.now in
    let first = λ (now : List ℕ). ReadsArrays spots now (model_of_tree c.deref.result.now) in
    let second = λ (now : List ℕ). IsAddress spots now (model_of_tree c.deref-in-Read.result.now) in
    on_ok_weaker c.element.result
    (λ h. gathered_as seg (λ now. first now × second now) (λ now. ReadsArrays spots now (model_of_tree c.args.tree.now)) t0 c.element.new.table r0 c.element.new.run
    (λ now q.
    (let x = subst (λ (w : Tree). ReadsArrays spots now (model_of_tree w)) c.in-Read.is q in
    (subst (λ (w : Tree). ReadsArrays spots now (model_of_tree w)) (sym c.deref.ensures) x.0, subst (λ (w : Tree). IsAddress spots now (model_of_tree w)) (sym c.deref-in-Read.ensures) x.1)))
    (gathered_on seg first second t0 c.elements.new.table c.element.new.table r0 c.elements.new.run c.element.new.run c.in_ok-elements-in-Read.ensures h)) c.element.ensures

pub returns-in_ok-elements-in-Bin : goal.returns-in_ok-elements-in-Bin
returns-in_ok-elements-in-Bin t c =
    let seg = c.args.self.now in
    let spots = seg.from.now.spots in
    let t0 = c.args.table.now in
    let r0 = c.args.run.now in
    let first = λ (now : List ℕ). ReadsArrays spots now (model_of_tree c.deref-in-Bin.result.now) in
    let second = λ (now : List ℕ). ReadsArrays spots now (model_of_tree c.deref-in-Bin-2.result.now) in
    on_ok_weaker c.elements-in-Bin-2.result
    (λ h. gathered_as seg (λ now. first now × second now) (λ now. ReadsArrays spots now (model_of_tree c.args.tree.now)) t0 c.elements-in-Bin-2.new.table r0 c.elements-in-Bin-2.new.run
    (λ now q.
    (let x = subst (λ (w : Tree). ReadsArrays spots now (model_of_tree w)) c.in-Bin.is q in
    (subst (λ (w : Tree). ReadsArrays spots now (model_of_tree w)) (sym c.deref-in-Bin.ensures) x.0, subst (λ (w : Tree). ReadsArrays spots now (model_of_tree w)) (sym c.deref-in-Bin-2.ensures) x.1)))
    (gathered_on seg first second t0 c.elements-in-Bin.new.table c.elements-in-Bin-2.new.table r0 c.elements-in-Bin.new.run c.elements-in-Bin-2.new.run c.in_ok-elements-in-Bin.ensures h)) c.elements-in-Bin-2.ensures

pub returns-in-Un : goal.returns-in-Un
returns-in-Un t c =
    let seg = c.args.self.now in
    let spots = seg.from.now.spots in
    on_ok_weaker c.elements-in-Un.result
    (λ h. gathered_as seg (λ now. ReadsArrays spots now (model_of_tree c.deref-in-Un.result.now)) (λ now. ReadsArrays spots now (model_of_tree c.args.tree.now)) c.args.table.now c.elements-in-Un.new.table c.args.run.now c.elements-in-Un.new.run
    (λ now q.
    (let x = subst (λ (w : Tree). ReadsArrays spots now (model_of_tree w)) c.in-Un.is q in
    subst (λ (w : Tree). ReadsArrays spots now (model_of_tree w)) (sym c.deref-in-Un.ensures) x)) h) c.elements-in-Un.ensures

pub returns-in-Slice : goal.returns-in-Slice
returns-in-Slice t c =
    let seg = c.args.self.now in
    let spots = seg.from.now.spots in
    on_ok_weaker c.elements-in-Slice.result
    (λ h. gathered_as seg (λ now. ReadsArrays spots now (model_of_tree c.deref-in-Slice.result.now)) (λ now. ReadsArrays spots now (model_of_tree c.args.tree.now)) c.args.table.now c.elements-in-Slice.new.table c.args.run.now c.elements-in-Slice.new.run
    (λ now q.
    (let x = subst (λ (w : Tree). ReadsArrays spots now (model_of_tree w)) c.in-Slice.is q in
    subst (λ (w : Tree). ReadsArrays spots now (model_of_tree w)) (sym c.deref-in-Slice.ensures) x)) h) c.elements-in-Slice.ensures

pub returns-in-Zext : goal.returns-in-Zext
returns-in-Zext t c =
    let seg = c.args.self.now in
    let spots = seg.from.now.spots in
    on_ok_weaker c.elements-in-Zext.result
    (λ h. gathered_as seg (λ now. ReadsArrays spots now (model_of_tree c.deref-in-Zext.result.now)) (λ now. ReadsArrays spots now (model_of_tree c.args.tree.now)) c.args.table.now c.elements-in-Zext.new.table c.args.run.now c.elements-in-Zext.new.run
    (λ now q.
    (let x = subst (λ (w : Tree). ReadsArrays spots now (model_of_tree w)) c.in-Zext.is q in
    subst (λ (w : Tree). ReadsArrays spots now (model_of_tree w)) (sym c.deref-in-Zext.ensures) x)) h) c.elements-in-Zext.ensures

pub returns-in-Sext : goal.returns-in-Sext
returns-in-Sext t c =
    let seg = c.args.self.now in
    let spots = seg.from.now.spots in
    on_ok_weaker c.elements-in-Sext.result
    (λ h. gathered_as seg (λ now. ReadsArrays spots now (model_of_tree c.deref-in-Sext.result.now)) (λ now. ReadsArrays spots now (model_of_tree c.args.tree.now)) c.args.table.now c.elements-in-Sext.new.table c.args.run.now c.elements-in-Sext.new.run
    (λ now q.
    (let x = subst (λ (w : Tree). ReadsArrays spots now (model_of_tree w)) c.in-Sext.is q in
    subst (λ (w : Tree). ReadsArrays spots now (model_of_tree w)) (sym c.deref-in-Sext.ensures) x)) h) c.elements-in-Sext.ensures
