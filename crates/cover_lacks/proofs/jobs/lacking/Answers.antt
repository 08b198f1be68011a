use Rattle.std.proofs.Common.{◌≡◌, ◌<◌, ℕ, Bool, Some, arith, ap, length, sym, subst}
use Rattle.std.specs.Prelude.{slice_get, vec_len}
use Rattle.std.specs.Borrow.{Bor}
use Rattle.std.proofs.lemmas.List.{length-map}
use Rattle.std.proofs.lemmas.Result.{IfOk-weaker}
use Rattle.net_model.specs.Exprs.{ExprModel}
use Rattle.form_model.specs.Covers.{stock_with}
use Rattle.form_model.specs.Forms.{aim_destination}
use Rattle.form_model.specs.Trees.{model_of_tree}
use Rattle.form_model.specs.declared.trees.Tree.{Tree}
use Rattle.tree_sharing.specs.Sharing.{exprs_at}
use Rattle.cover.specs.Jobs.{trees_of}
use Rattle.cover_lacks.specs.Lacks.{AreInOrder, AreLacking, IsUncovered}
use Rattle.cover_lacks.specs.Inner.Flags.{IsFlagged}
use Rattle.cover_lacks.proofs.JobLemmas.{job_list, job_some}
use Rattle.cover_lacks.proofs.jobs.lacking.Goals as goal

pub in_order-requires : goal.in_order-requires
in_order-requires c =
    let nodes = c.add_roots.new.list.nodes.items in
    let len = c.in_ok-add_roots.ensures.added.are.len in
    let l = length-map nodes (λ (tree : Bor Tree). model_of_tree tree.now) in
    let a = ap (length {A = Bor Tree}) c.deref.ensures.value in
    let b = ap (length {A = Bool}) c.deref-2.ensures.value in
    omega (arith, len, l, a, b)

pub returns-clause-list : goal.returns-clause-list
returns-clause-list c =
    let stock = stock_with c.args.forms.now.list.items c.args.temps c.args.forms.now.file in
    let job = c.args.job.now in
    let d = aim_destination job.aim in
    let roots = trees_of job.trees.items in
    let nodes = exprs_at c.add_roots.new.list.nodes.items in
    let flags = c.add_roots.new.list.flags.items in
    let n : length job.trees.items ≡ length roots = sym (length-map job.trees.items model_of_tree) in
    IfOk-weaker c.in_order.result _ (λ list. AreLacking stock d roots (exprs_at list.items))
    (λ list order. job_list stock d roots (length job.trees.items) n nodes flags c.in_ok-add_roots.ensures.added (exprs_at list.items)
    (subst (λ f. AreInOrder nodes (IsFlagged nodes f) (exprs_at list.items)) c.deref-2.ensures.value
    (subst (λ ts. AreInOrder (exprs_at ts) (IsFlagged (exprs_at ts) c.deref-2.result.now) (exprs_at list.items)) c.deref.ensures.value order))
    c.in_ok-add_roots.ensures.nodes) c.in_order.ensures

pub returns-clause-some : goal.returns-clause-some
returns-clause-some c =
    let stock = stock_with c.args.forms.now.list.items c.args.temps c.args.forms.now.file in
    let job = c.args.job.now in
    let d = aim_destination job.aim in
    let roots = trees_of job.trees.items in
    let nodes = exprs_at c.add_roots.new.list.nodes.items in
    let flags = c.add_roots.new.list.flags.items in
    let n : length job.trees.items ≡ length roots = sym (length-map job.trees.items model_of_tree) in
    IfOk-weaker c.in_order.result _ (λ list. (which : ℕ) (root : ExprModel) → slice_get roots which ≡ Some root → IsUncovered stock d root → 0 < vec_len list)
    (λ list order which root used none. (let l = length-map list.items (λ (tree : Bor Tree). model_of_tree tree.now) in
    let some = job_some stock d roots (length job.trees.items) n nodes flags c.in_ok-add_roots.ensures.added (exprs_at list.items)
    (subst (λ f. AreInOrder nodes (IsFlagged nodes f) (exprs_at list.items)) c.deref-2.ensures.value
    (subst (λ ts. AreInOrder (exprs_at ts) (IsFlagged (exprs_at ts) c.deref-2.result.now) (exprs_at list.items)) c.deref.ensures.value order)) which root used none in
    omega (arith, l, some, list.ok.0))) c.in_order.ensures
