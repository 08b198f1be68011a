use Rattle.std.proofs.Common.{◌≡◌, ◌+◌, sym, subst}
use Rattle.std.proofs.lemmas.Bool.{OnFalse_at, OnTrue_at}
use Rattle.form_model.specs.Trees.{model_of_tree}
use Rattle.tree_sharing.specs.Sharing.{exprs_at}
use Rattle.cover_lacks.specs.Inner.Flags.{IsFlagged}
use Rattle.cover_lacks.specs.Inner.Listed.{ListedBelow}
use Rattle.cover_lacks.proofs.ListedLemmas.{index_expr, listed_more, listed_skip, exprs_push}
use Rattle.cover_lacks.proofs.listed.add_listed.Goals as goal

pub returns-then-not-is_first : goal.returns-then-not-is_first
returns-then-not-is_first c =
    listed_skip (exprs_at c.args.nodes.now) c.args.flags.now c.args.n (exprs_at c.args.list.now.items) c.requires.listed
    (λ t here first flag. OnFalse_at c.if-not-is_first.true c.is_first.ensures.no t here first)

pub returns-in_ok-push : goal.returns-in_ok-push
returns-in_ok-push c =
    let nodes = c.args.nodes.now in
    let flags = c.args.flags.now in
    let old = exprs_at c.args.list.now.items in
    let a = model_of_tree c.index-nodes-n.result.now in
    let x = c.index-nodes-n-then-is_flagged.result in
    let here = index_expr nodes c.args.n c.index-nodes-n.result c.requires.n c.index-nodes-n.is in
    let there = index_expr nodes c.args.n x c.requires.n c.index-nodes-n-then-is_flagged.is in
    let same : a ≡ model_of_tree x.now = cc in
    subst (ListedBelow (exprs_at nodes) flags (c.args.n + 1)) (sym (exprs_push c.args.list.now.items c.push.new.self.items x c.in_ok-push.ensures.items))
    (listed_more (exprs_at nodes) flags c.args.n old (model_of_tree x.now) c.requires.listed
    (OnTrue_at c.if-not-is_first.false c.is_first.ensures.yes (model_of_tree x.now) there)
    (subst (IsFlagged (exprs_at nodes) flags) same (OnTrue_at c.if-is_flagged.true c.is_flagged.ensures.yes)))

pub returns-else-is_flagged : goal.returns-else-is_flagged
returns-else-is_flagged c =
    let nodes = c.args.nodes.now in
    let flags = c.args.flags.now in
    let a = model_of_tree c.index-nodes-n.result.now in
    let at = index_expr nodes c.args.n c.index-nodes-n.result c.requires.n c.index-nodes-n.is in
    listed_skip (exprs_at nodes) flags c.args.n (exprs_at c.args.list.now.items) c.requires.listed
    (λ t here first flag. (let same : t ≡ a = cc in OnFalse_at c.if-is_flagged.false c.is_flagged.ensures.no (subst (IsFlagged (exprs_at nodes) flags) same flag)))
