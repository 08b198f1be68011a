use Rattle.std.proofs.lemmas.Bool.{OnFalse_at, OnTrue_at}
use Rattle.std.proofs.Common.{◌<◌, arith, length}
use Rattle.form_model.specs.Trees.{model_of_tree}
use Rattle.tree_sharing.specs.Sharing.{exprs_at}
use Rattle.cover_lacks.proofs.ListedLemmas.{first_at, index_expr, none_more, not_first}
use Rattle.cover_lacks.proofs.listed.is_first.Goals as goal

pub returns-then-is_same-clause-no : goal.returns-then-is_same-clause-no
returns-then-is_same-clause-no c =
    let nodes = c.args.nodes.now in
    let a = c.index-nodes-m.result in
    let b = c.index-nodes-n.result in
    let lt : c.loop-m.m < length nodes = omega (arith, c.loop-m-test.true, c.requires) in
    not_first (exprs_at nodes) c.loop-m.m c.args.n (model_of_tree a.now) (model_of_tree b.now) (index_expr nodes c.loop-m.m a lt c.index-nodes-m.is) (index_expr nodes c.args.n b c.requires c.index-nodes-n.is)
    (OnTrue_at c.if-is_same.true c.is_same.ensures.yes) c.loop-m-test.true

pub loop-m-preserved : goal.loop-m-preserved
loop-m-preserved c =
    let nodes = c.args.nodes.now in
    let a = c.index-nodes-m.result in
    let b = c.index-nodes-n.result in
    let lt : c.loop-m.m < length nodes = omega (arith, c.loop-m-test.true, c.requires) in
    none_more (exprs_at nodes) c.loop-m.m c.args.n (model_of_tree a.now) (model_of_tree b.now) (index_expr nodes c.loop-m.m a lt c.index-nodes-m.is) (index_expr nodes c.args.n b c.requires c.index-nodes-n.is)
    (OnFalse_at c.if-is_same.false c.is_same.ensures.no) c.loop-m.invariant

pub returns-clause-yes : goal.returns-clause-yes
returns-clause-yes c = first_at (exprs_at c.args.nodes.now) c.args.n c.loop-m.m c.loop-m-test.false c.loop-m.invariant
