use Rattle.std.proofs.Common.{◌≡◌, length, arith, subst, sym}
use Rattle.form_model.specs.Trees.{model_of_tree}
use Rattle.least_costs.specs.Matched.{AreFirstMatches}
use Rattle.least_costs.proofs.MatchLemmas.{matches_none, matches_more}
use Rattle.least_costs.proofs.search.Search.matches_of.Goals as goal

pub loop-k-init : goal.loop-k-init
loop-k-init c = subst (AreFirstMatches c.args.self.now (model_of_tree c.args.subtree.tree.now) c.args.subtree.whole 0) (sym c.new-list.ensures.items) (matches_none c.args.self.now (model_of_tree c.args.subtree.tree.now) c.args.subtree.whole c.args.subtree.at c.requires.number)

pub loop-k-preserved : goal.loop-k-preserved
loop-k-preserved c =
    let (found, is, added) = c.in_ok-put_match.ensures in
    matches_more c.args.self.now (model_of_tree c.args.subtree.tree.now) c.args.subtree.whole c.loop-k.k c.loop-k.list.items c.put_match.new.list.items found c.loop-k.invariant is added

pub returns-clause-matches : goal.returns-clause-matches
returns-clause-matches c =
    let n : c.loop-k.k ≡ length c.args.self.now.forms.now = omega (arith, c.loop-k-test.false, c.loop-k.auto.k-end) in
    subst (λ j. AreFirstMatches c.args.self.now (model_of_tree c.args.subtree.tree.now) c.args.subtree.whole j c.loop-k.list.items) n c.loop-k.invariant
