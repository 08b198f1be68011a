use Rattle.std.proofs.Common.{None, Some, refl, subst, rules}
use Rattle.form_model.specs.Trees.{model_of_tree}
use Rattle.least_costs.specs.Matched.{MatchesForm}
use Rattle.least_costs.proofs.search.Search.put_match.Goals as goal

pub returns-in_default : goal.returns-in_default
returns-in_default c = (
  None,
  subst (λ o. MatchesForm c.args.self.now (model_of_tree c.args.subtree.tree.now) c.args.subtree.whole c.args.k o) c.in_default.is c.in_ok-found.ensures,
  refl,
)

pub returns : goal.returns
returns c = (
  Some c.in-Some.found,
  subst (λ o. MatchesForm c.args.self.now (model_of_tree c.args.subtree.tree.now) c.args.subtree.whole c.args.k o) c.in-Some.is c.in_ok-found.ensures,
  search rules,
)
