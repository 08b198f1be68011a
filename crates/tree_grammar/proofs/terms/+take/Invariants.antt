use Rattle.net_model.specs.Exprs.{size_of, model_of_expr}
use Rattle.tree_grammar.proofs.terms.+take.Given as goal

abbrev pub decreases-take : goal.decreases-take
decreases-take l = size_of (model_of_expr l.e.now)
