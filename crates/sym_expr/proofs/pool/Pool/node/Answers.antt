use Rattle.std.proofs.Common.{◌≡◌, ◌<◌, List, length, slice_get, Some, sym, subst, ◌∙◌}
use Rattle.std.specs.List.{slice_index_or}
use Rattle.std.specs.Map.{keys_of}
use Rattle.std.proofs.lemmas.Option.{slice_get-get_or}
use Rattle.sym_expr.specs.declared.pool.Node.{Node}
use Rattle.sym_expr.specs.declared.pool.Node.TheVariants.{Word}
use Rattle.sym_expr.specs.Pools.{ExprFits, expr_of_id, node_expr}
use Rattle.sym_expr.proofs.Trees.{expr_of_id-node}
use Rattle.sym_expr.proofs.pool.Pool.node.Goals as goal

shown : (c : goal.After-result-1) → c.as_slice.result.now ≡ keys_of c.self.inside.nodes.entries
shown c = c.as_slice.ensures ∙ c.keys.ensures.rest

within : (c : goal.After-result-1) → c.args.id < length (keys_of c.self.inside.nodes.entries)
within c = subst (λ (l : List Node). c.args.id < length l) (sym c.self.view_is) c.requires

at : (c : goal.After-result-1) → slice_get (keys_of c.self.inside.nodes.entries) c.args.id ≡ Some (slice_index_or (keys_of c.self.inside.nodes.entries) c.args.id (Word 0))
at c = slice_get-get_or (keys_of c.self.inside.nodes.entries) c.args.id (Word 0) (within c)

expr : (c : goal.After-result-1) → expr_of_id (keys_of c.self.inside.nodes.entries) c.args.id ≡ node_expr (slice_index_or (keys_of c.self.inside.nodes.entries) c.args.id (Word 0)) (expr_of_id (keys_of c.self.inside.nodes.entries))
expr c = expr_of_id-node (keys_of c.self.inside.nodes.entries) c.args.id _ (at c) (c.self.invariant.pool.below c.args.id _ (at c))

pub returns-clause-expr : goal.returns-clause-expr
returns-clause-expr c = rw (shown c, ← c.self.view_is) (expr c)

pub returns-clause-below : goal.returns-clause-below
returns-clause-below c = rw (shown c) (c.self.invariant.pool.below c.args.id _ (at c))

pub returns-clause-fits : goal.returns-clause-fits
returns-clause-fits c = rw (shown c, ← c.self.view_is) (subst ExprFits (expr c) (c.self.invariant.pool.fits c.args.id (within c)))
