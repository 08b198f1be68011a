-- What a pool keeps beside each node: the width and the size of its expression.
use Rattle.std.specs.Prelude.{ℕ, ◌≡◌, List, Some, slice_get}
use Rattle.std.specs.Map.{keys_of, values_of}
use Rattle.net_model.specs.Exprs.{ExprModel, size_of, expr_width}
use Rattle.sym_expr.specs.declared.pool.Node.{Node}
use Rattle.sym_expr.specs.declared.pool.Measure.{Measure}
use Rattle.rec_bits.specs.Counts.{capped}
use Rattle.sym_expr.specs.Pools.{IsPool, expr_of_id}

pub record IsMeasure (expr : ExprModel) (m : Measure) : Type 0 where
  pub width : m.width ≡ expr_width expr
  pub size : m.size ≡ capped (size_of expr)

-- the nodes are a pool's, and beside each stands its expression's measure
pub record IsMeasuredPool (entries : List (Node × Measure)) : Type 0 where
  pub pool : IsPool (keys_of entries)
  pub measures : (id : ℕ) (m : Measure) → slice_get (values_of entries) id ≡ Some m →
      IsMeasure (expr_of_id (keys_of entries) id) m
