-- The ids of nets in a pool.
use Rattle.std.specs.Prelude.{ℕ, ◌≡◌, ◌<◌, List, length, slice_index}
use Rattle.net_model.specs.declared.hardware.Netlist.{Netlist}
use Rattle.net_model.specs.Symbolic.{sym_of}
use Rattle.sym_expr.specs.declared.pool.Node.{Node}
use Rattle.sym_expr.specs.Pools.{expr_of_id}

-- an id of the pool for each net, whose expression is the net's symbolic value
pub record AreIds (netlist : Netlist) (word : ℕ) (nodes : List Node) (ids : List ℕ) : Type 0 where
  pub long : length ids ≡ length netlist.nets
  pub within : (n : ℕ) → n < length netlist.nets → slice_index ids n < length nodes
  pub exprs : (n : ℕ) → n < length netlist.nets → expr_of_id nodes (slice_index ids n) ≡ sym_of netlist word n
