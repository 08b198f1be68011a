-- What is known of the nets that a gate or a storage names.
use Rattle.std.specs.Prelude.{ℕ, ◌≡◌, ◌<◌, ◌==◌, List, Option, Some, None, length, slice_index, Bool, false}
use Rattle.net_model.specs.declared.hardware.Netlist.{Netlist}
use Rattle.net_model.specs.declared.hardware.Storage.{Storage}
use Rattle.net_model.specs.declared.hardware.Storage.TheVariants.{Register, Memory, File}
use Rattle.net_model.specs.declared.hardware.Cells.{Cells}
use Rattle.net_model.specs.Exprs.{ExprModel, expr_width}
use Rattle.net_model.specs.Nets.{width_at}
use Rattle.sym_expr.specs.declared.pool.Node.{Node}
use Rattle.sym_expr.specs.declared.pool.Node.TheVariants.{Reg, Slice}
use Rattle.sym_expr.specs.Pools.{expr_of_id}

-- the expressions of the nets' ids
abbrev pub net_exprs : List Node → List ℕ → ℕ → ExprModel
net_exprs nodes ids n = expr_of_id nodes (slice_index ids n)

-- the net has an id whose expression has this width
abbrev pub IsWide : List Node → List ℕ → ℕ → ℕ → Type 0
IsWide nodes ids width n = (slice_index ids n < length nodes) × (expr_width (net_exprs nodes ids n) ≡ width)

-- the net has an id whose expression has the net's width
abbrev pub IsKnown : Netlist → List Node → List ℕ → ℕ → Type 0
IsKnown netlist nodes ids n = IsWide nodes ids (width_at netlist n) n

abbrev pub ArrayKnown : List Node → List ℕ → Cells → Type 0
ArrayKnown nodes ids cells =
    (slice_index ids cells.addr < length nodes) × (slice_index ids cells.value < length nodes)

-- the nets that feed the storage have ids
abbrev pub StorageKnown : List Node → List ℕ → Storage → Type 0
StorageKnown nodes ids (Register name width input when) = slice_index ids input < length nodes
StorageKnown nodes ids (Memory cells) = ArrayKnown nodes ids cells
StorageKnown nodes ids (File cells) = ArrayKnown nodes ids cells

-- the operand and the ends of a slice
abbrev pub slice_parts : Node → Option (ℕ × ℕ × ℕ)
slice_parts (Slice a hi lo) = Some (a, hi, lo)
slice_parts _ = None

-- whether a node is this register
abbrev pub is_register_node : Node → ℕ → Bool
is_register_node (Reg r w) id = r == id
is_register_node _ id = false
