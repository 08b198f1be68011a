-- What is computed of a candidate's value before its tree is made.
use Rattle.std.specs.Prelude.{ℕ, ◌+◌, ◌<◌, if◌then◌else◌, max, Bool, true, false, List, [], ◌∷◌, map, length}
use Rattle.std.specs.List.{AllByRecursion}
use Rattle.net_model.specs.declared.hardware.Netlist.{Netlist}
use Rattle.net_model.specs.Exprs.{ExprModel, word, reg, const, read, un, bin, slice, cat, zext, sext, select, expr_width}
use Rattle.src_model.specs.Sizes.{is_word}
use Rattle.form_model.specs.Shapes.{is_field}
use Rattle.sym_expr.specs.declared.pool.Node.{Node}
use Rattle.sym_expr.specs.Pools.{expr_of_id}
use Rattle.transfer_set.specs.TextMarks.{IsExprOf}
use Rattle.transfer_set.specs.Entries.{IsAddrKnown, ids_transfer}
use Rattle.transfer_set.specs.declared.row.Row.{Row}
use Rattle.net_model.specs.Patterns.{Pattern}
use Rattle.self_test.specs.declared.select.Ids.{Ids}

-- a register or a read, in whose place a cell stands
abbrev pub is_operand : ExprModel → Bool
is_operand (reg r w) = true
is_operand (read space a w) = true
is_operand _ = false

-- the nodes of a tree from a node on, by those below it
abbrev pub node : ℕ → ExprModel → ℕ → ℕ
node w t below = if is_operand t then 0 else is_word w (expr_width t) + below

-- the nodes of this width below the root of the tree that a value has
abbrev pub inner : ℕ → ExprModel → ℕ
inner w (word v) = 0
inner w (reg r v) = 0
inner w (const v n) = 0
inner w (read space a v) = 0
inner w (un o a) = node w a (inner w a)
inner w (bin o a b) = node w a (inner w a) + node w b (inner w b)
inner w (slice a hi lo) = if is_field (slice a hi lo) then 0 else node w a (inner w a)
inner w (cat a b) = 0
inner w (zext a v) = if is_field a then 0 else node w a (inner w a)
inner w (sext a v) = if is_field a then 0 else node w a (inner w a)
inner w (select c a b) = 0

abbrev pub greatest_inner : ℕ → List ExprModel → ℕ
greatest_inner w [] = 0
greatest_inner w (t ∷ ts) = max (inner w t) (greatest_inner w ts)

-- an expression of the pool, over what the netlist has
abbrev pub IsKnown : Netlist → List Node → ℕ → Type 0
IsKnown netlist pool id = (id < length pool) × IsExprOf netlist (expr_of_id pool id)

abbrev pub AreKnown : Netlist → List Node → List ℕ → Type 0
AreKnown netlist pool ids = AllByRecursion (IsKnown netlist pool) ids

abbrev pub AreBelow : ℕ → List ℕ → Type 0
AreBelow n ids = AllByRecursion (λ id. id < n) ids

abbrev pub exprs_at : List Node → List ℕ → List ExprModel
exprs_at pool ids = map (expr_of_id pool) ids

-- ---- patterns as they are looked up

abbrev pub row_ids : Row → Ids
row_ids row = record { storage = row.storage; addr = row.addr; value = row.value }

abbrev pub ids_pattern : List Node → Ids → Pattern
ids_pattern pool ids = record { storage = ids.storage; move = ids_transfer pool ids.addr ids.value }

-- the ids of a transfer of the netlist
pub record IsTransfer (netlist : Netlist) (pool : List Node) (ids : Ids) : Type 0 where
  pub addr : IsAddrKnown (length pool) ids.addr
  pub value : IsKnown netlist pool ids.value
