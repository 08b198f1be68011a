-- A table of patterns whose expressions are in a pool.
use Rattle.std.specs.Prelude.{◌<◌, List, length, All}
use Rattle.bit_bdd.specs.Diagrams.{Diagrams}
use Rattle.net_model.specs.declared.hardware.Netlist.{Netlist}
use Rattle.net_model.specs.Patterns.{IsPattern}
use Rattle.sym_expr.specs.declared.pool.Node.{Node}
use Rattle.transfer_set.specs.Entries.{IsAddrKnown}
use Rattle.transfer_set.specs.Ready.{IsReady}
use Rattle.transfer_set.specs.Rows.{row_patterns}
use Rattle.transfer_set.specs.Tables.{PatternTable}
use Rattle.transfer_set.specs.declared.machine.Machine.{Machine}
use Rattle.transfer_set.specs.declared.row.Row.{Row}

-- the row's ids are the pool's
pub record HasRowIds (pool : List Node) (row : Row) : Type 0 where
  pub addr : IsAddrKnown (length pool) row.addr
  pub value : row.value < length pool

-- each row is a pattern of the netlist, and its ids are the pool's
pub record IsListed (netlist : Netlist) (pool : List Node) (table : PatternTable) : Type 0 where
  pub each : All (IsPattern netlist) (row_patterns pool table.rows)
  pub rows : All (HasRowIds pool) table.rows

-- so are those of a machine
abbrev pub AreListed : Machine → Type 0
AreListed machine = IsListed machine.checked.now.netlist machine.pool.now machine.patterns.now

-- so it is for a table over any book
abbrev pub TablesAreListed : Type 0
TablesAreListed =
    (netlist : Netlist) (book : Diagrams) (pool : List Node) (table : PatternTable) →
    IsReady netlist book pool table → IsListed netlist pool table
