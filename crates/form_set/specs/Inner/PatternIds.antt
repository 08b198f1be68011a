-- A pattern by its ids, as it is looked up in a table.
use Rattle.std.specs.Prelude.{◌≡◌, ℕ, ◌^◌, ◌<◌, ◌≤◌, true, List, length}
use Rattle.bit_bdd.specs.Diagrams.{Diagrams, has_word}
use Rattle.net_model.specs.declared.hardware.Netlist.{Netlist}
use Rattle.net_model.specs.Nets.{counter_of, memory_id}
use Rattle.net_model.specs.Exprs.{TransferModel, keep, write, write_at, expr_width}
use Rattle.net_model.specs.Patterns.{IsWordOf, Pattern}
use Rattle.net_model.specs.Transfers.{IsClean}
use Rattle.sym_expr.specs.declared.pool.Node.{Node}
use Rattle.transfer_set.specs.declared.machine.Machine.{Machine}
use Rattle.transfer_set.specs.declared.row.Row.{Row}
use Rattle.transfer_set.specs.Entries.{IsAddrKnown, ids_transfer}
use Rattle.transfer_set.specs.Machines.{machine_netlist}
use Rattle.net_model.specs.Fields.{transfer_fields}
use Rattle.transfer_set.specs.TextMarks.{IsTransferOf}
use Rattle.form_set.specs.declared.pattern_ids.PatternIds.{PatternIds}
use Rattle.form_set.specs.Words.{IsSetOf}

abbrev pub row_ids : Row → PatternIds
row_ids row = record { storage = row.storage; addr = row.addr; value = row.value; set = row.set; fields = row.fields }

abbrev pub ids_pattern : List Node → PatternIds → Pattern
ids_pattern pool ids = record { storage = ids.storage; move = ids_transfer pool ids.addr ids.value }

-- a value of at most 16 bits, as the program counter takes
abbrev pub IsNarrow : TransferModel → Type 0
IsNarrow keep = Unit {0}
IsNarrow (write e) = expr_width e ≤ 16
IsNarrow (write_at a e) = Unit {0}

-- these are the ids of a pattern of the netlist over this book and this pool; the book has the
-- words of the netlist's code
pub record ArePatternIds (netlist : Netlist) (book : Diagrams) (pool : List Node) (ids : PatternIds) : Type 0 where
  pub storage : ids.storage < length netlist.storages
  pub addr : IsAddrKnown (length pool) ids.addr
  pub value : ids.value < length pool
  pub set : IsSetOf book (IsWordOf netlist (ids_pattern pool ids)) ids.set
  pub fields : ids.fields ≡ transfer_fields (ids_transfer pool ids.addr ids.value)
  pub fits : ids.fields < 2 ^ book.bits
  pub exprs : IsTransferOf netlist (ids_transfer pool ids.addr ids.value)
  pub narrow : ids.storage ≡ counter_of netlist.codes → IsNarrow (ids_transfer pool ids.addr ids.value)
  pub few : book.bits ≤ 64
  pub clean : (word : ℕ) → IsClean netlist word → word < 2 ^ book.bits
  pub memory : memory_id netlist.storages < length netlist.storages
  pub storages : length netlist.storages ≤ 15

-- the same over a machine
abbrev pub pattern_in : Machine → PatternIds → Pattern
pattern_in machine ids = ids_pattern machine.pool.now ids

abbrev pub AreIdsIn : Machine → Diagrams → PatternIds → Type 0
AreIdsIn machine book ids = ArePatternIds (machine_netlist machine) book machine.pool.now ids

-- a word of a set
pub record InSet (book : Diagrams) (set word : ℕ) : Type 0 where
  pub fits : word < 2 ^ book.bits
  pub holds : has_word book set word ≡ true
