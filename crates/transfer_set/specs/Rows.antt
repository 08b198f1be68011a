-- Patterns as they are told: each with the text of its transfer, its words, and the instruction
-- bits that occur in it. What is told of all patterns: each with its ids, its set (all words that
-- give the transfer, of which there is one), its text, and the instruction bits that occur in it
-- (`Fields`); exactly the patterns of the netlist, none twice, in order; for each storage the
-- words that keep it; the words that step; the numbers of the memory and, where there is one, of
-- the register file.
use Rattle.std.specs.Prelude.{◌≡◌, ◌<◌, ◌⊎◌, List, map, AllPairs, IsPermutation}
use Rattle.std.specs.Cmp.Lexicographic.{slice_cmp}
use Rattle.std.specs.Ordering.{nat_cmp}
use Rattle.std.specs.declared.cmp.Ordering.TheVariants.{Less}
use Rattle.net_model.specs.declared.hardware.Netlist.{Netlist}
use Rattle.net_model.specs.Patterns.{Pattern}
use Rattle.net_model.specs.Texts.{text_of_transfer}
use Rattle.net_model.specs.Exprs.{TransferModel}
use Rattle.sym_expr.specs.declared.pool.Node.{Node}
use Rattle.transfer_set.specs.Entries.{ids_transfer}
use Rattle.net_model.specs.Fields.{transfer_fields}
use Rattle.transfer_set.specs.declared.entries.Entry.{Entry}
use Rattle.transfer_set.specs.declared.row.Row.{Row}

-- the transfer and the words that give it
abbrev pub entry_of : Row → Entry
entry_of row = record { storage = row.storage; addr = row.addr; value = row.value; set = row.set }

abbrev pub entries_of : List Row → List Entry
entries_of rows = map entry_of rows

-- these rows are of these entries, in any order
pub record AreRowsOf (entries : List Entry) (rows : List Row) : Type 0 where
  pub listed : List Row
  pub same : entries_of listed ≡ entries
  pub moved : IsPermutation listed rows

-- the transfer of these ids
abbrev pub row_transfer : List Node → Row → TransferModel
row_transfer pool row = ids_transfer pool row.addr row.value

-- the patterns, in order
abbrev pub row_pattern : List Node → Row → Pattern
row_pattern pool row = record { storage = row.storage; move = row_transfer pool row }

abbrev pub row_patterns : List Node → List Row → List Pattern
row_patterns pool rows = map (row_pattern pool) rows

-- the text is that of the transfer, and the fields are its instruction bits
pub record ShowsMove (netlist : Netlist) (pool : List Node) (row : Row) : Type 0 where
  pub text : row.text.items ≡ text_of_transfer netlist row.storage (row_transfer pool row)
  pub fields : row.fields ≡ transfer_fields (row_transfer pool row)

-- no later pattern comes before an earlier one: by storage, and then by the bytes of the text
abbrev pub IsNotAfter : Row → Row → Type 0
IsNotAfter a b =
    (a.storage < b.storage)
    ⊎ ((a.storage ≡ b.storage) × (slice_cmp nat_cmp b.text.items a.text.items ≡ Less → ⊥))

abbrev pub AreSorted : List Row → Type 0
AreSorted rows = AllPairs IsNotAfter rows
