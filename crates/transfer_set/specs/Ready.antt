-- What ids mean over a netlist, a book of sets, a pool of expressions and a table of patterns,
-- together.
use Rattle.std.specs.Prelude.{◌≡◌, List}
use Rattle.bit_bdd.specs.Diagrams.{Diagrams, Extends}
use Rattle.net_model.specs.declared.hardware.Netlist.{Netlist}
use Rattle.net_model.specs.Nets.{word_width}
use Rattle.sym_expr.specs.declared.pool.Node.{Node}
use Rattle.sym_expr.specs.Pools.{Grows}
use Rattle.transfer_set.specs.Tables.{IsPatternTable, PatternTable}

-- the table is that of the netlist's patterns, with its sets in a book of the netlist's words and
-- its expressions in the pool
pub record IsReady (netlist : Netlist) (book : Diagrams) (pool : List Node) (table : PatternTable) : Type 0 where
  pub patterns : IsPatternTable netlist book pool table
  pub bits : book.bits ≡ word_width netlist

-- it stays so in each extension of the book and each growth of the pool
abbrev pub StaysReady : Type 0
StaysReady =
    (netlist : Netlist) (old new : Diagrams) (pool more : List Node) (table : PatternTable) →
    Extends old new → Grows pool more →
    IsReady netlist old pool table → IsReady netlist new more table
