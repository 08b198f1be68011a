-- What is told of all patterns of a netlist.
use Rattle.std.specs.Prelude.{◌≡◌, ◌≢◌, ℕ, ◌<◌, List, length, slice_index, Option, All, AllPairs, Contains}
use Rattle.bit_bdd.specs.Diagrams.{Diagrams, has_word}
use Rattle.net_model.specs.declared.hardware.Netlist.{Netlist}
use Rattle.net_model.specs.Nets.{file_place, memory_id}
use Rattle.net_model.specs.Patterns.{ArePatterns, IsPattern, Pattern}
use Rattle.sym_expr.specs.declared.pool.Node.{Node}
use Rattle.transfer_set.specs.Entries.{IsAddrKnown, IsWordsOf}
use Rattle.transfer_set.specs.Routes.{IsSet}
use Rattle.transfer_set.specs.Rows.{AreSorted, ShowsMove, row_transfer, row_patterns}
use Rattle.transfer_set.specs.Sets.{IsKeepSet, IsStepSet}
use Rattle.transfer_set.specs.TextMarks.{HasPlainNames}
use Rattle.transfer_set.specs.declared.row.Row.{Row}

-- the patterns, for each storage the words that keep it, the words that step, and the numbers of
-- the memory and of the file
pub record PatternTable : Type 0 where
  pub rows : List Row
  pub keeps : List ℕ
  pub step : ℕ
  pub memory : ℕ
  pub file : Option ℕ

-- a pattern: its ids are the pool's, and its set is all words without clash that give its storage
-- its transfer, of which there is one
pub record IsRow (netlist : Netlist) (book : Diagrams) (pool : List Node) (row : Row) : Type 0 where
  pub told : ShowsMove netlist pool row
  pub addr : IsAddrKnown (length pool) row.addr
  pub value : row.value < length pool
  pub set : IsSet book row.set
  pub whole : IsWordsOf netlist book.bits row.storage (row_transfer pool row) (λ word. has_word book row.set word)

-- exactly the patterns of the netlist, none of them twice, in their order, with what is told of
-- them; the order leaves no choice where no name has a mark in it, as no name of a netlist's text
-- has
pub record IsPatternTable (netlist : Netlist) (book : Diagrams) (pool : List Node) (table : PatternTable) : Type 0 where
  pub rows : All (IsRow netlist book pool) table.rows
  pub each : All (IsPattern netlist) (row_patterns pool table.rows)
  pub every : (pattern : Pattern) → IsPattern netlist pattern → Contains (row_patterns pool table.rows) pattern
  pub once : AllPairs (λ p q. p ≢ q) (row_patterns pool table.rows)
  pub order : AreSorted table.rows
  pub patterns : HasPlainNames netlist → ArePatterns netlist (row_patterns pool table.rows)
  pub storages : length table.keeps ≡ length netlist.storages
  pub keeps : (storage : ℕ) → storage < length netlist.storages →
      IsKeepSet netlist book storage (slice_index table.keeps storage)
  pub step : IsStepSet netlist book table.step
  pub memory : table.memory ≡ memory_id netlist.storages
  pub file : table.file ≡ file_place netlist.storages

-- the sets of these rows are not empty
abbrev pub AreSets : Diagrams → List Row → Type 0
AreSets book rows = All (λ (row : Row). IsSet book row.set) rows
