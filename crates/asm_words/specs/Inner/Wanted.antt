-- What is wanted of a word of a line, by a table of patterns: sets that hold it, and values of fields.
use Rattle.std.specs.Prelude.{ℕ, zero, suc, ◌*◌, ◌^◌, ◌==◌, if◌then◌else◌, Bool, false, List, [], ◌++◌, map, slice_get, Option, Some, None}
use Rattle.std.specs.List.{list_any}
use Rattle.net_model.specs.Fields.{bits_between}
use Rattle.transfer_set.specs.declared.row.Row.{Row}
use Rattle.transfer_set.specs.Tables.{PatternTable}
use Rattle.nop_synth.specs.declared.meet.FieldValue.{FieldValue}
use Rattle.nop_synth.specs.Wanted.{option_list, row_set}
use Rattle.asm_text.specs.declared.line.Item.{Item}

-- the words of the pattern of a number
abbrev pub number_set : PatternTable → ℕ → ℕ
number_set table number = row_set (slice_get table.rows number)

-- one of the patterns of these numbers is of the storage
abbrev pub is_row_of : ℕ → Option Row → Bool
is_row_of storage None = false
is_row_of storage (Some row) = row.storage == storage

abbrev pub row_named : PatternTable → List ℕ → ℕ → Bool
row_named table numbers storage = list_any (λ n. is_row_of storage (slice_get table.rows n)) numbers

-- the words that keep a storage, unless a pattern is of it
abbrev pub kept_set : PatternTable → List ℕ → ℕ → List ℕ
kept_set table numbers storage =
    if row_named table numbers storage then [] else option_list (slice_get table.keeps storage)

unfoldable pub kept_sets : PatternTable → List ℕ → ℕ → List ℕ
kept_sets table numbers zero = []
kept_sets table numbers (suc storage) = kept_sets table numbers storage ++ kept_set table numbers storage

-- all sets that are to hold a word of the line
abbrev pub line_sets : PatternTable → List ℕ → ℕ → List ℕ
line_sets table numbers storages = map (number_set table) numbers ++ kept_sets table numbers storages

-- an item's bits and value, in their places
abbrev pub item_field : Item → FieldValue
item_field item = record { mask = bits_between item.hi item.lo; value = item.value * 2 ^ item.lo }

abbrev pub item_fields : List Item → List FieldValue
item_fields items = map item_field items
