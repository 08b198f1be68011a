-- What is wanted of a word: sets that hold it, and values of fields. A storage with cells, the
-- memory or the file, isn't asked as a register.
use Rattle.std.specs.Prelude.{ℕ, zero, suc, ◌<◌, ◌==◌, nat_eq, ◌&&◌, ◌||◌, not, if◌then◌else◌, Bool, true, false, List, [], ◌∷◌, ◌++◌, map, length, min, slice_get, bit_and, Option, Some, None}
use Rattle.std.specs.Int.{bit_at}
use Rattle.std.specs.Option.{option_eq}
use Rattle.bit_bdd.specs.Diagrams.{Diagrams, has_word}
use Rattle.transfer_set.specs.declared.row.Row.{Row}
use Rattle.transfer_set.specs.Tables.{PatternTable}
use Rattle.net_model.specs.declared.hardware.Space.{Space}
use Rattle.net_model.specs.declared.hardware.Space.TheVariants.{Memory as InMemory, File as InFile}
use Rattle.form_model.specs.declared.forms.Step.{Step}
use Rattle.form_model.specs.Live.{Regs, no_regs}
use Rattle.nop_synth.specs.declared.meet.FieldValue.{FieldValue}

-- ---- sets and fields

-- each set holds the word
abbrev pub all_hold : Diagrams → List ℕ → ℕ → Bool
all_hold book [] word = true
all_hold book (set ∷ sets) word = has_word book set word && all_hold book sets word

-- each is a set of the book
abbrev pub AllBelow : Diagrams → List ℕ → Type 0
AllBelow book [] = Unit {0}
AllBelow book (set ∷ sets) = (set < length book.nodes) × AllBelow book sets

-- the word has the value in the bits of the mask
abbrev pub has_field : ℕ → ℕ → ℕ → Bool
has_field mask value word = bit_and word mask == value

-- it has each of these values
abbrev pub has_fields : List FieldValue → ℕ → Bool
has_fields [] word = true
has_fields (field ∷ fields) word = has_field field.mask field.value word && has_fields fields word

-- ---- one bit after the other

-- the masked word has the value's bit
abbrev pub bit_agrees : ℕ → ℕ → ℕ → ℕ → Bool
bit_agrees mask value word bit = min (bit_at word bit) (bit_at mask bit) == bit_at value bit

-- it has those below a bit
unfoldable pub bits_agree : ℕ → ℕ → ℕ → ℕ → Bool
bits_agree mask value word zero = true
bits_agree mask value word (suc bit) = bits_agree mask value word bit && bit_agrees mask value word bit

-- ---- what steps ask for

-- the words of a pattern; the empty set past the last one
abbrev pub row_set : Option Row → ℕ
row_set None = 0
row_set (Some row) = row.set

abbrev pub row_fields : Option Row → ℕ
row_fields None = 0
row_fields (Some row) = row.fields

abbrev pub step_set : PatternTable → Step → ℕ
step_set table step = row_set (slice_get table.rows step.pattern)

abbrev pub step_field : PatternTable → Step → FieldValue
step_field table step = record { mask = row_fields (slice_get table.rows step.pattern); value = step.setting }

-- ---- what is asked of storages that no step writes

-- the set of words that keep a storage; none past the last one
abbrev pub option_list : Option ℕ → List ℕ
option_list None = []
option_list (Some set) = set ∷ []

-- the number of a space's storage, where it is there
abbrev pub place_of : PatternTable → Space → Option ℕ
place_of table InMemory = Some table.memory
place_of table InFile = table.file

abbrev pub keep_at : PatternTable → Option ℕ → List ℕ
keep_at table None = []
keep_at table (Some storage) = option_list (slice_get table.keeps storage)

-- words that keep the memory, or the file, unless a step writes it
abbrev pub space_sets : PatternTable → Space → Bool → List ℕ
space_sets table space stored = if stored then [] else keep_at table (place_of table space)

-- a storage with cells: the memory's or the file's
abbrev pub has_cells : PatternTable → ℕ → Bool
has_cells table storage = (storage == table.memory) || option_eq nat_eq table.file (Some storage)

-- a live register that no step writes is to be kept
abbrev pub is_wanted : PatternTable → Regs → Regs → ℕ → Bool
is_wanted table live written r = live r && (not (has_cells table r) && not (written r))

-- words that keep those among the first registers
unfoldable pub register_sets : PatternTable → Regs → Regs → ℕ → List ℕ
register_sets table live written zero = []
register_sets table live written (suc r) =
    register_sets table live written r
    ++ (if is_wanted table live written r then option_list (slice_get table.keeps r) else [])

-- those of the memory and of the file
abbrev pub cell_sets : PatternTable → (Space → Bool) → List ℕ
cell_sets table stored = space_sets table InMemory (stored InMemory) ++ space_sets table InFile (stored InFile)

-- all sets that are to hold a word of the group
abbrev pub group_sets : PatternTable → List Step → Regs → (Space → Bool) → Regs → List ℕ
group_sets table group live stored written =
    (map (step_set table) group ++ cell_sets table stored) ++ register_sets table live written 16

-- and of a jump or branch that is to keep registers
abbrev pub jump_sets : PatternTable → Regs → List ℕ
jump_sets table kept = space_sets table InMemory false ++ register_sets table kept no_regs 16
