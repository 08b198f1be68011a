-- The editions of netlist texts. A text of edition 1 tells none; any other begins with `version`,
-- its number and `;`. In it `version` is reserved, and the word of the item that the edition adds;
-- in any other text these words are names.
use Rattle.std.specs.Prelude.{ℕ, ◌==◌, if◌then◌else◌, List, map, codes, Option, Some, None, Bool, false, slice_get}
use Rattle.std.specs.Str.{bytes_eq}
use Rattle.grammar.specs.declared.words.Lexed.{Lexed as LexedOf}
use Rattle.grammar.specs.declared.words.Word.{Word as WordOf}
use Rattle.grammar.specs.declared.words.Word.TheVariants.{Name, Number, Symbol as Shows, Key as Keyed}
use Rattle.net_model.specs.declared.words.Key.{Key}
use Rattle.net_model.specs.declared.words.Key.TheVariants.{Item}
use Rattle.net_model.specs.declared.words.ItemWord.{ItemWord}
use Rattle.net_model.specs.declared.words.ItemWord.TheVariants.{File, Mode, Bank}
use Rattle.net_model.specs.declared.words.Symbol.{Symbol}
use Rattle.net_model.specs.declared.words.Symbol.TheVariants.{Version}

-- ---- tokens

abbrev pub Word : Type 0
Word = WordOf Symbol Key

abbrev pub Lexed : Type 0
Lexed = LexedOf Symbol Key

-- ---- the table

-- the item that the edition of a number adds, and none where there is no such edition
abbrev pub added_by : ℕ → Option ItemWord
added_by n = if n == 2 then Some File else if n == 3 then Some Mode else if n == 4 then Some Bank else None

-- a text is the word of such an item
abbrev pub is_added : ItemWord → List ℕ → Bool
is_added File text = bytes_eq text (codes "file")
is_added Mode text = bytes_eq text (codes "mode")
is_added Bank text = bytes_eq text (codes "bank")
is_added _ text = false

-- the edition whose netlists have a mode: at each of its numbers such a netlist is another one
abbrev pub is_moded : ℕ → Bool
is_moded edition = edition == 3

-- the edition whose netlists have a bank, a second data memory; its item gives a file
abbrev pub is_banked : ℕ → Bool
is_banked edition = edition == 4

-- ---- the words of a text

-- a name in a text of the edition that adds an item, or of one that there is not
abbrev pub item_or_name : Option ItemWord → List ℕ → Word
item_or_name None name = Name name
item_or_name (Some item) name = if is_added item name then Keyed (Item item) else Name name

abbrev pub is_version : Word → Bool
is_version (Name name) = bytes_eq name (codes "version")
is_version _ = false

abbrev pub word_in : Option ItemWord → Word → Word
word_in added (Name name) = if bytes_eq name (codes "version") then Shows Version else item_or_name added name
word_in added word = word

abbrev pub lexed_in : Option ItemWord → Lexed → Lexed
lexed_in added t = record { word = word_in added t.word; at = t.at }

abbrev pub item_of_number : Word → Option ItemWord
item_of_number (Number n) = added_by n
item_of_number _ = None

-- of the first token, and of the second
abbrev pub names_version : Option Lexed → Bool
names_version None = false
names_version (Some t) = is_version t.word

abbrev pub item_told : Option Lexed → Option ItemWord
item_told None = None
item_told (Some t) = item_of_number t.word

-- The tokens of a text, where these are its tokens if it is of edition 1: one that begins with
-- `version` has the words of the edition that it names.
abbrev pub edited : List Lexed → List Lexed
edited ts = if names_version (slice_get ts 0) then map (lexed_in (item_told (slice_get ts 1))) ts else ts
