-- From a line to what it says, step by step.
use Rattle.std.specs.Prelude.{ℕ, ◌+◌, ◌-◌, ◌^◌, ◌==◌, nat_lt, if◌then◌else◌, List, [], ◌∷◌, ◌++◌, take, codes, Option, Some, None, Result, Ok, Err}
use Rattle.std.specs.Str.{bytes_eq}
use Rattle.std.specs.Int.{w64, from_be_bytes}
use Rattle.hex.specs.Hex.{encode_lower, decode_sized}
use Rattle.hex.specs.declared.error.FromHexError.{FromHexError}
use Rattle.text_lines.specs.Fields.{parts_at, number_of, is_name, line_end, ◌>>=◌}
use Rattle.text_lines.specs.Lines.{longer_line}
use Rattle.image_items.specs.declared.item.Item.{Item}
use Rattle.image_items.specs.declared.item.Item.TheVariants.{Size, Temps, Variable, Tree, Label, Code, Done}

abbrev pub below_2_32 : ℕ → Option ℕ
below_2_32 n = if nat_lt n (2 ^ 32) then Some n else None

unfoldable pub small : List ℕ → Option ℕ
small text = number_of text >>= below_2_32

unfoldable pub number_before : ℕ → List ℕ → Option (ℕ × List ℕ)
number_before mark text = parts_at mark text >>= λ parts. small parts.0 >>= λ n. Some (n, parts.1)

unfoldable pub last_number : List ℕ → Option ℕ
last_number text = line_end text >>= small

unfoldable pub pair_of : List ℕ → Option (ℕ × ℕ)
pair_of text = number_before 32 text >>= λ first. last_number first.1 >>= λ second. Some (first.0, second)

unfoldable pub label_of : List ℕ → Option (Option ℕ)
label_of text = if bytes_eq text (codes "end") then Some None else (small text >>= λ n. Some (Some n))

abbrev pub of_digits : ℕ → List ℕ → Result (List ℕ) FromHexError → Option ℕ
of_digits bytes text (Ok word) =
    if bytes_eq (encode_lower word) text
    then Some (from_be_bytes w64 (take (8 - bytes) (0 ∷ 0 ∷ 0 ∷ 0 ∷ 0 ∷ 0 ∷ 0 ∷ 0 ∷ []) ++ word))
    else None
of_digits bytes text (Err e) = None

unfoldable pub word_in : ℕ → List ℕ → Option ℕ
word_in bytes text = of_digits bytes text (decode_sized text bytes)

-- what stands between the marks
unfoldable pub fields_of : ℕ → List ℕ → List (List ℕ)
fields_of mark [] = [] ∷ []
fields_of mark (b ∷ bs) = if b == mark then [] ∷ fields_of mark bs else longer_line b (fields_of mark bs)

unfoldable pub number_from : ℕ → List ℕ → Option ℕ
number_from from field = small field >>= λ n. if nat_lt n from then None else Some n

unfoldable pub numbers_from : ℕ → List (List ℕ) → Option (List ℕ)
numbers_from from [] = Some []
numbers_from from (field ∷ fields) = number_from from field >>= λ n. numbers_from (n + 1) fields >>= λ ns. Some (n ∷ ns)

unfoldable pub list_of : List ℕ → Option (List ℕ)
list_of text = if bytes_eq text (codes "-") then Some [] else numbers_from 0 (fields_of 44 text)

unfoldable pub place_parts : List ℕ → Option (List ℕ × (ℕ × ℕ))
place_parts text =
    parts_at 32 text >>= λ name. pair_of name.1 >>= λ numbers.
    if is_name name.0 then Some (name.0, numbers) else None

unfoldable pub place_item : List ℕ → Option Item
place_item text =
    place_parts text >>= λ parts.
    Some (Variable (record { name = parts.0; address = parts.1.0; len = parts.1.1 }))

unfoldable pub size_item : List ℕ → Option Item
size_item text = pair_of text >>= λ pair. Some (Size pair.0 pair.1)

unfoldable pub temps_item : List ℕ → Option Item
temps_item text = last_number text >>= λ n. Some (Temps n)

unfoldable pub tree_item : List ℕ → Option Item
tree_item text = pair_of text >>= λ pair. Some (Tree pair)

unfoldable pub mark_item : List ℕ → Option Item
mark_item text =
    number_before 32 text >>= λ address. line_end address.1 >>= λ end. label_of end >>= λ label.
    Some (Label (record { address = address.0; label = label }))

unfoldable pub word_parts : ℕ → List ℕ → Option (ℕ × ℕ × List ℕ)
word_parts bytes text =
    number_before 32 text >>= λ address. parts_at 32 address.1 >>= λ digits.
    word_in bytes digits.0 >>= λ word. line_end digits.1 >>= λ list. Some (address.0, word, list)

unfoldable pub word_item : ℕ → List ℕ → Option Item
word_item bytes text =
    word_parts bytes text >>= λ parts. list_of parts.2 >>= λ patterns.
    Some (Code parts.0 (record { word = parts.1; patterns = patterns }))

unfoldable pub said_by : ℕ → List ℕ → List ℕ → Option Item
said_by bytes keyword text =
    if bytes_eq keyword (codes "image") then size_item text
    else if bytes_eq keyword (codes "temps") then temps_item text
    else if bytes_eq keyword (codes "place") then place_item text
    else if bytes_eq keyword (codes "tree") then tree_item text
    else if bytes_eq keyword (codes "mark") then mark_item text
    else if bytes_eq keyword (codes "word") then word_item bytes text
    else None

unfoldable pub item_of : ℕ → List ℕ → Option Item
item_of bytes line =
    if bytes_eq line (codes "done\n") then Some Done
    else (parts_at 32 line >>= λ parts. said_by bytes parts.0 parts.1)
