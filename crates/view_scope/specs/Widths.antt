-- The widths of terms. Registers have the widths of the netlist, and variables that of a cell; a number
-- is written with its width, and has room in it; operators ask for the widths that they ask for in netlists.
use Rattle.std.specs.Prelude.{ℕ, ◌+◌, ◌-◌, ◌^◌, ◌==◌, ◌&&◌, ◌||◌, nat_le, nat_lt, if◌then◌else◌, Bool, List, [], ◌∷◌, codes, Option, None, Some}
use Rattle.std.specs.List.{list_any}
use Rattle.std.specs.Str.{bytes_eq}
use Rattle.net_model.specs.declared.hardware.Cells.{Cells}
use Rattle.net_model.specs.declared.hardware.Storage.{Storage}
use Rattle.net_model.specs.declared.hardware.Storage.TheVariants.{Register, Memory, File}
use Rattle.code_model.specs.declared.image.Place.{Place}
use Rattle.text_lines.specs.Fields.{◌>>=◌}
use Rattle.view_terms.specs.Inner.Reading.{when}
use Rattle.view_terms.specs.Terms.{TermModel, name, number, constant, one, two, three}

-- ---- the words of operators

abbrev pub is_unary : List ℕ → Bool
is_unary word = bytes_eq word (codes "not") || bytes_eq word (codes "neg")

abbrev pub is_arithmetic : List ℕ → Bool
is_arithmetic word =
    bytes_eq word (codes "add") || bytes_eq word (codes "sub") || bytes_eq word (codes "mul")
    || bytes_eq word (codes "and") || bytes_eq word (codes "or") || bytes_eq word (codes "xor")
    || bytes_eq word (codes "shl") || bytes_eq word (codes "shr") || bytes_eq word (codes "sar")

abbrev pub is_comparison : List ℕ → Bool
is_comparison word = bytes_eq word (codes "eq") || bytes_eq word (codes "ltu") || bytes_eq word (codes "lts")

abbrev pub is_extension : List ℕ → Bool
is_extension word = bytes_eq word (codes "zext") || bytes_eq word (codes "sext")

-- ---- the width of what each gives

-- a number with its width: 1 to 64 bits, in which it has room
unfoldable pub constant_width : ℕ → ℕ → Option ℕ
constant_width value width =
    if nat_lt width 1 || nat_lt 64 width then None
    else if nat_lt value (2 ^ width) then Some width else None

unfoldable pub unary_width : List ℕ → ℕ → Option ℕ
unary_width word a = if is_unary word then Some a else None

unfoldable pub pair_width : List ℕ → ℕ → ℕ → Option ℕ
pair_width word a b =
    if is_arithmetic word then (if a == b then Some a else None)
    else if is_comparison word then (if a == b then Some 1 else None)
    else if bytes_eq word (codes "cat") then (if nat_le (a + b) 64 then Some (a + b) else None)
    else None

unfoldable pub extended_width : List ℕ → ℕ → ℕ → Option ℕ
extended_width word a width =
    if is_extension word && nat_lt a width && nat_le width 64 then Some width else None

unfoldable pub sliced_width : List ℕ → ℕ → ℕ → ℕ → Option ℕ
sliced_width word a hi lo =
    if bytes_eq word (codes "slice") && nat_le lo hi && nat_lt hi a then Some (hi + 1 - lo) else None

-- ---- names

-- the width of the first register of a name
abbrev pub register_width : List Storage → List ℕ → Option ℕ
register_width [] text = None
register_width (Register own width input on ∷ storages) text =
    if bytes_eq own text then Some width else register_width storages text
register_width (Memory cells ∷ storages) text = register_width storages text
register_width (File cells ∷ storages) text = register_width storages text

-- that of a cell, where addresses are so wide
abbrev pub read_width : Cells → ℕ → Option ℕ
read_width cells addr = if cells.addr_width == addr then Some cells.width else None

-- the same of the first memory or file of a name
abbrev pub cell_width : List Storage → List ℕ → ℕ → Option ℕ
cell_width [] text addr = None
cell_width (Register own width input on ∷ storages) text addr = cell_width storages text addr
cell_width (Memory cells ∷ storages) text addr =
    if bytes_eq cells.name text then read_width cells addr else cell_width storages text addr
cell_width (File cells ∷ storages) text addr =
    if bytes_eq cells.name text then read_width cells addr else cell_width storages text addr

abbrev pub has_place : List Place → List ℕ → Bool
has_place places text = list_any (λ place. bytes_eq place.name text) places

-- a variable is as wide as a cell: its value where it is plain, and otherwise the address of its first
-- cell
abbrev pub place_width : List Place → ℕ → List ℕ → Option ℕ
place_width places word text = if has_place places text then Some word else None

-- so is an element, and its index
unfoldable pub element_width : List Place → ℕ → List ℕ → ℕ → Option ℕ
element_width places word text index = if index == word then place_width places word text else None

-- ---- terms

abbrev pub number_in : TermModel → Option ℕ
number_in (number n) = Some n
number_in _ = None

abbrev pub name_in : TermModel → Option (List ℕ)
name_in (name n) = Some n
name_in _ = None

-- from the widths of the terms of a word, and of what two terms read
unfoldable pub one_width : List ℕ → Option ℕ → Option ℕ
one_width word a = a >>= unary_width word

unfoldable pub both_width : List ℕ → Option ℕ → Option ℕ → Option ℕ
both_width word a b = a >>= λ x. b >>= pair_width word x

unfoldable pub two_width : List ℕ → TermModel → Option ℕ → Option ℕ → Option ℕ → Option ℕ
two_width word second cell a b =
    when (number_in second) (λ width. a >>= λ x. extended_width word x width)
    (if bytes_eq word (codes "read") then cell else both_width word a b)

unfoldable pub three_width : List ℕ → Option ℕ → TermModel → TermModel → Option ℕ
three_width word a hi lo = a >>= λ x. number_in hi >>= λ h. number_in lo >>= λ l. sliced_width word x h l

-- what two terms read: the first names it, and the second has the width of the address or the index
unfoldable pub cell_read : List Storage → TermModel → Option ℕ → Option ℕ
cell_read storages cells addr = name_in cells >>= λ text. addr >>= cell_width storages text

unfoldable pub element_read : List Place → ℕ → TermModel → Option ℕ → Option ℕ
element_read places word array index = name_in array >>= λ text. index >>= element_width places word text

-- the width of a view's term, over registers and cells, where its names are there, its words are
-- operators and its widths agree
abbrev pub part_width : List Storage → TermModel → Option ℕ
part_width storages (name n) = register_width storages n
part_width storages (number n) = None
part_width storages (constant v w) = constant_width v w
part_width storages (one word a) = one_width word (part_width storages a)
part_width storages (two word a b) =
    two_width word b (cell_read storages a (part_width storages b)) (part_width storages a) (part_width storages b)
part_width storages (three word a b c) = three_width word (part_width storages a) b c

-- that of a holding's term, over variables, where a cell has so many bits
abbrev pub tree_width : List Place → ℕ → TermModel → Option ℕ
tree_width places bits (name n) = place_width places bits n
tree_width places bits (number n) = None
tree_width places bits (constant v w) = constant_width v w
tree_width places bits (one word a) = one_width word (tree_width places bits a)
tree_width places bits (two word a b) =
    two_width word b (element_read places bits a (tree_width places bits b)) (tree_width places bits a)
    (tree_width places bits b)
tree_width places bits (three word a b c) = three_width word (tree_width places bits a) b c
