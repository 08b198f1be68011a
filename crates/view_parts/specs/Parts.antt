-- The expressions that terms over registers and cells stand for. Whether widths agree isn't asked here:
-- of a term that has a width (`part_width`) the expression has that width.
use Rattle.std.specs.Prelude.{ℕ, ◌^◌, nat_lt, if◌then◌else◌, Bool, true, false, List, [], ◌∷◌, codes, Option, None, Some}
use Rattle.std.specs.Str.{bytes_eq}
use Rattle.net_model.specs.Exprs.{ExprModel, reg, const, read, un, bin, slice, cat, zext, sext}
use Rattle.net_model.specs.declared.hardware.Space.TheVariants.{Memory as InMemory, File as InFile}
use Rattle.net_model.specs.declared.hardware.Storage.{Storage}
use Rattle.net_model.specs.declared.hardware.Storage.TheVariants.{Register, Memory, File}
use Rattle.rec_bits.specs.declared.operator.Op1.{Op1}
use Rattle.rec_bits.specs.declared.operator.Op1.TheVariants.{Not, Neg}
use Rattle.rec_bits.specs.declared.operator.Op2.{Op2}
use Rattle.rec_bits.specs.declared.operator.Op2.TheVariants.{Add, Sub, Mul, And, Or, Xor, Shl, Shr, Sar, Eq, Ltu, Lts}
use Rattle.text_lines.specs.Fields.{◌>>=◌}
use Rattle.image_items.specs.Reading.{below_2_32}
use Rattle.view_terms.specs.Inner.Reading.{when}
use Rattle.view_terms.specs.Terms.{TermModel, name, number, constant, one, two, three}
use Rattle.view_scope.specs.Fits.{register_spot}
use Rattle.view_scope.specs.Widths.{constant_width, name_in, number_in}

-- ---- operators

unfoldable pub op1_of : List ℕ → Option Op1
op1_of word =
    if bytes_eq word (codes "not") then Some Not
    else if bytes_eq word (codes "neg") then Some Neg
    else None

unfoldable pub arithmetic_of : List ℕ → Option Op2
arithmetic_of word =
    if bytes_eq word (codes "add") then Some Add
    else if bytes_eq word (codes "sub") then Some Sub
    else if bytes_eq word (codes "mul") then Some Mul
    else if bytes_eq word (codes "and") then Some And
    else if bytes_eq word (codes "or") then Some Or
    else if bytes_eq word (codes "xor") then Some Xor
    else None

unfoldable pub comparison_of : List ℕ → Option Op2
comparison_of word =
    if bytes_eq word (codes "shl") then Some Shl
    else if bytes_eq word (codes "shr") then Some Shr
    else if bytes_eq word (codes "sar") then Some Sar
    else if bytes_eq word (codes "eq") then Some Eq
    else if bytes_eq word (codes "ltu") then Some Ltu
    else if bytes_eq word (codes "lts") then Some Lts
    else None

abbrev pub or_else : Option Op2 → Option Op2 → Option Op2
or_else (Some op) other = Some op
or_else None other = other

unfoldable pub op2_of : List ℕ → Option Op2
op2_of word = or_else (arithmetic_of word) (comparison_of word)

-- ---- leaves

abbrev pub below_256 : ℕ → Option ℕ
below_256 n = if nat_lt n 256 then Some n else None

-- the register of a name
unfoldable pub register_part : List Storage → List ℕ → Option ExprModel
register_part storages text =
    register_spot storages text >>= λ spot. below_2_32 spot.index >>= λ id. Some (reg id spot.width)

-- a number with its width
unfoldable pub constant_part : ℕ → ℕ → Option ExprModel
constant_part value width = constant_width value width >>= λ bits. Some (const bits value)

-- whether the first cells of a name are those of the register file, and their width
abbrev pub cells_named : List Storage → List ℕ → Option (Bool × ℕ)
cells_named [] text = None
cells_named (Register own width input on ∷ storages) text = cells_named storages text
cells_named (Memory cells ∷ storages) text =
    if bytes_eq cells.name text then Some (false, cells.width) else cells_named storages text
cells_named (File cells ∷ storages) text =
    if bytes_eq cells.name text then Some (true, cells.width) else cells_named storages text

unfoldable pub cells_in : List Storage → TermModel → Option (Bool × ℕ)
cells_in storages term = name_in term >>= cells_named storages

-- ---- operators of expressions

abbrev pub cell_of : Bool → ExprModel → ℕ → ExprModel
cell_of true addr width = read InFile addr width
cell_of false addr width = read InMemory addr width

unfoldable pub read_part : Option (Bool × ℕ) → ExprModel → Option ExprModel
read_part cells addr = cells >>= λ c. Some (cell_of c.0 addr c.1)

unfoldable pub unary_part : List ℕ → ExprModel → Option ExprModel
unary_part word a = op1_of word >>= λ op. Some (un op a)

unfoldable pub extended_part : List ℕ → ExprModel → ℕ → Option ExprModel
extended_part word a width =
    below_256 width >>= λ bits.
    if bytes_eq word (codes "zext") then Some (zext a bits)
    else if bytes_eq word (codes "sext") then Some (sext a bits)
    else None

abbrev pub joined_part : List ℕ → Option Op2 → ExprModel → ExprModel → Option ExprModel
joined_part word (Some op) a b = Some (bin op a b)
joined_part word None a b = if bytes_eq word (codes "cat") then Some (cat a b) else None

unfoldable pub pair_part : List ℕ → ExprModel → ExprModel → Option ExprModel
pair_part word a b = joined_part word (op2_of word) a b

unfoldable pub bounds_in : TermModel → TermModel → Option (ℕ × ℕ)
bounds_in hi lo = number_in hi >>= below_256 >>= λ h. number_in lo >>= below_256 >>= λ l. Some (h, l)

unfoldable pub sliced_part : List ℕ → ExprModel → TermModel → TermModel → Option ExprModel
sliced_part word a hi lo =
    if bytes_eq word (codes "slice") then (bounds_in hi lo >>= λ bounds. Some (slice a bounds.0 bounds.1)) else None

-- a cell, or an operator of two values
unfoldable pub both_part : List Storage → List ℕ → TermModel → Option ExprModel → Option ExprModel → Option ExprModel
both_part storages word first a b =
    b >>= λ y. if bytes_eq word (codes "read") then read_part (cells_in storages first) y
    else (a >>= λ x. pair_part word x y)

-- ---- terms

abbrev pub part_of : List Storage → TermModel → Option ExprModel
part_of storages (name n) = register_part storages n
part_of storages (number n) = None
part_of storages (constant v w) = constant_part v w
part_of storages (one word a) = part_of storages a >>= unary_part word
part_of storages (two word a b) =
    when (number_in b) (λ width. part_of storages a >>= λ x. extended_part word x width)
    (both_part storages word a (part_of storages a) (part_of storages b))
part_of storages (three word a b c) = part_of storages a >>= λ x. sliced_part word x b c
