-- Worked field shapes and matches: a netlist of 12 instruction bits, whose words name a cell or a
-- number by their low 8.
use Rattle.std.specs.Prelude.{ℕ, ◌≡◌, refl, true, false, [], ◌∷◌, List, Option, Some, None}
use Rattle.rec_bits.specs.declared.operator.Op2.TheVariants.{Add, Sub, Mul}
use Rattle.net_model.specs.declared.hardware.Space.TheVariants.{Memory as InMemory, File as InFile}
use Rattle.net_model.specs.Exprs.{ExprModel, word, reg, const, read, bin, slice, cat, zext, sext}
use Rattle.form_model.specs.Trees.{is_tree}
use Rattle.form_model.specs.Shapes.{is_shape, is_shape_in, reach_of, shape_setting, shows, shows_below}
use Rattle.form_model.specs.Forms.{FormModel, into_reg, into_memory, into, cell, stored, temporary, tested}
use Rattle.form_model.specs.Matches.{LeafModel, operand, cut, MatchModel, in_register, in_file, matched, taken}

-- ---- field shapes

abbrev low_byte : ExprModel
low_byte = slice (word 12) 7 0

-- a field that is extended with zeros shows 255 and not 256
last_shown : shows (zext low_byte 16) 255 ≡ true
last_shown = refl

one_past : shows (zext low_byte 16) 256 ≡ false
one_past = refl

-- one that is extended with its top bit shows the numbers below 128, and those from 65408 on
signed_low : shows (sext low_byte 16) 127 ≡ true
signed_low = refl

signed_between : shows (sext low_byte 16) 128 ≡ false
signed_between = refl

signed_high : shape_setting (sext low_byte 16) 65535 ≡ Some 255
signed_high = refl

-- the bits of a slice stand in their places
in_place : shape_setting (slice (word 12) 11 8) 5 ≡ Some 1280
in_place = refl

-- a constant shows itself, under no bits
constant_shown : shape_setting (const 8 3) 3 ≡ Some 0
constant_shown = refl

constant_other : shape_setting (const 8 3) 4 ≡ None
constant_other = refl

-- a constant that is extended is no field shape, nor is a slice of something else, nor a field
-- beside another
constant_extended : is_shape (zext (const 8 3) 16) ≡ false
constant_extended = refl

slice_of_register : is_shape (slice (reg 1 16) 7 0) ≡ false
slice_of_register = refl

two_fields : is_shape (cat (slice (word 12) 11 8) low_byte) ≡ false
two_fields = refl

-- how far they reach
reach_of_word : reach_of (word 12) ≡ 4096
reach_of_word = refl

reach_of_field : reach_of (zext low_byte 16) ≡ 256
reach_of_field = refl

reach_of_signed : reach_of (sext low_byte 16) ≡ 128
reach_of_signed = refl

reach_of_zero : reach_of (const 8 0) ≡ 1
reach_of_zero = refl

reach_of_three : reach_of (const 8 3) ≡ 0
reach_of_three = refl

all_below : shows_below low_byte 5 ≡ true
all_below = refl

-- a sum of a constant and one of these is a field shape from edition 2 on, either way round; there
-- is no sum in a sum, nor a difference
abbrev one_more : ExprModel
one_more = bin Add (zext (slice (word 12) 3 0) 8) (const 8 1)

sum_of_first : is_shape_in 1 one_more ≡ false
sum_of_first = refl

sum_of_second : is_shape_in 2 one_more ≡ true
sum_of_second = refl

sum_of_constants : is_shape (bin Add (const 8 1) (const 8 2)) ≡ true
sum_of_constants = refl

sum_of_fields : is_shape (bin Add low_byte low_byte) ≡ false
sum_of_fields = refl

sum_in_sum : is_shape (bin Add (const 8 1) one_more) ≡ false
sum_in_sum = refl

difference : is_shape (bin Sub low_byte (const 8 1)) ≡ false
difference = refl

-- it shows 1 to 16
sum_first : shape_setting one_more 1 ≡ Some 0
sum_first = refl

sum_last : shape_setting one_more 16 ≡ Some 15
sum_last = refl

sum_past : shape_setting one_more 17 ≡ None
sum_past = refl

reach_of_sum : reach_of one_more ≡ 0
reach_of_sum = refl

-- what gets past the width begins at 0
sum_around : shape_setting (bin Add (const 8 250) (zext (slice (word 12) 3 0) 8)) 9 ≡ Some 15
sum_around = refl

reach_around : reach_of (bin Add (const 8 250) (zext (slice (word 12) 3 0) 8)) ≡ 10
reach_around = refl

reach_back : reach_of (bin Add (const 8 3) (sext (slice (word 12) 3 0) 8)) ≡ 11
reach_back = refl

-- ---- matches of expressions

-- ACC := add(ACC, read(M, slice(I,7,0))), and with its operands swapped
abbrev variable : ExprModel
variable = read InMemory low_byte 16

abbrev extracted : ExprModel
extracted = bin Add (reg 1 16) variable

abbrev swapped : ExprModel
swapped = bin Add variable (reg 1 16)

-- the cell at address 1 plus 5
abbrev sum : ExprModel
sum = bin Add (read InMemory (const 8 1) 16) (const 16 5)

abbrev found : ℕ → List LeafModel → Option MatchModel
found setting leaves = Some (record { setting = setting; leaves = leaves })

-- the swapped form takes it with the number in the register
swapped_takes : matched 1 swapped sum false ≡ found 1 (operand (in_register 1) (const 16 5) false ∷ [])
swapped_takes = refl

-- the form as extracted only with the number as a cut
extracted_takes : matched 1 extracted sum false
    ≡ found 0 (operand (in_register 1) (read InMemory (const 8 1) 16) false ∷ cut low_byte (const 16 5) ∷ [])
extracted_takes = refl

-- which it isn't where there are more temporary cells than the field shows
too_many_cells : matched 257 extracted sum false ≡ None
too_many_cells = refl

-- a whole tree is no cut, nor is a number that is the address of a read, be it an operand or where
-- a read stands for it
no_cut_at_root : matched 1 variable sum true ≡ None
no_cut_at_root = refl

address_operand : matched 1 (read InMemory (reg 2 8) 16) (read InMemory (const 8 5) 16) false ≡ found 0 (operand (in_register 2) (const 8 5) true ∷ [])
address_operand = refl

no_cut_at_address : matched 1 (read InMemory (read InMemory low_byte 8) 16) (read InMemory (const 8 5) 16) false ≡ None
no_cut_at_address = refl

-- a read of the register file takes what a register takes, here a number; no tree reads
-- the file
file_operand : matched 1 (bin Add (reg 1 16) (read InFile (slice (word 12) 1 0) 16)) sum false
    ≡ found 0
    (operand (in_register 1) (read InMemory (const 8 1) 16) false ∷ operand (in_file (slice (word 12) 1 0)) (const 16 5) false ∷ [])
file_operand = refl

no_tree_of_file : is_tree (bin Add (read InFile (const 4 1) 16) (const 16 5)) ≡ false
no_tree_of_file = refl

-- another operator, and another width
other_operator : matched 1 extracted (bin Mul (read InMemory (const 8 1) 16) (read InMemory (const 8 1) 16)) false ≡ None
other_operator = refl

other_width : matched 1 (reg 1 16) (const 8 5) false ≡ None
other_width = refl

-- ---- matches of forms

-- M[slice(I,7,0)] := ACC, whose pattern's number is 7
abbrev store : FormModel
store = record { pattern = 7; goal = into_memory; addr = Some low_byte; value = reg 1 16; fields = 255; clobbers = 5; tied = None }

-- ACC := add(ACC, read(M, slice(I,7,0)))
abbrev sum_into : FormModel
sum_into = record { pattern = 3; goal = into_reg 1; addr = None; value = extracted; fields = 255; clobbers = 3; tied = None }

-- the address of a cell is settled, that of a temporary cell isn't yet
to_cell : taken 1 store (cell 2) sum false ≡ found 2 (operand (in_register 1) sum true ∷ [])
to_cell = refl

to_temporary : taken 1 store temporary sum false ≡ found 0 (operand (in_register 1) sum false ∷ [])
to_temporary = refl

-- an address that is computed isn't one that the field shows, and a number is
to_computed : taken 1 store (stored (read InMemory (const 8 1) 8)) sum false ≡ None
to_computed = refl

to_number : taken 1 store (stored (const 8 9)) sum false ≡ found 9 (operand (in_register 1) sum false ∷ [])
to_number = refl

-- M[AR] := ACC, whose address is in register 2: it stores at any address, which goes into that
-- register, be it computed or a number
abbrev store_through : FormModel
store_through = record {
  pattern = 8;
  goal = into_memory;
  addr = Some (reg 2 8);
  value = reg 1 16;
  fields = 255;
  clobbers = 5;
  tied = None;
}

through_computed : taken 1 store_through (stored (read InMemory (const 8 1) 8)) sum false
    ≡ found 0 (operand (in_register 2) (read InMemory (const 8 1) 8) false ∷ operand (in_register 1) sum false ∷ [])
through_computed = refl

through_number : taken 1 store_through (stored (const 8 9)) sum false
    ≡ found 0 (operand (in_register 2) (const 8 9) false ∷ operand (in_register 1) sum false ∷ [])
through_number = refl

-- a cell and a temporary cell have no address tree, and it takes neither
no_cell : taken 1 store_through (cell 2) sum false ≡ None
no_cell = refl

no_temporary : taken 1 store_through temporary sum false ≡ None
no_temporary = refl

-- nor an address of another width
other_address : taken 1 store_through (stored (const 16 9)) sum false ≡ None
other_address = refl

-- no memory form takes a test, nor a form for a register what goes into another
no_test : taken 1 store tested sum true ≡ None
no_test = refl

into_another : taken 1 sum_into (into 2) sum false ≡ None
into_another = refl
