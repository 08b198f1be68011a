-- A worked register file: which cells the steps of a cover name. A word of 17 bits names a cell of
-- the memory by its bits 7 to 0 and the cells of a file of two cells by two bits each.
use Rattle.std.specs.Prelude.{ℕ, ◌≡◌, refl, [], ◌∷◌, Some, None}
use Rattle.rec_bits.specs.declared.operator.Op2.TheVariants.{Add, Sub}
use Rattle.net_model.specs.declared.hardware.Space.TheVariants.{Memory as InMemory, File as InFile}
use Rattle.net_model.specs.Exprs.{ExprModel, word, const, read, bin, slice}
use Rattle.form_model.specs.declared.forms.Step.{Step}
use Rattle.form_model.specs.Forms.{FormModel, into_memory, into_file, cell}
use Rattle.form_model.specs.CoverModels.{CoverModel, use_form, no_operands, operand_then, no_cuts, cut_then, cost}
use Rattle.form_model.specs.Covers.{StockModel, need}
use Rattle.form_model.specs.Steps.{cell_of, free_cell, cover_steps}

abbrev f : ExprModel
f = slice (word 17) 7 0

abbrev d : ExprModel
d = slice (word 17) 9 8

abbrev a : ExprModel
a = read InFile (slice (word 17) 11 10) 16

abbrev b : ExprModel
b = read InFile (slice (word 17) 13 12) 16

-- R[I[9:8]] := read(M, I[7:0])
abbrev load : FormModel
load = record { pattern = 2; goal = into_file; addr = Some d; value = read InMemory f 16; fields = 1023; clobbers = 0; tied = None }

-- R[I[9:8]] := sub(R[I[11:10]], R[I[13:12]])
abbrev difference : FormModel
difference =
    record { pattern = 4; goal = into_file; addr = Some d; value = bin Sub a b; fields = 16128; clobbers = 0; tied = None }

-- R[I[9:8]] := add(R[I[11:10]], R[I[13:12]])
abbrev sum : FormModel
sum =
    record { pattern = 3; goal = into_file; addr = Some d; value = bin Add a b; fields = 16128; clobbers = 0; tied = None }

-- M[I[7:0]] := R[I[11:10]]
abbrev store : FormModel
store = record { pattern = 5; goal = into_memory; addr = Some f; value = a; fields = 3327; clobbers = 4; tied = None }

-- the same difference where its first operand's cell is written
abbrev tied_load : FormModel
tied_load = record load { addr = Some (slice (word 17) 11 10) }

abbrev tied_difference : FormModel
tied_difference = record difference { addr = Some (slice (word 17) 11 10); tied = Some 0 }

abbrev stock : ℕ → StockModel
stock size = record { forms = load ∷ difference ∷ sum ∷ store ∷ []; temps = 1; file = size }

abbrev tied_stock : StockModel
tied_stock = record { forms = tied_load ∷ tied_difference ∷ sum ∷ store ∷ []; temps = 1; file = 2 }

abbrev at : ℕ → ExprModel
at n = read InMemory (const 8 n) 16

abbrev step : ℕ → ℕ → Step
step pattern setting = record { pattern = pattern; setting = setting }

abbrev loaded : CoverModel
loaded = use_form 0 no_operands no_cuts

-- ---- a - (b - c)

abbrev differences : ExprModel
differences = bin Sub (at 1) (bin Sub (at 2) (at 3))

abbrev inner : CoverModel
inner = use_form 1 (operand_then 0 loaded (operand_then 0 loaded no_operands)) no_cuts

-- the inner difference first
abbrev inner_first : CoverModel
inner_first = use_form 3 (operand_then 0 (use_form 1 (operand_then 1 inner (operand_then 0 loaded no_operands)) no_cuts) no_operands) no_cuts

-- from left to right
abbrev left_first : CoverModel
left_first = use_form 3 (operand_then 0 (use_form 1 (operand_then 0 loaded (operand_then 0 inner no_operands)) no_cuts) no_operands) no_cuts

two_suffice : need (stock 2).forms inner_first ≡ 2
two_suffice = refl

three_needed : need (stock 4).forms left_first ≡ 3
three_needed = refl

costs_six : cost inner_first ≡ 6
costs_six = refl

-- the outer difference goes into the cell of the first operand in the order, which is the second
-- from the left
first_in_order : cover_steps (stock 2) (cell 4) differences inner_first
    ≡ step 2 2 ∷ step 2 259 ∷ step 4 4096 ∷ step 2 257 ∷ step 4 1024 ∷ step 5 4 ∷ []
first_in_order = refl

-- and into that of the tied one where there is one, though the other is the least free cell
tied_first : cover_steps tied_stock (cell 4) differences inner_first
    ≡ step 2 2 ∷ step 2 1027 ∷ step 4 4096 ∷ step 2 1025 ∷ step 4 1024 ∷ step 5 1028 ∷ []
tied_first = refl

-- ---- a + (b - c) in a file of four cells, from left to right

no_cell_free : free_cell 3 2 ≡ 2
no_cell_free = refl

least_free : free_cell 5 4 ≡ 1
least_free = refl

in_second : cell_of (stock 4) inner 1 ≡ Some 1
in_second = refl

-- ---- (b + c) - (b - c)

abbrev sums : ExprModel
sums = bin Sub (bin Add (at 2) (at 3)) (bin Sub (at 2) (at 3))

abbrev two_loads : ℕ → CoverModel
two_loads form = use_form form (operand_then 0 loaded (operand_then 0 loaded no_operands)) no_cuts

-- in four cells: the sum, then the difference while it waits
abbrev waiting : CoverModel
waiting =
    use_form 3
    (operand_then 0 (use_form 1 (operand_then 0 (two_loads 2) (operand_then 0 (two_loads 1) no_operands)) no_cuts)
    no_operands) no_cuts

waiting_needs : need (stock 4).forms waiting ≡ 3
waiting_needs = refl

waiting_costs : cost waiting ≡ 8
waiting_costs = refl

waiting_steps : cover_steps (stock 4) (cell 4) sums waiting
    ≡ step 2 2 ∷ step 2 259 ∷ step 3 4096 ∷ step 2 258 ∷ step 2 515 ∷ step 4 9472 ∷ step 4 4096 ∷ step 5 4 ∷ []
waiting_steps = refl

-- in two cells: the difference as a cut, which a load brings back
abbrev stored_first : CoverModel
stored_first =
    use_form 3
    (operand_then 0
    (use_form 1 (operand_then 0 (two_loads 2)
    (operand_then 0 (use_form 0 no_operands (cut_then (use_form 3 (operand_then 0 (two_loads 1) no_operands) no_cuts) no_cuts))
    no_operands)) no_cuts)
    no_operands) no_cuts

stored_needs : need (stock 2).forms stored_first ≡ 2
stored_needs = refl

stored_costs : cost stored_first ≡ 10
stored_costs = refl

stored_steps : cover_steps (stock 2) (cell 4) sums stored_first
    ≡ step 2 2 ∷ step 2 259 ∷ step 4 4096 ∷ step 5 0 ∷ step 2 2 ∷ step 2 259 ∷ step 3 4096 ∷ step 2 256 ∷ step 4 4096
    ∷ step 5 4 ∷ []
stored_steps = refl
