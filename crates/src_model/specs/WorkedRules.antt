-- The rules at worked programs.
use Rattle.std.specs.Prelude.{◌≡◌, refl, ℕ, zero, suc, List, [], ◌∷◌, Some, None, Option}
use Rattle.rec_bits.specs.declared.operator.Op1.TheVariants.{Neg}
use Rattle.rec_bits.specs.declared.operator.Op2.TheVariants.{Add, Sub, Mul, And, Sar}
use Rattle.src_model.specs.declared.program.Cmp.TheVariants.{Ne}
use Rattle.src_model.specs.declared.program.Var.{Var as Declared}
use Rattle.src_model.specs.declared.fault.SrcFault.TheVariants.{Duplicate, Unknown, Width, Index, Counter, Limit}
use Rattle.src_model.specs.declared.fault.SrcFault.{SrcFault}
use Rattle.src_model.specs.declared.fault.SrcKind.TheVariants.{Length, Nodes}
use Rattle.src_model.specs.Written.{SrcNodeModel, num, plain, element, bin, sext, low, SrcExprModel, StmtModel, assign, while, count, stmts_of, ProgramModel, un, zext}
use Rattle.src_model.specs.Rules.{first_fault, temp_count, node_count}

abbrev variable : List ℕ → ℕ → Declared
variable name at = record { name = name; at = at; len = None }

abbrev array : List ℕ → ℕ → ℕ → Declared
array name at len = record { name = name; at = at; len = Some len }

abbrev phrase : ℕ → SrcNodeModel → SrcExprModel
phrase at shape = record { at = at; shape = shape }

abbrev into : List ℕ → ℕ → ℕ → SrcNodeModel → StmtModel
into name at to e = assign (record { name = name; at = at; index = None }) (phrase to e)

abbrev stored : List ℕ → ℕ → ℕ → SrcNodeModel → ℕ → SrcNodeModel → StmtModel
stored name at inner index to e =
    assign (record { name = name; at = at; index = Some (phrase inner index) }) (phrase to e)

abbrev program_with : List Declared → List StmtModel → ProgramModel
program_with vars body = record { vars = vars; body = body }

abbrev a : List ℕ
a = 97 ∷ []

abbrev b : List ℕ
b = 98 ∷ []

abbrev i : List ℕ
i = 105 ∷ []

abbrev s : List ℕ
s = 115 ∷ []

abbrev x : List ℕ
x = 120 ∷ []

abbrev h : List ℕ
h = 104 ∷ []

-- var a, a;
declared_twice : first_fault 16 (program_with (variable a 4 ∷ variable a 7 ∷ []) []) ≡ Some (Duplicate 7)
declared_twice = refl

-- var a; b = 1;
not_declared : first_fault 16 (program_with (variable a 4 ∷ []) (into b 7 11 (num 1) ∷ [])) ≡ Some (Unknown 7)
not_declared = refl

-- var x[4]; x = 1;
without_index : first_fault 16 (program_with (array x 4 4 ∷ []) (into x 10 14 (num 1) ∷ [])) ≡ Some (Unknown 10)
without_index = refl

-- var a; a[0] = 1;
with_index : first_fault 16 (program_with (variable a 4 ∷ []) (stored a 7 9 (num 0) 14 (num 1) ∷ [])) ≡ Some (Unknown 7)
with_index = refl

-- var x[4]; for x = 0 to 3 { }
array_counter : first_fault 16 (program_with (array x 4 4 ∷ []) (count x 14 0 3 (stmts_of []) ∷ [])) ≡ Some (Unknown 14)
array_counter = refl

-- var a; a = 32;
too_great : first_fault 5 (program_with (variable a 4 ∷ []) (into a 7 11 (num 32) ∷ [])) ≡ Some (Width 11)
too_great = refl

-- var a, b; a = low(a, 8) + b;
of_two_widths : first_fault 16 (program_with (variable a 4 ∷ variable b 7 ∷ [])
    (into a 10 14 (bin Add 14 (low 18 (plain a 18) 8) 26 (plain b 26)) ∷ [])) ≡ Some (Width 26)
of_two_widths = refl

-- var a; a = low(a, 8) + 255; and with 256
beside_eight_bits : ℕ → Option SrcFault
beside_eight_bits n =
    first_fault 16 (program_with (variable a 4 ∷ [])
    (into a 7 11 (sext 11 (bin Add 16 (low 20 (plain a 20) 8) 30 (num n)) 16) ∷ []))

-- a literal has the width of the other operand
eight_bits : beside_eight_bits 255 ≡ None
unfolding beside_eight_bits
eight_bits = refl

nine_bits : beside_eight_bits 256 ≡ Some (Width 30)
unfolding beside_eight_bits
nine_bits = refl

-- var a; a = 256 + 1;  two literals have the word's width
two_literals : first_fault 8 (program_with (variable a 4 ∷ []) (into a 7 11 (bin Add 11 (num 256) 17 (num 1)) ∷ []))
    ≡ Some (Width 11)
two_literals = refl

-- var a; a = -256;  at the number behind the sign
signed_literal : first_fault 8 (program_with (variable a 4 ∷ []) (into a 7 11 (un Neg 12 (num 256)) ∷ [])) ≡ Some (Width 12)
signed_literal = refl

-- var a; a = low(a, 16) + low(a, 0);  what has a broken part breaks nothing itself
inner_fault : first_fault 16 (program_with (variable a 4 ∷ [])
    (into a 7 11 (bin Add 11 (low 15 (plain a 15) 16) 25 (low 29 (plain a 29) 0)) ∷ []))
    ≡ Some (Width 11)
inner_fault = refl

-- var a; a = a + zext(a, 16);
not_wider : first_fault 16 (program_with (variable a 4 ∷ [])
    (into a 7 11 (bin Add 11 (plain a 11) 15 (zext 20 (plain a 20) 16)) ∷ []))
    ≡ Some (Width 15)
not_wider = refl

-- var a; a = low(zext(a, 65), 16);
too_wide : first_fault 16 (program_with (variable a 4 ∷ []) (into a 7 11 (low 15 (zext 20 (plain a 20) 65) 16) ∷ []))
    ≡ Some (Width 15)
too_wide = refl

-- var x[4], a; x[low(a, 8)] = 1;
narrow_index : first_fault 16 (program_with (array x 4 4 ∷ variable a 10 ∷ [])
    (stored x 13 15 (low 19 (plain a 19) 8) 29 (num 1) ∷ []))
    ≡ Some (Width 15)
narrow_index = refl

-- var x[0];
no_cells : first_fault 16 (program_with (array x 4 0 ∷ []) []) ≡ Some (Width 4)
no_cells = refl

-- var x[4], a; x[e] = 1;
indexed : SrcNodeModel → Option SrcFault
indexed e = first_fault 16 (program_with (array x 4 4 ∷ variable a 10 ∷ []) (stored x 13 15 e 20 (num 1) ∷ []))

last_cell : indexed (num 3) ≡ None
unfolding indexed
last_cell = refl

past_the_array : indexed (num 4) ≡ Some (Index 15)
unfolding indexed
past_the_array = refl

-- the literal of a range is a number alone: -1 has none
minus_one : indexed (un Neg 16 (num 1)) ≡ Some (Index 15)
unfolding indexed
minus_one = refl

-- whatever a is
masked : indexed (bin And 15 (plain a 15) 19 (num 3)) ≡ None
unfolding indexed
masked = refl

-- over whole numbers: 2 - 3 is below 0, and + 1 brings it back
below_zero : indexed (bin Sub 15 (num 2) 19 (num 3)) ≡ Some (Index 15)
unfolding indexed
below_zero = refl

back_again : indexed (bin Add 15 (bin Sub 15 (num 2) 19 (num 3)) 23 (num 1)) ≡ None
unfolding indexed
back_again = refl

doubled : indexed (bin Mul 15 (num 2) 19 (num 2)) ≡ Some (Index 15)
unfolding indexed
doubled = refl

-- no range of its own
unknown_range : indexed (plain a 15) ≡ Some (Index 15)
unfolding indexed
unknown_range = refl

-- var s, i, x[4]; for i = 0 to 4 { s = s + x[i]; }
abbrev summed : ℕ → ProgramModel
summed to = program_with (variable s 4 ∷ variable i 7 ∷ array x 10 4 ∷ [])
    (count i 20 0 to (stmts_of (into s 33 37 (bin Add 37 (plain s 37) 41 (element x 41 43 (plain i 43))) ∷ [])) ∷ [])

one_past_the_array : first_fault 16 (summed 4) ≡ Some (Index 43)
one_past_the_array = refl

within_the_array : first_fault 16 (summed 3) ≡ None
within_the_array = refl

-- var i; for i = 0 to 3 { i = 1; }
counter_assigned : first_fault 16
    (program_with (variable i 4 ∷ []) (count i 11 0 3 (stmts_of (into i 24 28 (num 1) ∷ [])) ∷ []))
    ≡ Some (Counter 11)
counter_assigned = refl

-- the same in a block within the loop: var i; for i = 0 to 3 { while i != 2 { i = 1; } }
counter_assigned_within : first_fault 16 (program_with (variable i 4 ∷ [])
    (count i 11 0 3 (stmts_of (while
    (record { cmp = Ne; left = phrase 30 (plain i 30); right = phrase 35 (num 2) })
    (stmts_of (into i 39 43 (num 1) ∷ [])) ∷ [])) ∷ []))
    ≡ Some (Counter 11)
counter_assigned_within = refl

-- var i; for i = .. to .. { }
turned : ℕ → ℕ → Option SrcFault
turned from to = first_fault 4 (program_with (variable i 4 ∷ []) (count i 11 from to (stmts_of []) ∷ []))

-- a loop of no turns
no_turn : turned 5 4 ≡ None
unfolding turned
no_turn = refl

out_of_order : turned 5 3 ≡ Some (Counter 11)
unfolding turned
out_of_order = refl

-- the number past the last one has to be a word too
last_word : turned 0 14 ≡ None
unfolding turned
last_word = refl

past_the_last_word : turned 0 15 ≡ Some (Counter 11)
unfolding turned
past_the_last_word = refl

-- var i, x[4]; for i = 0 to 3 { } x[i] = 0;  behind the loop its counter has no range
after_the_loop : first_fault 16 (program_with (variable i 4 ∷ array x 7 4 ∷ [])
    (count i 17 0 3 (stmts_of []) ∷ stored x 32 34 (plain i 34) 39 (num 0) ∷ []))
    ≡ Some (Index 34)
after_the_loop = refl

greatest_array : first_fault 16 (program_with (array x 4 65536 ∷ []) []) ≡ None
greatest_array = refl

too_many_cells : first_fault 16 (program_with (array x 4 65536 ∷ array h 14 65537 ∷ []) []) ≡ Some (Limit Length 65537 65536)
too_many_cells = refl

-- 1 + 1 + .., with so many signs: two nodes each, and one
abbrev sums : ℕ → SrcNodeModel
sums zero = num 1
sums (suc n) = bin Add 0 (sums n) 0 (num 1)

most_nodes : first_fault 16 (program_with (variable a 4 ∷ []) (into a 7 11 (sums 127) ∷ [])) ≡ None
most_nodes = refl

too_many_nodes : first_fault 16 (program_with (variable a 4 ∷ []) (into a 7 11 (un Neg 11 (sums 127)) ∷ []))
    ≡ Some (Limit Nodes 256 255)
too_many_nodes = refl

-- var x[250]; x[0] = x[1] + 1 + 2 + 3 + 4; and x[0] = 1 + 2 + 3 + 4;
abbrev plus : SrcNodeModel → ℕ → SrcNodeModel
plus e n = bin Add 0 e 0 (num n)

with_a_read : temp_count 16 (program_with (array x 4 250 ∷ [])
    (stored x 12 14 (num 0) 19 (plus (plus (plus (plus (element x 19 21 (num 1)) 1) 2) 3) 4) ∷ []))
    ≡ 7
with_a_read = refl

with_literals : temp_count 16 (program_with (array x 4 250 ∷ [])
    (stored x 12 14 (num 0) 19 (plus (plus (plus (num 1) 2) 3) 4) ∷ []))
    ≡ 6
with_literals = refl

-- a store through an index: the sum and the array's address, the index, and the value
stored_temps : temp_count 16 (program_with (array x 4 4 ∷ variable a 10 ∷ [])
    (stored x 13 15 (bin And 15 (plain a 15) 19 (num 3)) 25 (num 1) ∷ []))
    ≡ 5
stored_temps = refl

-- var a; while a != 0 { a = a - 1; }
counted_down : temp_count 16 (program_with (variable a 4 ∷ []) (while
    (record { cmp = Ne; left = phrase 13 (plain a 13); right = phrase 18 (num 0) })
    (stmts_of (into a 22 26 (bin Sub 26 (plain a 26) 30 (num 1)) ∷ [])) ∷ []))
    ≡ 3
counted_down = refl

-- a filter of eight taps: s = s + low(sext(x[i], 32) * sext(h[i], 32) >>> 15, 16), in a loop
abbrev tap : List ℕ → SrcNodeModel
tap name = sext 0 (element name 0 0 (plain i 0)) 32

abbrev filter : ProgramModel
filter = program_with (variable s 4 ∷ variable i 7 ∷ array x 10 8 ∷ array h 16 8 ∷ []) (into s 22 26 (num 0) ∷ count i 33 0 7
    (stmts_of (into s 46 50
    (bin Add 50 (plain s 50) 54 (low 58 (bin Sar 58 (bin Mul 58 (tap x) 0 (tap h)) 0 (num 15)) 16)) ∷ [])) ∷ [])

filter_kept : first_fault 16 filter ≡ None
filter_kept = refl

filter_temps : temp_count 16 filter ≡ 7
filter_temps = refl

-- the reads of both arrays have five nodes each, with the slice of the address
filter_nodes : node_count filter ≡ 18
filter_nodes = refl
