-- The forms of two small processors, as far as they are computed from expressions alone.
use Rattle.std.specs.Prelude.{◌≡◌, refl, true, false, [], ◌∷◌, Some, None}
use Rattle.rec_bits.specs.declared.operator.Op2.TheVariants.{Add, Eq}
use Rattle.net_model.specs.declared.hardware.Space.TheVariants.{Memory as InMemory, File as InFile}
use Rattle.net_model.specs.Exprs.{ExprModel, word, reg, const, read, bin, slice, zext, select, write, write_at}
use Rattle.net_model.specs.Worked.{a16, z16}
use Rattle.form_model.specs.Forms.{absolute, branches, into_memory, into_reg}
use Rattle.form_set.specs.Inner.Linear.{transfer_linear}
use Rattle.form_set.specs.Static.{transfer_shaped, transfer_shown}
use Rattle.operand_swaps.specs.Swaps.{swap_count, swapped, SidesModel}
use Rattle.form_set.specs.Targets.{expr_branch}
use Rattle.form_set.specs.Tied.{counted, tied_of}
use Rattle.form_set.specs.Words.{all_registers}
use Rattle.form_set.specs.Listing.{branch_form_models, counter_at, greatest_reach, jump_form_model, plain_form_models}

abbrev f : ExprModel
f = slice (word 12) 7 0

abbrev step : ExprModel
step = bin Add (reg 0 8) (const 8 1)

abbrev acc : ExprModel
acc = reg 1 16

-- the patterns of A16 in their order: PC := add(PC,1#8), PC := select(eq(ACC,0#16),f,add(PC,1#8)),
-- PC := f, ACC := add(ACC,read(M,f)), ACC := read(M,f), ACC := sub(ACC,read(M,f)), ACC :=
-- zext(f,16), M[f] := ACC
abbrev branch_value : ExprModel
branch_value = select (bin Eq acc (const 16 0)) f step

-- the branch of A16: PC occurs twice in it, and is free
a16_linear : transfer_linear 0 (write (bin Add acc (read InMemory f 16))) ≡ true
a16_linear = refl

a16_twice : transfer_linear 0 (write (bin Add acc acc)) ≡ false
a16_twice = refl

a16_bits : transfer_linear 0 (write_at f (bin Add acc (zext f 16))) ≡ false
a16_bits = refl

a16_branch : transfer_linear 1 (write branch_value) ≡ true
a16_branch = refl

-- PC is no more than the step
a16_branch_bits : transfer_linear 1 (write (select (bin Eq acc (zext f 16)) f step)) ≡ false
a16_branch_bits = refl

a16_shaped : transfer_shaped 1 (write_at f acc) ≡ true
a16_shaped = refl

-- an operator over instruction bits is no field shape
a16_unshaped : transfer_shaped 1 (write (bin Add acc (bin Add (zext f 16) (const 16 1)))) ≡ false
a16_unshaped = refl

a16_reach : greatest_reach (jump_form_model a16 2 f 255 ∷ []) ≡ 256
a16_reach = refl

a16_test : expr_branch 1 (counter_at a16) 256 branch_value
    ≡ Some (record { when_one = true; test = bin Eq acc (const 16 0); to = absolute f })
a16_test = refl

-- a target that reaches less
a16_near : expr_branch 1 (counter_at a16) 257 branch_value ≡ None
a16_near = refl

-- the other way round
a16_other : expr_branch 1 (counter_at a16) 256 (select (bin Eq acc (const 16 0)) step f)
    ≡ Some (record { when_one = false; test = bin Eq acc (const 16 0); to = absolute f })
a16_other = refl

a16_registers : all_registers a16.storages ≡ 3
a16_registers = refl

z16_registers : all_registers z16.storages ≡ 7
z16_registers = refl

-- pattern 3 of A16 has two forms, in this order
a16_sums : plain_form_models a16 3 (record { storage = 1; move = write (bin Add acc (read InMemory f 16)) }) 3
    ≡ record {
      pattern = 3;
      goal = into_reg 1;
      addr = None;
      value = bin Add acc (read InMemory f 16);
      fields = 255;
      clobbers = 3;
      tied = None;
    }
    ∷ record {
      pattern = 3;
      goal = into_reg 1;
      addr = None;
      value = bin Add (read InMemory f 16) acc;
      fields = 255;
      clobbers = 3;
      tied = None;
    }
    ∷ []
a16_sums = refl

a16_store : plain_form_models a16 7 (record { storage = 2; move = write_at f acc }) 5
    ≡ record { pattern = 7; goal = into_memory; addr = Some f; value = acc; fields = 255; clobbers = 5; tied = None } ∷ []
a16_store = refl

-- pattern 1 of A16 has two forms, and its step stays as it is
a16_branches : branch_form_models a16 1 (record { storage = 0; move = write branch_value })
    (record { when_one = true; test = bin Eq acc (const 16 0); to = absolute f })
    ≡ record {
      pattern = 1;
      goal = branches true (absolute f);
      addr = None;
      value = bin Eq acc (const 16 0);
      fields = 255;
      clobbers = 3;
      tied = None;
    }
    ∷ record {
      pattern = 1;
      goal = branches true (absolute f);
      addr = None;
      value = bin Eq (const 16 0) acc;
      fields = 255;
      clobbers = 3;
      tied = None;
    }
    ∷ []
a16_branches = refl

-- ---- transfers of a register file of four cells, in words of 17 bits

abbrev d : ExprModel
d = slice (word 17) 9 8

abbrev a : ExprModel
a = slice (word 17) 11 10

abbrev b : ExprModel
b = slice (word 17) 13 12

abbrev cell_at : ExprModel → ExprModel
cell_at at = read InFile at 16

abbrev sum_at : ExprModel → SidesModel
sum_at at = record { addr = Some at; value = bin Add (cell_at a) (cell_at b) }

-- three addresses of their own
sum_apart : transfer_linear 0 (counted true (write_at d (bin Add (cell_at a) (cell_at b)))) ≡ true
sum_apart = refl

sum_untied : tied_of true (sum_at d) ≡ None
sum_untied = refl

-- the first operand is read where the sum is written
sum_first : tied_of true (sum_at a) ≡ Some 0
sum_first = refl

sum_linear : transfer_linear 0 (counted true (write_at a (bin Add (cell_at a) (cell_at b)))) ≡ true
sum_linear = refl

-- with its operands swapped it is the second one
sum_swapped : tied_of true (swapped 1 (sum_at a)) ≡ Some 1
sum_swapped = refl

-- both can't be
both_tied : transfer_linear 0 (counted true (write_at a (bin Add (cell_at a) (cell_at a)))) ≡ false
both_tied = refl

-- what writes the memory has no tied read
stored_at : transfer_linear 0 (counted false (write_at a (cell_at a))) ≡ false
stored_at = refl

-- addresses of two bits show four cells, and not five
sum_shown : transfer_shown true 4 (write_at d (bin Add (cell_at a) (cell_at b))) ≡ true
sum_shown = refl

sum_hidden : transfer_shown true 5 (write_at d (bin Add (cell_at a) (cell_at b))) ≡ false
sum_hidden = refl

-- ---- sums as field shapes

abbrev next_cell : ExprModel
next_cell = bin Add d (const 2 1)

-- from edition 2 on
next_shaped : transfer_shaped 2 (write_at d (cell_at next_cell)) ≡ true
next_shaped = refl

next_unshaped : transfer_shaped 1 (write_at d (cell_at next_cell)) ≡ false
next_unshaped = refl

-- its operator isn't swapped
next_stays : swap_count (record { addr = Some d; value = bin Add (cell_at next_cell) (cell_at a) }) ≡ 1
next_stays = refl
