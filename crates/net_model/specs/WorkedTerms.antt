-- Worked expressions and transfers: symbolic values of small gates, steps, what occurs, and what
-- the code's values are seen as.
use Rattle.std.specs.Prelude.{ℕ, ◌≡◌, refl, [], ◌∷◌, Some, None, codes, true, false}
use mathlib.Core.Logic.{inl, inr}
use Rattle.rec_bits.specs.declared.operator.Op2.TheVariants.{Add}
use Rattle.net_model.specs.declared.hardware.Space.TheVariants.{Memory as InMemory}
use Rattle.net_model.specs.declared.hardware.Netlist.{Netlist}
use Rattle.net_model.specs.declared.hardware.Net.{Net}
use Rattle.net_model.specs.declared.hardware.Storage.TheVariants.{Register}
use Rattle.net_model.specs.declared.hardware.Gate.{Gate}
use Rattle.net_model.specs.declared.hardware.Gate.TheVariants.{Word, Reg, Const, Bin, Slice, Cat, Sext}
use Rattle.net_model.specs.Exprs.{ExprModel, word, reg, const, read, bin, slice, cat, sext, keep, write, write_at}
use Rattle.net_model.specs.Value.{value_of}
use Rattle.net_model.specs.Symbolic.{no_state, sliced, sym_of}
use Rattle.net_model.specs.Fields.{fields, transfer_fields}
use Rattle.net_model.specs.Occurs.{occurs, has_read, register_uses, bit_uses, transfer_bit_uses, registers}
use Rattle.net_model.specs.Transfers.{clash_at, counter_transfer, transfer_at, Steps}
use Rattle.net_model.specs.Worked.{b2}

abbrev net : ℕ → Gate → Net
net width gate = record { width = width; name_at = 0; gate = gate }

-- ---- symbolic values

-- code I : 8 size 4 at PC;
-- register PC : 2 in add(1#2, PC);
-- register X : 4 in X;
-- register Y : 8 in cat(X, sext(I[5:2][2:1], 4));
abbrev pub k8 : Netlist
k8 = record {
  nets =
      net 8 (Word 0) ∷ net 2 (Const 1) ∷ net 2 (Reg 0) ∷ net 2 (Bin Add 1 2) ∷ net 4 (Reg 1)
      ∷ net 4 (Slice 0 5 2) ∷ net 2 (Slice 5 2 1) ∷ net 4 (Sext 6) ∷ net 8 (Cat 4 7)
      ∷ net 8 (Slice 0 7 0) ∷ net 4 (Slice 8 3 0) ∷ [];
  storages = Register (codes "PC") 2 3 None ∷ Register (codes "X") 4 4 None ∷ Register (codes "Y") 8 8 None ∷ [];
  codes = record { name = codes "I"; bits = 8; words = 4; counter = 0 } ∷ [];
  edition = 1;
  special = None;
}

-- a slice of a slice is one slice
pub slice_of_slice : sym_of k8 0 6 ≡ slice (word 8) 4 3
slice_of_slice = refl

-- a slice of the full width is its operand
pub full_slice : sym_of k8 0 9 ≡ word 8
full_slice = refl

-- so it is for a slice of one bit of a register of one bit, and not for a part of the width
pub one_bit : sliced (reg 0 1) 0 0 ≡ reg 0 1
one_bit = refl

pub part_of_cat : sym_of k8 0 10 ≡ slice (cat (reg 1 4) (sext (slice (word 8) 4 3) 4)) 3 0
part_of_cat = refl

-- a bus without an enabled driver is the constant 0, and its value is 0
pub undriven_symbol : sym_of b2 12 9 ≡ const 2 0
undriven_symbol = refl

pub undriven_value : value_of b2 no_state 12 9 ≡ 0
undriven_value = refl

-- with one enabled driver it is that driver's
pub driven_symbol : sym_of b2 1 9 ≡ slice (word 4) 3 2
driven_symbol = refl

-- ---- clashes

pub clash_of_both : clash_at b2 3 ≡ Some 9
clash_of_both = refl

pub clash_of_one : clash_at b2 1 ≡ None
clash_of_one = refl

-- ---- transfers

-- a register that would take its own value keeps
pub own_value : transfer_at k8 0 1 ≡ keep
own_value = refl

pub joined : transfer_at k8 0 2 ≡ write (cat (reg 1 4) (sext (slice (word 8) 4 3) 4))
joined = refl

-- the word 24 has ones in bits 4 and 3, and the extension repeats bit 4
pub joined_value : value_of k8 (record { regs = 0 ∷ 5 ∷ 0 ∷ []; cells = []; file = [] }) 24 8 ≡ 95
joined_value = refl

-- the counter plus 1 steps, and so does 1 plus the counter
pub k8_next : counter_transfer k8 0 ≡ write (bin Add (const 2 1) (reg 0 2))
k8_next = refl

pub k8_steps : Steps k8 0
k8_steps = record { step = inr refl }

pub b2_steps : Steps b2 0
b2_steps = record { step = inl refl }

-- ---- what occurs

-- add(X, cat(X[1:0], I[3:2])) takes four bits of X twice, and two bits of the word once
abbrev pub sum : ExprModel
sum = bin Add (reg 1 4) (cat (slice (reg 1 4) 1 0) (slice (word 8) 3 2))

pub sum_fields : fields sum ≡ 12
sum_fields = refl

pub sum_uses : register_uses 1 sum ≡ 2
sum_uses = refl

pub sum_registers : registers sum ≡ 2
sum_registers = refl

pub sum_bit : bit_uses 2 sum ≡ 1
sum_bit = refl

pub sum_other_bit : bit_uses 4 sum ≡ 0
sum_other_bit = refl

pub sum_occurs : occurs 1 sum ≡ true
sum_occurs = refl

pub sum_lacks : occurs 2 sum ≡ false
sum_lacks = refl

-- a slice of anything but the word has the bits of what it is a slice of
pub deep_fields : fields (slice (read InMemory (slice (word 8) 6 5) 5) 1 0) ≡ 96
deep_fields = refl

pub deep_read : has_read (slice (read InMemory (slice (word 8) 6 5) 5) 1 0) ≡ true
deep_read = refl

-- a store has the bits of its address and of its value
pub store_fields : transfer_fields (write_at (slice (word 8) 6 5) (slice (word 8) 4 0)) ≡ 127
store_fields = refl

-- address and value are counted together
pub store_twice : transfer_bit_uses 5 (write_at (slice (word 8) 6 5) (slice (word 8) 5 0)) ≡ 2
store_twice = refl
