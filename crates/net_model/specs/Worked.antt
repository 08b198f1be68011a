-- Four small processors as values, and what their nets and storages do at worked words and states.
use Rattle.std.specs.Prelude.{ℕ, ◌≡◌, refl, List, [], ◌∷◌, Some, None, codes}
use Rattle.rec_bits.specs.declared.operator.Op1.TheVariants.{Not}
use Rattle.rec_bits.specs.declared.operator.Op2.TheVariants.{Add, Sub, Eq}
use Rattle.net_model.specs.declared.hardware.Space.TheVariants.{Memory as InMemory}
use Rattle.net_model.specs.declared.hardware.Netlist.{Netlist}
use Rattle.net_model.specs.declared.hardware.Net.{Net}
use Rattle.net_model.specs.declared.hardware.Storage.TheVariants.{Register, Memory}
use Rattle.net_model.specs.declared.hardware.Gate.{Gate}
use Rattle.net_model.specs.declared.hardware.Gate.TheVariants.{Word, Reg, Read, Const, Wire, Un, Bin, Slice, Zext, Case, Bus}
use Rattle.net_model.specs.declared.states.State.{State}
use Rattle.net_model.specs.Exprs.{word, reg, const, read, bin, slice, select, keep, write, write_at}
use Rattle.net_model.specs.Value.{value_of}
use Rattle.net_model.specs.Clock.{clock, step, run, Next, Clash, Reached, Clashed}
use Rattle.net_model.specs.Symbolic.{no_state, sym_of}
use Rattle.net_model.specs.Meaning.{mean}
use Rattle.net_model.specs.Transfers.{transfer_at, counter_transfer, memory_transfer}

abbrev net : ℕ → Gate → Net
net width gate = record { width = width; name_at = 0; gate = gate }

-- code I : 8 size 16 at PC;
-- register PC : 4 in case I[7] { 0: add(PC, 1#4); 1: I[3:0]; };
-- memory M : 5 size 4 addr 2 write I[4:0] at I[6:5] when not(I[7]);
abbrev pub s8 : Netlist
s8 = record {
  nets =
      net 8 (Word 0)
      ∷ net 1 (Slice 0 7 7) ∷ net 4 (Const 1) ∷ net 4 (Bin Add 6 2) ∷ net 4 (Slice 0 3 0)
      ∷ net 4 (Case 1 ((0, 3) ∷ (1, 4) ∷ []) None) ∷ net 4 (Reg 0)
      ∷ net 5 (Slice 0 4 0) ∷ net 2 (Slice 0 6 5) ∷ net 1 (Slice 0 7 7) ∷ net 1 (Un Not 9) ∷ [];
  storages = Register (codes "PC") 4 5 None ∷ Memory (record { name = codes "M"; name_at = 0; width = 5; size = 4; addr_width = 2; value = 7; addr = 8; when = (Some 10) }) ∷ [];
  codes = record { name = codes "I"; bits = 8; words = 16; counter = 0 } ∷ [];
  edition = 1;
  special = None;
}

-- an accumulator, a memory, an adder and a branch where the accumulator is 0 op = I[11:8], f =
-- I[7:0]; ALU of k = op[1:0], a = ACC, b = read(M, f) PC : 8 in case op { 6: f; 7: case eq(ACC,
-- 0#16) { 1: f; 0: add(PC, 1#8); }; else: add(PC, 1#8); } ACC : 16 in case op { 5: zext(f, 16);
-- else: alu.y; } when case op { 1, 2, 3, 5: 1#1; else: 0#1; } M : 16 size 256 addr 8 write ACC at f
-- when eq(op, 4#4)
abbrev pub a16 : Netlist
a16 = record {
  nets =
      net 12 (Word 0) ∷ net 4 (Slice 0 11 8) ∷ net 4 (Wire 1) ∷ net 8 (Slice 0 7 0) ∷ net 8 (Wire 3)
      ∷ net 2 (Slice 2 1 0) ∷ net 2 (Wire 5) ∷ net 16 (Wire 29) ∷ net 16 (Read 2 4) ∷ net 16 (Wire 8) ∷ net 16 (Wire 14)
      ∷ net 16 (Bin Add 7 9) ∷ net 16 (Bin Sub 7 9) ∷ net 16 (Const 0)
      ∷ net 16 (Case 6 ((1, 9) ∷ (2, 11) ∷ (3, 12) ∷ []) (Some 13))
      ∷ net 16 (Const 0) ∷ net 1 (Bin Eq 29 15) ∷ net 8 (Const 1) ∷ net 8 (Bin Add 23 17)
      ∷ net 8 (Case 16 ((1, 4) ∷ (0, 18) ∷ []) None)
      ∷ net 8 (Const 1) ∷ net 8 (Bin Add 23 20) ∷ net 8 (Case 2 ((6, 4) ∷ (7, 19) ∷ []) (Some 21)) ∷ net 8 (Reg 0)
      ∷ net 16 (Zext 4) ∷ net 16 (Case 2 ((5, 24) ∷ []) (Some 10)) ∷ net 1 (Const 1) ∷ net 1 (Const 0)
      ∷ net 1 (Case 2 ((1, 26) ∷ (2, 26) ∷ (3, 26) ∷ (5, 26) ∷ []) (Some 27)) ∷ net 16 (Reg 1)
      ∷ net 4 (Const 4) ∷ net 1 (Bin Eq 2 30) ∷ [];
  storages =
      Register (codes "PC") 8 22 None ∷ Register (codes "ACC") 16 25 (Some 28)
      ∷ Memory (record { name = codes "M"; name_at = 0; width = 16; size = 256; addr_width = 8; value = 29; addr = 4; when = (Some 31) }) ∷ [];
  codes = record { name = codes "I"; bits = 12; words = 256; counter = 0 } ∷ [];
  edition = 1;
  special = None;
}

-- the same with a flag Z, which an addition or a subtraction sets, in place of eq(ACC, 0#16)
abbrev pub z16 : Netlist
z16 = record {
  nets =
      net 12 (Word 0) ∷ net 4 (Slice 0 11 8) ∷ net 4 (Wire 1) ∷ net 8 (Slice 0 7 0) ∷ net 8 (Wire 3)
      ∷ net 2 (Slice 2 1 0) ∷ net 2 (Wire 5) ∷ net 16 (Wire 27) ∷ net 16 (Read 3 4) ∷ net 16 (Wire 8) ∷ net 16 (Wire 14)
      ∷ net 16 (Bin Add 7 9) ∷ net 16 (Bin Sub 7 9) ∷ net 16 (Const 0)
      ∷ net 16 (Case 6 ((1, 9) ∷ (2, 11) ∷ (3, 12) ∷ []) (Some 13))
      ∷ net 8 (Const 1) ∷ net 8 (Bin Add 21 15) ∷ net 8 (Case 33 ((1, 4) ∷ (0, 16) ∷ []) None)
      ∷ net 8 (Const 1) ∷ net 8 (Bin Add 21 18) ∷ net 8 (Case 2 ((6, 4) ∷ (7, 17) ∷ []) (Some 19)) ∷ net 8 (Reg 0)
      ∷ net 16 (Zext 4) ∷ net 16 (Case 2 ((5, 22) ∷ []) (Some 10)) ∷ net 1 (Const 1) ∷ net 1 (Const 0)
      ∷ net 1 (Case 2 ((1, 24) ∷ (2, 24) ∷ (3, 24) ∷ (5, 24) ∷ []) (Some 25)) ∷ net 16 (Reg 1)
      ∷ net 16 (Const 0) ∷ net 1 (Bin Eq 10 28) ∷ net 1 (Const 1) ∷ net 1 (Const 0)
      ∷ net 1 (Case 2 ((2, 30) ∷ (3, 30) ∷ []) (Some 31)) ∷ net 1 (Reg 2)
      ∷ net 4 (Const 4) ∷ net 1 (Bin Eq 2 34) ∷ [];
  storages =
      Register (codes "PC") 8 20 None ∷ Register (codes "ACC") 16 23 (Some 26) ∷ Register (codes "Z") 1 29 (Some 32)
      ∷ Memory (record { name = codes "M"; name_at = 0; width = 16; size = 256; addr_width = 8; value = 27; addr = 4; when = (Some 35) }) ∷ [];
  codes = record { name = codes "I"; bits = 12; words = 256; counter = 0 } ∷ [];
  edition = 1;
  special = None;
}

-- code I : 4 size 4 at PC;
-- register PC : 2 in add(PC, 1#2);
-- register X : 2 in B;
-- bus B : 2 { I[3:2] when I[0]; not(X) when I[1]; }
-- memory M : 2 size 1 addr 1 write X at 0#1 when 0#1;
abbrev pub b2 : Netlist
b2 = record {
  nets =
      net 4 (Word 0) ∷ net 2 (Const 1) ∷ net 2 (Bin Add 3 1) ∷ net 2 (Reg 0) ∷ net 2 (Reg 1)
      ∷ net 2 (Slice 0 3 2) ∷ net 1 (Slice 0 0 0) ∷ net 2 (Un Not 4) ∷ net 1 (Slice 0 1 1)
      ∷ net 2 (Bus ((5, 6) ∷ (7, 8) ∷ []))
      ∷ net 1 (Const 0) ∷ net 1 (Const 0) ∷ [];
  storages =
      Register (codes "PC") 2 2 None ∷ Register (codes "X") 2 9 None
      ∷ Memory (record { name = codes "M"; name_at = 0; width = 2; size = 1; addr_width = 1; value = 4; addr = 10; when = (Some 11) }) ∷ [];
  codes = record { name = codes "I"; bits = 4; words = 4; counter = 0 } ∷ [];
  edition = 1;
  special = None;
}

abbrev state : List ℕ → List ℕ → State
state regs cells = record { regs = regs; cells = cells; file = [] }

-- ---- clocks

-- the word 3f puts 31 into cell 1, and the word 82 jumps to 2 and keeps the memory
pub s8_stores : clock s8 (63 ∷ []) (state (0 ∷ 0 ∷ []) (7 ∷ 8 ∷ 9 ∷ 10 ∷ []))
    ≡ Next (state (1 ∷ 0 ∷ []) (7 ∷ 31 ∷ 9 ∷ 10 ∷ []))
s8_stores = refl

pub s8_jumps : clock s8 (130 ∷ []) (state (0 ∷ 0 ∷ []) (7 ∷ 8 ∷ 9 ∷ 10 ∷ []))
    ≡ Next (state (2 ∷ 0 ∷ []) (7 ∷ 8 ∷ 9 ∷ 10 ∷ []))
s8_jumps = refl

-- past the words stands 0, which puts 0 into cell 0
pub s8_past : clock s8 [] (state (15 ∷ 0 ∷ []) (7 ∷ 8 ∷ 9 ∷ 10 ∷ [])) ≡ Next (state (0 ∷ 0 ∷ []) (0 ∷ 8 ∷ 9 ∷ 10 ∷ []))
s8_past = refl

-- the word 201 adds cell 1 to the accumulator; 701 branches where it is 0, and steps where it isn't
pub a16_adds : clock a16 (513 ∷ []) (state (0 ∷ 2 ∷ 0 ∷ []) (0 ∷ 65535 ∷ []))
    ≡ Next (state (1 ∷ 1 ∷ 0 ∷ []) (0 ∷ 65535 ∷ []))
a16_adds = refl

pub a16_branches : step a16 (state (9 ∷ 0 ∷ 0 ∷ []) []) 1793 ≡ Next (state (1 ∷ 0 ∷ 0 ∷ []) [])
a16_branches = refl

pub a16_goes_on : step a16 (state (9 ∷ 5 ∷ 0 ∷ []) []) 1793 ≡ Next (state (10 ∷ 5 ∷ 0 ∷ []) [])
a16_goes_on = refl

-- the word 401 puts the accumulator into cell 1; an address past the cells changes nothing
pub a16_stores : step a16 (state (0 ∷ 6 ∷ 0 ∷ []) (1 ∷ 2 ∷ [])) 1025 ≡ Next (state (1 ∷ 6 ∷ 0 ∷ []) (1 ∷ 6 ∷ []))
a16_stores = refl

pub a16_stores_past : step a16 (state (0 ∷ 6 ∷ 0 ∷ []) (1 ∷ 2 ∷ [])) 1026 ≡ Next (state (1 ∷ 6 ∷ 0 ∷ []) (1 ∷ 2 ∷ []))
a16_stores_past = refl

-- both registers of b2 change at one edge, from old values; a bus that nothing drives gives 0
pub b2_inverts : step b2 (state (3 ∷ 1 ∷ 0 ∷ []) (0 ∷ [])) 2 ≡ Next (state (0 ∷ 2 ∷ 0 ∷ []) (0 ∷ []))
b2_inverts = refl

pub b2_undriven : step b2 (state (0 ∷ 3 ∷ 0 ∷ []) (0 ∷ [])) 12 ≡ Next (state (1 ∷ 0 ∷ 0 ∷ []) (0 ∷ []))
b2_undriven = refl

-- the word 03 enables both drivers of the bus, which is net 9
pub b2_clashes : step b2 (state (0 ∷ 3 ∷ 0 ∷ []) (0 ∷ [])) 3 ≡ Clash 9
b2_clashes = refl

pub b2_runs : run b2 (0 ∷ 1 ∷ 2 ∷ 3 ∷ []) (state (0 ∷ 0 ∷ 0 ∷ []) (0 ∷ [])) 3
    ≡ Reached (state (3 ∷ 3 ∷ 0 ∷ []) (0 ∷ []))
b2_runs = refl

pub b2_runs_on : run b2 (0 ∷ 1 ∷ 2 ∷ 3 ∷ []) (state (0 ∷ 0 ∷ 0 ∷ []) (0 ∷ [])) 5 ≡ Clashed 3 9
b2_runs_on = refl

-- ---- transfers

-- under the word 3f the memory of s8 takes one field at another, and the program counter steps
pub s8_writes : memory_transfer s8 63 ≡ write_at (slice (word 8) 6 5) (slice (word 8) 4 0)
s8_writes = refl

pub s8_steps : counter_transfer s8 63 ≡ write (bin Add (reg 0 4) (const 4 1))
s8_steps = refl

pub s8_keeps : memory_transfer s8 130 ≡ keep
s8_keeps = refl

pub s8_goes : counter_transfer s8 130 ≡ write (slice (word 8) 3 0)
s8_goes = refl

-- a subtraction of z16 writes the accumulator and the flag, and keeps the memory
pub z16_subtracts : transfer_at z16 771 1 ≡ write (bin Sub (reg 1 16) (read InMemory (slice (word 12) 7 0) 16))
z16_subtracts = refl

pub z16_flags : transfer_at z16 771 2 ≡ write (bin Eq (bin Sub (reg 1 16) (read InMemory (slice (word 12) 7 0) 16)) (const 16 0))
z16_flags = refl

pub z16_keeps : memory_transfer z16 771 ≡ keep
z16_keeps = refl

-- a selector of one bit that isn't static becomes a choice
pub z16_branches : counter_transfer z16 1795
    ≡ write (select (reg 2 1) (slice (word 12) 7 0) (bin Add (reg 0 8) (const 8 1)))
z16_branches = refl

-- ---- symbolic values and their meaning

-- net 14 of a16, the adder, under the word 305
pub a16_symbol : sym_of a16 773 14 ≡ bin Sub (reg 1 16) (read InMemory (slice (word 12) 7 0) 16)
a16_symbol = refl

pub a16_means : mean (sym_of a16 771 14) (state (0 ∷ 2 ∷ 0 ∷ []) (0 ∷ 0 ∷ 0 ∷ 5 ∷ [])) 771
    ≡ value_of a16 (state (0 ∷ 2 ∷ 0 ∷ []) (0 ∷ 0 ∷ 0 ∷ 5 ∷ [])) 771 14
a16_means = refl

-- 2 - 5 of 16 bits
pub a16_value : value_of a16 (state (0 ∷ 2 ∷ 0 ∷ []) (0 ∷ 0 ∷ 0 ∷ 5 ∷ [])) 771 14 ≡ 65533
a16_value = refl

-- ---- nets that depend on themselves still have a value: 0 behind as many gates as there are nets

abbrev pub ring : Netlist
ring = record { nets = net 1 (Un Not 1) ∷ net 1 (Wire 0) ∷ []; storages = []; codes = []; edition = 1; special = None }

pub ring_value : value_of ring no_state 0 0 ≡ 1
ring_value = refl
