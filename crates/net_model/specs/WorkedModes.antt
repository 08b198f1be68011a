-- A processor with a mode register as a value, and what it is in its two modes.
use Rattle.std.specs.Prelude.{ℕ, ◌≡◌, refl, List, [], ◌∷◌, map, Some, None, codes, true, false}
use Rattle.grammar.specs.declared.words.Word.TheVariants.{Name, Number, Symbol as Shows, Key as Keyed}
use Rattle.rec_bits.specs.declared.operator.Op2.TheVariants.{Add, Sub, Eq}
use Rattle.net_model.specs.declared.hardware.Netlist.{Netlist}
use Rattle.net_model.specs.declared.hardware.Net.{Net}
use Rattle.net_model.specs.declared.hardware.Storage.TheVariants.{Register, Memory}
use Rattle.net_model.specs.declared.hardware.Gate.{Gate}
use Rattle.net_model.specs.declared.hardware.Gate.TheVariants.{Word, Reg, Read, Const, Wire, Bin, Slice, Zext, Case}
use Rattle.net_model.specs.declared.hardware.Space.TheVariants.{Memory as InMemory}
use Rattle.net_model.specs.declared.states.State.{State}
use Rattle.net_model.specs.Exprs.{ExprModel, word, reg, read, bin, slice, select, keep, write}
use Rattle.net_model.specs.Clock.{clock, run, Next, Reached}
use Rattle.net_model.specs.Transfers.{transfer_at}
use Rattle.net_model.specs.CheckedRules.{HasMode}
use Rattle.net_model.specs.Editions.{Lexed, edited, Word as Spelled}
use Rattle.net_model.specs.Elaborated.{lone_mode}
use Rattle.net_model.specs.Fixed.{fixed_of, mode_in}
use Rattle.net_model.specs.ModeRules.{bases_of}
use Rattle.net_model.specs.Symbolic.{is_static}
use Rattle.net_model.specs.declared.words.Key.TheVariants.{Item}
use Rattle.net_model.specs.declared.words.ItemWord.TheVariants.{Mode as ItemMode}
use Rattle.net_model.specs.declared.words.Symbol.TheVariants.{Version}

abbrev net : ℕ → Gate → Net
net width gate = record { width = width; name_at = 0; gate = gate }

-- an accumulator machine whose adder subtracts while the mode S is 1; op = I[11:8], f = I[7:0], k =
-- op[1:0], a = ACC, b = read(M, f)
-- PC : 8 in case op { 6: f; 7: case eq(ACC, 0#16) { 1: f; 0: add(PC, 1#8); }; else: add(PC, 1#8); }
-- ACC : 16 in case op { 5: zext(f, 16); else: y; } when case op { 1, 2, 5: 1#1; else: 0#1; }
-- y = case k { 1: b; 2: case S { 0: add(a, b); 1: sub(a, b); }; else: 0#16; }
-- S : 1 in I[0] when eq(op, 3#4)
-- M : 16 size 256 addr 8 write ACC at f when eq(op, 4#4)
abbrev pub s16 : Netlist
s16 = record {
  nets =
      net 12 (Word 0) ∷ net 4 (Slice 0 11 8) ∷ net 4 (Wire 1) ∷ net 8 (Slice 0 7 0) ∷ net 8 (Wire 3)
      ∷ net 2 (Slice 2 1 0) ∷ net 2 (Wire 5) ∷ net 16 (Wire 29) ∷ net 16 (Read 3 4) ∷ net 16 (Wire 8) ∷ net 16 (Wire 14)
      ∷ net 16 (Bin Add 7 9) ∷ net 16 (Bin Sub 7 9) ∷ net 16 (Const 0)
      ∷ net 16 (Case 6 ((1, 9) ∷ (2, 32) ∷ []) (Some 13))
      ∷ net 16 (Const 0) ∷ net 1 (Bin Eq 29 15) ∷ net 8 (Const 1) ∷ net 8 (Bin Add 23 17)
      ∷ net 8 (Case 16 ((1, 4) ∷ (0, 18) ∷ []) None)
      ∷ net 8 (Const 1) ∷ net 8 (Bin Add 23 20) ∷ net 8 (Case 2 ((6, 4) ∷ (7, 19) ∷ []) (Some 21)) ∷ net 8 (Reg 0)
      ∷ net 16 (Zext 4) ∷ net 16 (Case 2 ((5, 24) ∷ []) (Some 10)) ∷ net 1 (Const 1) ∷ net 1 (Const 0)
      ∷ net 1 (Case 2 ((1, 26) ∷ (2, 26) ∷ (5, 26) ∷ []) (Some 27)) ∷ net 16 (Reg 1)
      ∷ net 4 (Const 4) ∷ net 1 (Bin Eq 2 30)
      ∷ net 16 (Case 33 ((0, 11) ∷ (1, 12) ∷ []) None) ∷ net 1 (Wire 34) ∷ net 1 (Reg 2)
      ∷ net 1 (Slice 0 0 0) ∷ net 4 (Const 3) ∷ net 1 (Bin Eq 2 36) ∷ [];
  storages =
      Register (codes "PC") 8 22 None ∷ Register (codes "ACC") 16 25 (Some 28) ∷ Register (codes "S") 1 35 (Some 37)
      ∷ Memory (record { name = codes "M"; name_at = 0; width = 16; size = 256; addr_width = 8; value = 29; addr = 4; when = Some 31 }) ∷ [];
  codes = record { name = codes "I"; bits = 12; words = 256; counter = 0 } ∷ [];
  edition = 3;
  special = Some 2;
}

abbrev state : List ℕ → List ℕ → State
state regs cells = record { regs = regs; cells = cells; file = [] }

abbrev f : ExprModel
f = slice (word 12) 7 0

abbrev acc : ExprModel
acc = reg 1 16

-- ---- transfers

-- the word 201 adds in mode 0 and subtracts in mode 1; of the netlist itself its transfer is a
-- choice by the mode
s16_adds : transfer_at (fixed_of 2 0 s16) 513 1 ≡ write (bin Add acc (read InMemory f 16))
s16_adds = refl

s16_subtracts : transfer_at (fixed_of 2 1 s16) 513 1 ≡ write (bin Sub acc (read InMemory f 16))
s16_subtracts = refl

s16_chooses : transfer_at s16 513 1 ≡ write (select (reg 2 1) (bin Sub acc (read InMemory f 16)) (bin Add acc (read InMemory f 16)))
s16_chooses = refl

-- the word 301 puts 1 into the mode, in either mode, and the word 201 keeps the mode
s16_puts : transfer_at (fixed_of 2 0 s16) 769 2 ≡ write (slice (word 12) 0 0)
s16_puts = refl

s16_puts_back : transfer_at (fixed_of 2 1 s16) 768 2 ≡ write (slice (word 12) 0 0)
s16_puts_back = refl

s16_keeps : transfer_at (fixed_of 2 1 s16) 513 2 ≡ keep
s16_keeps = refl

-- ---- clocks

-- while the mode is 1 a clock of the netlist is one of mode 1, and not of mode 0
s16_clock : clock s16 (513 ∷ []) (state (0 ∷ 9 ∷ 1 ∷ 0 ∷ []) (7 ∷ 4 ∷ []))
    ≡ clock (fixed_of 2 1 s16) (513 ∷ []) (state (0 ∷ 9 ∷ 1 ∷ 0 ∷ []) (7 ∷ 4 ∷ []))
s16_clock = refl

s16_clock_one : clock s16 (513 ∷ []) (state (0 ∷ 9 ∷ 1 ∷ 0 ∷ []) (7 ∷ 4 ∷ []))
    ≡ Next (state (1 ∷ 5 ∷ 1 ∷ 0 ∷ []) (7 ∷ 4 ∷ []))
s16_clock_one = refl

s16_clock_zero : clock (fixed_of 2 0 s16) (513 ∷ []) (state (0 ∷ 9 ∷ 1 ∷ 0 ∷ []) (7 ∷ 4 ∷ []))
    ≡ Next (state (1 ∷ 13 ∷ 1 ∷ 0 ∷ []) (7 ∷ 4 ∷ []))
s16_clock_zero = refl

-- x = a - b: 1 into the mode, load, subtract, store, 0 into the mode
s16_run : run s16 (769 ∷ 256 ∷ 513 ∷ 1026 ∷ 768 ∷ 1541 ∷ []) (state (0 ∷ 0 ∷ 0 ∷ 0 ∷ []) (9 ∷ 4 ∷ 0 ∷ [])) 5
    ≡ Reached (state (5 ∷ 5 ∷ 0 ∷ 0 ∷ []) (9 ∷ 4 ∷ 5 ∷ []))
s16_run = refl

-- with the mode left at 1 behind it, the next program's words would subtract, too
s16_left : mode_in (Some 2) (state (4 ∷ 5 ∷ 1 ∷ 0 ∷ []) (9 ∷ 4 ∷ 5 ∷ [])) ≡ 1
s16_left = refl

-- ---- texts

abbrev tokens : List Spelled → List Lexed
tokens words = map (λ word. record { word = word; at = 0 }) words

-- in a text of the third edition `mode` is reserved, and `file` a name
pub third_words : edited (tokens (Name (codes "version") ∷ Number 3 ∷ Name (codes "mode") ∷ Name (codes "file") ∷ []))
    ≡ tokens (Shows Version ∷ Number 3 ∷ Keyed (Item ItemMode) ∷ Name (codes "file") ∷ [])
third_words = refl

-- one mode of 2 bits at most is the mode; one of 3, two of them and none are not
pub one_mode : lone_mode ((4, 2) ∷ []) ≡ Some 4
one_mode = refl

pub wide_mode : lone_mode ((4, 3) ∷ []) ≡ None
wide_mode = refl

pub two_modes : lone_mode ((4, 1) ∷ (6, 1) ∷ []) ≡ None
two_modes = refl

pub no_modes : lone_mode [] ≡ None
no_modes = refl

-- ---- rules

-- a netlist of the edition without a mode lacks it
pub modeless_breaks : HasMode (record s16 { special = None }) → ⊥
modeless_breaks h = h

-- s16 has two modes, and is of the first edition in each
pub s16_bases : bases_of s16 ≡ fixed_of 2 0 s16 ∷ fixed_of 2 1 s16 ∷ []
s16_bases = refl

-- in a mode the output of the mode register is static
pub s16_moves : is_static s16 33 ≡ false
s16_moves = refl

pub s16_stands : is_static (fixed_of 2 1 s16) 33 ≡ true
s16_stands = refl
