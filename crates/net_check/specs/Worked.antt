-- Small netlists: two of the first edition, and one with a register file.
use Rattle.std.specs.Prelude.{ℕ, ◌<◌, ◌≡◌, [], ◌∷◌, Some, None, codes}
use Rattle.rec_bits.specs.declared.operator.Op1.TheVariants.{Not}
use Rattle.rec_bits.specs.declared.operator.Op2.TheVariants.{Lts}
use Rattle.net_model.specs.declared.hardware.Netlist.{Netlist}
use Rattle.net_model.specs.declared.hardware.Net.{Net}
use Rattle.net_model.specs.declared.hardware.Storage.TheVariants.{Register, Memory, File}
use Rattle.net_model.specs.declared.hardware.Gate.{Gate}
use Rattle.net_model.specs.declared.hardware.Gate.TheVariants.{Word, Reg, Wire, Un, Bin, Slice, Case}
use Rattle.net_model.specs.Nets.{width_at}

abbrev pub net : ℕ → ℕ → Gate → Net
net width name_at gate = record { width = width; name_at = name_at; gate = gate }

-- the nets 1 and 2 lie on a cycle, and net 0 leads into it
abbrev pub looped : Netlist
looped = record {
  nets = net 1 10 (Wire 2) ∷ net 1 30 (Un Not 2) ∷ net 1 20 (Wire 1) ∷ [];
  storages = [];
  codes = [];
  edition = 1;
  special = None;
}

-- code I : 2 size 4 at PC;
-- register PC : 2 in case SEL { 0: I; else: PC; };
-- memory M : 2 size 4 addr 2 write I at I when ENABLE;
-- where the nets are I, PC, I[0:0], PC[0:0], lts(I, I) and the case
abbrev pub small : ℕ → ℕ → Netlist
small sel enable = record {
  nets =
      net 2 10 (Word 0) ∷ net 2 20 (Reg 0) ∷ net 1 30 (Slice 0 0 0) ∷ net 1 40 (Slice 1 0 0) ∷ net 1 50 (Bin Lts 0 0)
      ∷ net 2 60 (Case sel ((0, 0) ∷ []) (Some 1)) ∷ [];
  storages = Register (codes "PC") 2 5 None ∷ Memory (record { name = codes "M"; name_at = 0; width = 2; size = 4; addr_width = 2; value = 0; addr = 0; when = Some enable }) ∷ [];
  codes = record { name = codes "I"; bits = 2; words = 4; counter = 0 } ∷ [];
  edition = 1;
  special = None;
}

-- version 2;
-- code I : 2 size 4 at PC;
-- register PC : 2 in I;
-- file R : 2 size SIZE addr 2 write I at ADDR;
-- memory M : 2 size 4 addr 2 write I at I;
-- where the nets are I and PC
abbrev pub filed : ℕ → ℕ → Netlist
filed size addr = record {
  nets = net 2 10 (Word 0) ∷ net 2 20 (Reg 0) ∷ [];
  storages =
      Register (codes "PC") 2 0 None
      ∷ File (record { name = codes "R"; name_at = 0; width = 2; size = size; addr_width = 2; value = 0; addr = addr; when = None })
      ∷ Memory (record { name = codes "M"; name_at = 0; width = 2; size = 4; addr_width = 2; value = 0; addr = 0; when = None }) ∷ [];
  codes = record { name = codes "I"; bits = 2; words = 4; counter = 0 } ∷ [];
  edition = 2;
  special = None;
}

-- a selector is a net, and an enable one of one bit
pub record AreControls (sel enable : ℕ) : Type 0 where
  pub selects : sel < 6
  pub enables : enable < 6
  pub narrow : width_at (small sel enable) enable ≡ 1
