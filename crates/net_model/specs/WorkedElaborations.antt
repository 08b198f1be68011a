-- Netlists of small processors, from their items.
use Rattle.std.specs.Prelude.{ℕ, ◌≡◌, refl, List, [], ◌∷◌, Some, None, codes, false, true}
use Rattle.rec_bits.specs.declared.operator.Op1.TheVariants.{Not}
use Rattle.rec_bits.specs.declared.operator.Op2.TheVariants.{Add, Sub, Eq}
use Rattle.net_model.specs.declared.hardware.Space.TheVariants.{Memory as InMemory}
use Rattle.net_model.specs.declared.hardware.Storage.TheVariants.{Register}
use Rattle.net_model.specs.declared.hardware.Net.{Net}
use Rattle.net_model.specs.declared.hardware.Gate.{Gate}
use Rattle.net_model.specs.declared.hardware.Gate.TheVariants.{Word, Reg, Const, Wire, Un, Bin}
use Rattle.grammar.specs.declared.words.Ident.{Ident}
use Rattle.net_model.specs.declared.units.Port.{Port}
use Rattle.net_model.specs.declared.units.RegisterKind.TheVariants.{Plain}
use Rattle.net_model.specs.Written.{UnitModel, code, register, memory, net, bus, module_item, part, NetExprModel, named, const, un, bin, zext, read, case, no_rows, row, no_rest, rest}
use Rattle.net_model.specs.Elaborated.{netlist_in}
use Rattle.net_model.specs.Worked.{s8, a16, b2}

-- a net of an item at the beginning of the text
abbrev gate_net : ℕ → Gate → Net
gate_net width gate = record { width = width; name_at = 0; gate = gate }

-- a name at the beginning of the text
abbrev ident : List ℕ → Ident
ident name = record { name = name; at = 0 }

abbrev of : List ℕ → NetExprModel
of name = named (ident name) None None

-- the bits of a name
abbrev bits : List ℕ → ℕ → ℕ → NetExprModel
bits name hi lo = named (ident name) None (Some (hi, lo))

abbrev bit : List ℕ → ℕ → NetExprModel
bit name n = bits name n n

-- an output of a part
abbrev output : List ℕ → List ℕ → NetExprModel
output name field = named (ident name) (Some (ident field)) None

abbrev input_port : List ℕ → ℕ → Port
input_port name width = record { output = false; name = ident name; width = width }

abbrev output_port : List ℕ → ℕ → Port
output_port name width = record { output = true; name = ident name; width = width }

abbrev pub s8_items : List UnitModel
s8_items =
    code (ident (codes "I")) 8 16 (ident (codes "PC"))
    ∷ register Plain (ident (codes "PC")) 4
    (case (bit (codes "I") 7)
    (row (0 ∷ []) (bin Add (of (codes "PC")) (const 1 4)) (row (1 ∷ []) (bits (codes "I") 3 0) no_rows)) no_rest) None
    ∷ memory InMemory (ident (codes "M")) 5 4 2 (bits (codes "I") 4 0) (bits (codes "I") 6 5) (Some (un Not (bit (codes "I") 7)))
    ∷ []

pub s8_elaborated : netlist_in 1 s8_items ≡ s8
s8_elaborated = refl

abbrev pub a16_items : List UnitModel
a16_items =
    code (ident (codes "I")) 12 256 (ident (codes "PC"))
    ∷ module_item (ident (codes "ALU"))
    (input_port (codes "k") 2 ∷ input_port (codes "a") 16 ∷ input_port (codes "b") 16 ∷ output_port (codes "y") 16 ∷ [])
    ((
      ident (codes "y"),
      case (of (codes "k"))
          (row (1 ∷ []) (of (codes "b"))
          (row (2 ∷ []) (bin Add (of (codes "a")) (of (codes "b")))
          (row (3 ∷ []) (bin Sub (of (codes "a")) (of (codes "b"))) no_rows)))
          (rest (const 0 16)),
    )
    ∷ [])
    ∷ net (ident (codes "op")) 4 (bits (codes "I") 11 8)
    ∷ net (ident (codes "f")) 8 (bits (codes "I") 7 0)
    ∷ part (ident (codes "alu")) (ident (codes "ALU"))
    ((ident (codes "k"), bits (codes "op") 1 0) ∷ (ident (codes "a"), of (codes "ACC"))
    ∷ (ident (codes "b"), read (ident (codes "M")) (of (codes "f"))) ∷ [])
    ∷ register Plain (ident (codes "PC")) 8
    (case (of (codes "op"))
    (row (6 ∷ []) (of (codes "f"))
    (row (7 ∷ [])
    (case (bin Eq (of (codes "ACC")) (const 0 16))
    (row (1 ∷ []) (of (codes "f")) (row (0 ∷ []) (bin Add (of (codes "PC")) (const 1 8)) no_rows)) no_rest)
    no_rows))
    (rest (bin Add (of (codes "PC")) (const 1 8))))
    None
    ∷ register Plain (ident (codes "ACC")) 16
    (case (of (codes "op")) (row (5 ∷ []) (zext (of (codes "f")) 16) no_rows) (rest (output (codes "alu") (codes "y"))))
    (Some (case (of (codes "op")) (row (1 ∷ 2 ∷ 3 ∷ 5 ∷ []) (const 1 1) no_rows) (rest (const 0 1))))
    ∷ memory InMemory (ident (codes "M")) 16 256 8 (of (codes "ACC")) (of (codes "f"))
    (Some (bin Eq (of (codes "op")) (const 4 4)))
    ∷ []

pub a16_elaborated : netlist_in 1 a16_items ≡ a16
a16_elaborated = refl

abbrev pub b2_items : List UnitModel
b2_items =
    code (ident (codes "I")) 4 4 (ident (codes "PC"))
    ∷ register Plain (ident (codes "PC")) 2 (bin Add (of (codes "PC")) (const 1 2)) None
    ∷ register Plain (ident (codes "X")) 2 (of (codes "B")) None
    ∷ bus (ident (codes "B")) 2
    ((bits (codes "I") 3 2, bit (codes "I") 0) ∷ (un Not (of (codes "X")), bit (codes "I") 1) ∷ [])
    ∷ memory InMemory (ident (codes "M")) 2 1 1 (of (codes "X")) (const 0 1) (Some (const 0 1))
    ∷ []

pub b2_elaborated : netlist_in 1 b2_items ≡ b2
b2_elaborated = refl

-- code I : 4 size 2 at R;
-- module M (in a : 4, out y : 1) { y = eq(a, 3#4); }
-- part p : M (a = not(I));
-- register R : 1 in p.y;
abbrev at : List ℕ → ℕ → Ident
at name offset = record { name = name; at = offset }

abbrev pub part_items : List UnitModel
part_items =
    code (at (codes "I") 5) 4 2 (at (codes "R") 21)
    ∷ module_item (at (codes "M") 31)
    (record { output = false; name = at (codes "a") 37; width = 4 }
    ∷ record { output = true; name = at (codes "y") 48; width = 1 } ∷ [])
    ((at (codes "y") 57, bin Eq (named (at (codes "a") 64) None None) (const 3 4)) ∷ [])
    ∷ part (at (codes "p") 80) (at (codes "M") 84)
    ((at (codes "a") 87, un Not (named (at (codes "I") 95) None None)) ∷ [])
    ∷ register Plain (at (codes "R") 109) 1 (named (at (codes "p") 118) (Some (at (codes "y") 120)) None) None
    ∷ []

-- the link, the wires of the ports, and the equation, all numbered for the part
pub part_elaborated : netlist_in 1 part_items ≡ record {
  nets =
      record { width = 4; name_at = 5; gate = Word 0 }
      ∷ record { width = 4; name_at = 80; gate = Un Not 0 } ∷ record { width = 4; name_at = 80; gate = Wire 1 }
      ∷ record { width = 1; name_at = 80; gate = Wire 5 }
      ∷ record { width = 4; name_at = 80; gate = Const 3 } ∷ record { width = 1; name_at = 80; gate = Bin Eq 2 4 }
      ∷ record { width = 1; name_at = 109; gate = Reg 0 } ∷ [];
  storages = Register (codes "R") 1 3 None ∷ [];
  codes = record { name = codes "I"; bits = 4; words = 2; counter = 0 } ∷ [];
  edition = 1;
  special = None;
}
part_elaborated = refl

-- code I : 4 size 2 at R;
-- module M (in a : 4, out y : 1, out z : 4) { z = not(a); y = eq(a, 3#4); }
-- part p : M (a = I);
-- register R : 1 in p.y;
-- register Q : 4 in p.z;
abbrev pub outputs_items : List UnitModel
outputs_items =
    code (ident (codes "I")) 4 2 (ident (codes "R"))
    ∷ module_item (ident (codes "M"))
    (input_port (codes "a") 4 ∷ output_port (codes "y") 1 ∷ output_port (codes "z") 4 ∷ [])
    ((ident (codes "z"), un Not (of (codes "a"))) ∷ (ident (codes "y"), bin Eq (of (codes "a")) (const 3 4)) ∷ [])
    ∷ part (ident (codes "p")) (ident (codes "M")) ((ident (codes "a"), of (codes "I")) ∷ [])
    ∷ register Plain (ident (codes "R")) 1 (output (codes "p") (codes "y")) None
    ∷ register Plain (ident (codes "Q")) 4 (output (codes "p") (codes "z")) None
    ∷ []

-- the wires of the outputs and the nets of their equations come in the order of the ports, and not
-- of the equations
pub outputs_elaborated : netlist_in 1 outputs_items ≡ record {
  nets =
      gate_net 4 (Word 0) ∷ gate_net 4 (Wire 0)
      ∷ gate_net 1 (Wire 5) ∷ gate_net 4 (Wire 6)
      ∷ gate_net 4 (Const 3) ∷ gate_net 1 (Bin Eq 1 4) ∷ gate_net 4 (Un Not 1)
      ∷ gate_net 1 (Reg 0) ∷ gate_net 4 (Reg 1) ∷ [];
  storages = Register (codes "R") 1 2 None ∷ Register (codes "Q") 4 3 None ∷ [];
  codes = record { name = codes "I"; bits = 4; words = 2; counter = 0 } ∷ [];
  edition = 1;
  special = None;
}
outputs_elaborated = refl
