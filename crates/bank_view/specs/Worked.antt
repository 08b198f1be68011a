-- The view of a small netlist, computed: two reads, and two writes without a `when`, whose items
-- stand behind and between them.
use Rattle.std.specs.Prelude.{◌≡◌, ℕ, refl, List, [], ◌∷◌, None, Some}
use Rattle.rec_bits.specs.declared.operator.Op2.TheVariants.{Add, Or}
use Rattle.net_model.specs.declared.hardware.Cells.{Cells}
use Rattle.net_model.specs.declared.hardware.Net.{Net}
use Rattle.net_model.specs.declared.hardware.Netlist.{Netlist}
use Rattle.net_model.specs.declared.hardware.Gate.{Gate}
use Rattle.net_model.specs.declared.hardware.Storage.TheVariants.{Register, Memory, File}
use Rattle.net_model.specs.declared.hardware.Gate.TheVariants.{Word, Read, Const, Bin, Slice, Zext, Bus}
use Rattle.bank_view.specs.Views.{join_state, view_of}

abbrev net : ℕ → ℕ → Gate → Net
net width name_at gate = record { width = width; name_at = name_at; gate = gate }

-- cells of 4 bits at addresses of 2 bits, which take a net at that of net 1
abbrev taking : List ℕ → ℕ → ℕ → ℕ → Cells
taking name name_at size value =
    record { name = name; name_at = name_at; width = 4; size = size; addr_width = 2; value = value; addr = 1; when = None }

-- M has four cells and Y three; each takes what is read of it, at the same address
abbrev small : Netlist
small = record {
  nets = net 4 5 (Word 0) ∷ net 2 10 (Slice 0 1 0) ∷ net 4 20 (Read 1 1) ∷ net 4 30 (Read 2 1) ∷ [];
  storages =
      Register (80 ∷ []) 4 0 None ∷ Memory (taking (77 ∷ []) 40 4 2) ∷ File (taking (89 ∷ []) 25 3 3) ∷ [];
  codes = record { name = 73 ∷ []; bits = 4; words = 16; counter = 0 } ∷ [];
  edition = 4;
  special = Some 2;
}

view_nets : (view_of small).nets ≡
    net 4 5 (Word 0) ∷ net 2 10 (Slice 0 1 0)
    ∷ net 3 20 (Zext 1) ∷ net 4 20 (Read 1 2)
    ∷ net 3 25 (Zext 1) ∷ net 3 25 (Const 4) ∷ net 3 25 (Bin Add 4 5)
    ∷ net 3 30 (Zext 1) ∷ net 3 30 (Const 4) ∷ net 3 30 (Bin Add 7 8) ∷ net 4 30 (Read 1 9)
    ∷ net 3 40 (Zext 1) ∷ net 1 40 (Const 1) ∷ net 1 40 (Const 1)
    ∷ net 4 40 (Bus ((3, 12) ∷ (10, 13) ∷ [])) ∷ net 3 40 (Bus ((11, 12) ∷ (6, 13) ∷ []))
    ∷ net 1 40 (Bin Or 12 13) ∷ []
view_nets = refl

view_storages : (view_of small).storages
    ≡ Register (80 ∷ []) 4 0 None
    ∷ Memory (record { name = 77 ∷ []; name_at = 40; width = 4; size = 7; addr_width = 3; value = 14; addr = 15; when = Some 16 })
    ∷ []
view_storages = refl

-- the cells of both stand one behind the other, and the bank has no entry
joined : join_state small (record { regs = 1 ∷ 0 ∷ 0 ∷ []; cells = 2 ∷ 3 ∷ 4 ∷ 5 ∷ []; file = 6 ∷ 7 ∷ 8 ∷ [] })
    ≡ record { regs = 1 ∷ 0 ∷ []; cells = 2 ∷ 3 ∷ 4 ∷ 5 ∷ 6 ∷ 7 ∷ 8 ∷ []; file = [] }
joined = refl
