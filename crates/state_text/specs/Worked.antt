-- The text of a state with a register file, and lines that set its cells, computed.
use Rattle.std.specs.Prelude.{◌≡◌, refl, [], ◌∷◌, Some, None, codes}
use Rattle.std.specs.Fmt.{digits}
use Rattle.text_lines.specs.Fields.{line_end, number_of, parts_at}
use Rattle.net_model.specs.declared.hardware.Netlist.{Netlist}
use Rattle.net_model.specs.declared.hardware.Storage.TheVariants.{Register, Memory, File}
use Rattle.net_model.specs.declared.hardware.Space.TheVariants.{File as InFile}
use Rattle.net_model.specs.declared.states.State.{State}
use Rattle.state_text.specs.declared.setting.Setting.TheVariants.{Cell}
use Rattle.state_text.specs.Shown.{state_text}
use Rattle.state_text.specs.Inner.Settings.{array_at, cell_of, number_below, setting_at, setting_for, setting_of}

-- a program counter, a memory, and behind it a file of three cells of four bits
abbrev netlist : Netlist
netlist = record {
  nets = [];
  storages =
      Register (codes "PC") 2 0 None
      ∷ Memory (record { name = codes "M"; name_at = 0; width = 4; size = 2; addr_width = 1; value = 0; addr = 0; when = None })
      ∷ File (record { name = codes "R"; name_at = 0; width = 4; size = 3; addr_width = 2; value = 0; addr = 0; when = None })
      ∷ [];
  codes = record { name = codes "I"; bits = 5; words = 4; counter = 0 } ∷ [];
  edition = 2;
  special = None;
}

abbrev state : State
state = record { regs = 2 ∷ 0 ∷ 0 ∷ []; cells = 0 ∷ 5 ∷ []; file = 7 ∷ 0 ∷ 9 ∷ [] }

-- the file's cells that aren't 0 stand behind the registers and before the memory's
shown : state_text netlist 3 state ≡ codes "cycles 3\nPC 2\nR 0 7\nR 2 9\nM 1 5\ndone\n"
unfolding digits
shown = refl

-- ---- lines of the file

sets : setting_of netlist None (codes "R 2 15\n") ≡ Some (Cell InFile 2 15)
unfolding array_at cell_of line_end number_below number_of parts_at setting_at setting_for setting_of
sets = refl

-- an address past the file, and a value that is too wide
sets_no_cell : setting_of netlist None (codes "R 3 1\n") ≡ None
unfolding array_at cell_of line_end number_below number_of parts_at setting_at setting_for setting_of
sets_no_cell = refl

too_wide : setting_of netlist None (codes "R 2 16\n") ≡ None
unfolding array_at cell_of line_end number_below number_of parts_at setting_at setting_for setting_of
too_wide = refl
