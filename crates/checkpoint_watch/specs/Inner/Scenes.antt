-- Where to look: the marks of an image, and the cells of its variables.
use Rattle.std.specs.Prelude.{ℕ, ◌+◌, ◌^◌, ◌<◌, ◌≤◌, ◌≡◌, List, None}
use Rattle.net_model.specs.declared.hardware.Netlist.{Netlist}
use Rattle.net_model.specs.Nets.{memory_size, memory_width}
use Rattle.src_model.specs.declared.program.Var.{Var as Declared}
use Rattle.src_model.specs.Meaning.{cell_count}
use Rattle.code_model.specs.declared.image.Image.{Image}
use Rattle.code_model.specs.ImageFits.{AreMarksAfter}
use Rattle.code_model.specs.Layout.{variables_of}
use Rattle.code_model.specs.Places.{places_from}

-- the variables stand in a row from this address on and lie in the memory, whose cells hold numbers
-- of 64 bits at most, and marks ascend
pub record IsScene (netlist : Netlist) (image : Image) (vars : List Declared) (address : ℕ) : Type 0 where
  pub first : address ≡ image.temps
  pub places : image.places ≡ places_from image.temps (variables_of vars)
  pub within : image.temps + cell_count vars ≤ memory_size netlist.storages
  pub few : memory_size netlist.storages < 2 ^ 32
  pub narrow : memory_width netlist.storages ≤ 64
  pub marks : AreMarksAfter None image.marks
