-- What look-ups by name find.
use Rattle.std.specs.Prelude.{ℕ, ◌≡◌, List, map, Option, Some, option_map, true}
use Rattle.std.specs.List.{AllByRecursion}
use Rattle.net_model.specs.declared.units.Unit.{Unit as Item}
use Rattle.grammar.specs.declared.words.Ident.{Ident}
use Rattle.net_model.specs.Written.{UnitModel, model_of_unit}
use Rattle.net_elab.specs.declared.site.NetRef.{NetRef}
use Rattle.net_elab.specs.declared.site.Readable.{Readable}
use Rattle.net_model.specs.TextNames.{in_module}
use Rattle.net_model.specs.TextWidths.{memory_of, MemoryWidthsModel, ports_of}
use Rattle.net_model.specs.Elaborable.{IsElaborable, PortFed}
use Rattle.net_model.specs.Numbering.{equations_of, last_nets, storage_numbers, wires_from}

-- the items are those with these names, and keep the rules
pub record IsDeclared (items named : List Item) : Type 0 where
  pub same : named ≡ items
  pub keeps : IsElaborable (map model_of_unit items)

abbrev pub cell_width_of : MemoryWidthsModel → ℕ
cell_width_of m = m.cell

abbrev pub cell_width : Option UnitModel → Option ℕ
cell_width item = option_map cell_width_of (memory_of item)

-- the outputs of a module have their equations
abbrev pub ModuleKeeps : Option UnitModel → Type 0
ModuleKeeps item = AllByRecursion (PortFed true (in_module (ports_of item)) (equations_of item)) (ports_of item)

abbrev pub field_of : Ident → Option Ident
field_of field = Some field

-- a net that has a width and a number
pub record IsSpot (width : Option ℕ) (net : ℕ) (spot : NetRef) : Type 0 where
  pub width_is : width ≡ Some spot.width
  pub net_is : spot.net ≡ net

-- a memory or a file whose cells have a width, by its number
pub record IsCells (width : Option ℕ) (number : ℕ) (cells : Readable) : Type 0 where
  pub width_is : width ≡ Some cells.width
  pub number_is : cells.memory ≡ number

-- the numbers are those of a text
pub record IsNumbered (text : List UnitModel) (nets storages : List ℕ) (wires : List (List ℕ)) : Type 0 where
  pub nets_are : nets ≡ last_nets text 0 text
  pub storages_are : storages ≡ storage_numbers 0 text
  pub wires_are : wires ≡ wires_from text 0 text
