-- The rules of names: N1, no name stands for two things, and N2, each name that is used stands for
-- something in its place.
use Rattle.std.specs.Prelude.{ℕ, ◌||◌, if◌then◌else◌, List, [], ◌∷◌, ◌++◌, map, Option, Some, None, Bool, true, false, not, is_some}
use Rattle.rec_bits.specs.Faults.{offsets_if, gather}
use Rattle.grammar.specs.declared.words.Ident.{Ident}
use Rattle.net_model.specs.declared.units.Port.{Port}
use Rattle.net_model.specs.Written.{UnitModel, code, register, memory, net, bus, module_item, part, NetExprModel, named, const, un, bin, cat, slice, zext, sext, read, case, CaseRowsModel, no_rows, row, CaseRestModel, no_rest, rest}
use Rattle.net_model.specs.TextNames.{own_name, item_named, port_named, ScopeModel, in_text, in_module}
use Rattle.rec_bits.specs.Faults.{same_name}
use Rattle.net_model.specs.TextWidths.{ports_of, part_ports}

-- ---- N1

abbrev pub is_among : List (List ℕ) → List ℕ → Bool
is_among [] name = false
is_among (other ∷ names) name = same_name other name || is_among names name

-- the names that are among those before them
abbrev pub repeated : List (List ℕ) → List Ident → List ℕ
repeated before [] = []
repeated before (name ∷ names) = offsets_if (is_among before name.name) name.at ++ repeated (name.name ∷ before) names

abbrev pub port_name : Port → Ident
port_name port = port.name

abbrev pub repeated_ports : UnitModel → List ℕ
repeated_ports (module_item name ports equations) = repeated [] (map port_name ports)
repeated_ports _ = []

-- N1: two items have one name, or two ports of a module, whatever their directions; the later one
-- is named
abbrev pub duplicates : List UnitModel → List ℕ
duplicates text = repeated [] (map own_name text) ++ gather repeated_ports text

-- ---- N2: what a name stands for

-- what an expression may name: a register, a code, a net or a bus
abbrev pub has_value : Option UnitModel → Bool
has_value (Some (code name bits size counter)) = true
has_value (Some (register kind name width input when)) = true
has_value (Some (net name width value)) = true
has_value (Some (bus name width drivers)) = true
has_value _ = false

abbrev pub is_register : Option UnitModel → Bool
is_register (Some (register kind name width input when)) = true
is_register _ = false

abbrev pub is_memory : Option UnitModel → Bool
is_memory (Some (memory space name width size addr_width value addr when)) = true
is_memory _ = false

abbrev pub is_module : Option UnitModel → Bool
is_module (Some (module_item name ports equations)) = true
is_module _ = false

abbrev pub is_part : Option UnitModel → Bool
is_part (Some (part name of links)) = true
is_part _ = false

-- a name that has to stand for something
abbrev pub unknown : Bool → Ident → List ℕ
unknown is_known name = offsets_if (not is_known) name.at

-- ---- N2 in an expression

-- an output of a part: the part's name is at fault where it is no part, and the output's where the
-- module has no such output
abbrev pub unknown_output : List UnitModel → Ident → Ident → List ℕ
unknown_output text name field =
    if is_part (item_named text name.name)
    then unknown (is_some (port_named true (part_ports text (item_named text name.name)) field.name)) field
    else name.at ∷ []

-- in a module there are its inputs alone, and no parts
abbrev pub unknown_name : ScopeModel → Ident → Option Ident → List ℕ
unknown_name (in_text text) name None = unknown (has_value (item_named text name.name)) name
unknown_name (in_text text) name (Some field) = unknown_output text name field
unknown_name (in_module ports) name None = unknown (is_some (port_named false ports name.name)) name
unknown_name (in_module ports) name (Some field) = name.at ∷ []

-- a module reads nothing
abbrev pub unknown_memory : ScopeModel → Ident → List ℕ
unknown_memory (in_text text) name = unknown (is_memory (item_named text name.name)) name
unknown_memory (in_module ports) name = name.at ∷ []

abbrev mutual
  pub unknown_in : ScopeModel → NetExprModel → List ℕ
  unknown_in s (named name field bits) = unknown_name s name field
  unknown_in s (const value width) = []
  unknown_in s (un op a) = unknown_in s a
  unknown_in s (bin op a b) = unknown_in s a ++ unknown_in s b
  unknown_in s (cat a b) = unknown_in s a ++ unknown_in s b
  unknown_in s (slice a hi lo) = unknown_in s a
  unknown_in s (zext a width) = unknown_in s a
  unknown_in s (sext a width) = unknown_in s a
  unknown_in s (read name a) = unknown_memory s name ++ unknown_in s a
  unknown_in s (case selector rows other) = unknown_in s selector ++ unknown_rows s rows ++ unknown_rest s other

  pub unknown_rows : ScopeModel → CaseRowsModel → List ℕ
  unknown_rows s no_rows = []
  unknown_rows s (row numbers a rows) = unknown_in s a ++ unknown_rows s rows

  pub unknown_rest : ScopeModel → CaseRestModel → List ℕ
  unknown_rest s no_rest = []
  unknown_rest s (rest a) = unknown_in s a

-- ---- N2 in an item

abbrev pub unknown_if : ScopeModel → Option NetExprModel → List ℕ
unknown_if s None = []
unknown_if s (Some a) = unknown_in s a

abbrev pub unknown_driver : ScopeModel → NetExprModel × NetExprModel → List ℕ
unknown_driver s driver = unknown_in s driver.0 ++ unknown_in s driver.1

-- what is bound to a port: the port has to be there, in this direction, and the names in the
-- expression
abbrev pub unknown_binding : Bool → List Port → ScopeModel → Ident × NetExprModel → List ℕ
unknown_binding output ports s binding =
    unknown (is_some (port_named output ports binding.0.name)) binding.0 ++ unknown_in s binding.1

-- `at` names a register; an equation is for an output of its module; a part is of a module, and its
-- links are to inputs
abbrev pub unknown_in_item : List UnitModel → UnitModel → List ℕ
unknown_in_item text (code name bits size counter) = unknown (is_register (item_named text counter.name)) counter
unknown_in_item text (register kind name width input when) =
    unknown_in (in_text text) input ++ unknown_if (in_text text) when
unknown_in_item text (memory space name width size addr_width value addr when) =
    unknown_in (in_text text) value ++ unknown_in (in_text text) addr ++ unknown_if (in_text text) when
unknown_in_item text (net name width value) = unknown_in (in_text text) value
unknown_in_item text (bus name width drivers) = gather (unknown_driver (in_text text)) drivers
unknown_in_item text (module_item name ports equations) =
    gather (unknown_binding true ports (in_module ports)) equations
unknown_in_item text (part name of links) =
    unknown (is_module (item_named text of.name)) of
    ++ gather (unknown_binding false (ports_of (item_named text of.name)) (in_text text)) links

-- N2: a name that nothing declares in its place
abbrev pub unknowns : List UnitModel → List ℕ
unknowns text = gather (unknown_in_item text) text
