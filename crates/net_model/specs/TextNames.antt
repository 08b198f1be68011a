-- What the names of a netlist text stand for. Items may be used before they are declared; where
-- several have one name, the first counts.
use Rattle.std.specs.Prelude.{ℕ, ◌+◌, ◌&&◌, if◌then◌else◌, List, [], ◌∷◌, Option, Some, None, slice_get, Bool, true, false}
use Rattle.grammar.specs.declared.words.Ident.{Ident}
use Rattle.net_model.specs.declared.units.Port.{Port}
use Rattle.net_model.specs.Written.{UnitModel, code, register, memory, net, bus, module_item, part}
use Rattle.rec_bits.specs.Faults.{same_name}

-- ---- items

abbrev pub own_name : UnitModel → Ident
own_name (code name bits size counter) = name
own_name (register kind name width input when) = name
own_name (memory space name width size addr_width value addr when) = name
own_name (net name width value) = name
own_name (bus name width drivers) = name
own_name (module_item name ports equations) = name
own_name (part name of links) = name

-- the place of the first item of a name, and the number of items where there is none
abbrev pub place_named : List UnitModel → List ℕ → ℕ
place_named [] name = 0
place_named (e ∷ entries) name = if same_name (own_name e).name name then 0 else place_named entries name + 1

-- the first item of a name
abbrev pub item_named : List UnitModel → List ℕ → Option UnitModel
item_named entries name = slice_get entries (place_named entries name)

-- ---- ports

-- inputs where the first argument is false, and outputs where it is true
abbrev pub is_port : Bool → List ℕ → Port → Bool
is_port true name port = port.output && same_name port.name.name name
is_port false name port = if port.output then false else same_name port.name.name name

-- the first port of a direction and a name
abbrev pub port_named : Bool → List Port → List ℕ → Option Port
port_named output [] name = None
port_named output (p ∷ ports) name = if is_port output name p then Some p else port_named output ports name

-- ---- where an expression stands: among the items of the text, or in a module with these ports
pub data ScopeModel : Type 0 where
  in_text : List UnitModel → ScopeModel
  in_module : List Port → ScopeModel
