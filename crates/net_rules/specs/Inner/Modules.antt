-- The ports of items.
use Rattle.std.specs.Prelude.{List, [], Option, Some, None, Bool, is_some}
use Rattle.grammar.specs.declared.words.Ident.{Ident}
use Rattle.net_model.specs.declared.units.Port.{Port}
use Rattle.net_model.specs.declared.units.Unit.{Unit as Item}
use Rattle.net_model.specs.Written.{NetExprModel, model_of_unit}
use Rattle.net_model.specs.TextWidths.{ports_of}
use Rattle.net_model.specs.Numbering.{bound}

abbrev pub item_ports : Item → List Port
item_ports item = ports_of (Some (model_of_unit item))

abbrev pub ports_or_none : Option (List Port) → List Port
ports_or_none None = []
ports_or_none (Some ports) = ports

-- an expression is bound to the name of a port
abbrev pub is_bound : List (Ident × NetExprModel) → Port → Bool
is_bound bindings port = is_some (bound bindings port.name.name)
