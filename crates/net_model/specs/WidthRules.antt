-- The rule of widths, N3. TextWidths has it within an expression.
use Rattle.std.specs.Prelude.{ℕ, ◌==◌, ◌&&◌, List, Option, Some, None, Bool, true, false, not}
use Rattle.std.specs.List.{list_all}
use Rattle.rec_bits.specs.Faults.{offsets_if, gather}
use Rattle.grammar.specs.declared.words.Ident.{Ident}
use Rattle.net_model.specs.declared.units.Port.{Port}
use Rattle.net_model.specs.Written.{UnitModel, code, register, memory, net, bus, module_item, part, NetExprModel}
use Rattle.net_model.specs.TextNames.{own_name, item_named, port_named, ScopeModel, in_text, in_module}
use Rattle.net_model.specs.TextWidths.{wide, is_width, port_width, ports_of}

-- a width is there and is the one that is asked for
abbrev pub has_width : Option ℕ → ℕ → Bool
has_width None width = false
has_width (Some found) width = found == width

-- an expression that keeps the rule and has the width of what it feeds
abbrev pub feeds : ScopeModel → ℕ → NetExprModel → Bool
feeds s width a = has_width (wide s a) width

-- an enable has one bit
abbrev pub enables : ScopeModel → Option NetExprModel → Bool
enables s None = true
enables s (Some a) = feeds s 1 a

abbrev pub driver_feeds : ScopeModel → ℕ → NetExprModel × NetExprModel → Bool
driver_feeds s width driver = feeds s width driver.0 && feeds s 1 driver.1

-- an expression has the width of the port that it is bound to
abbrev pub feeds_port : ScopeModel → Option ℕ → NetExprModel → Bool
feeds_port s None a = false
feeds_port s (Some width) a = feeds s width a

abbrev pub binding_feeds : Bool → List Port → ScopeModel → Ident × NetExprModel → Bool
binding_feeds output ports s binding = feeds_port s (port_width (port_named output ports binding.0.name)) binding.1

abbrev pub port_keeps : Port → Bool
port_keeps port = is_width port.width

abbrev pub widths_fit : List UnitModel → UnitModel → Bool
widths_fit text (code name bits size counter) = is_width bits
widths_fit text (register kind name width input when) =
    is_width width && feeds (in_text text) width input && enables (in_text text) when
widths_fit text (memory space name width size addr_width value addr when) =
    is_width width && is_width addr_width && feeds (in_text text) width value && feeds (in_text text) addr_width addr
    && enables (in_text text) when
widths_fit text (net name width value) = is_width width && feeds (in_text text) width value
widths_fit text (bus name width drivers) = is_width width && list_all (driver_feeds (in_text text) width) drivers
widths_fit text (module_item name ports equations) =
    list_all port_keeps ports && list_all (binding_feeds true ports (in_module ports)) equations
widths_fit text (part name of links) =
    list_all (binding_feeds false (ports_of (item_named text of.name)) (in_text text)) links

abbrev pub misfit : List UnitModel → UnitModel → List ℕ
misfit text entry = offsets_if (not (widths_fit text entry)) (own_name entry).at

-- N3: a width that isn't 1 to 64, or widths that don't fit each other; the item is named
abbrev pub misfits : List UnitModel → List ℕ
misfits text = gather (misfit text) text
