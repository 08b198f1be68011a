-- Which items of a text have a netlist that keeps the rules: their names, widths, bindings and
-- numbers.
use Rattle.std.specs.Prelude.{ℕ, ◌^◌, ◌<◌, ◌≤◌, ◌≡◌, List, [], length, map, Option, Some, None, Bool, true, false, nat_le, IsTrue}
use Rattle.std.specs.List.{AllByRecursion}
use Rattle.grammar.specs.declared.words.Ident.{Ident}
use Rattle.net_model.specs.declared.units.Port.{Port}
use Rattle.net_model.specs.Written.{UnitModel, code, register, memory, net, bus, module_item, part, NetExprModel}
use Rattle.net_model.specs.TextNames.{own_name, item_named, ScopeModel, in_text, in_module}
use Rattle.net_model.specs.TextWidths.{wide, is_width, ports_of}
use Rattle.net_model.specs.DriverRules.{is_driven_item, names_new}
use Rattle.net_model.specs.LimitRules.{cells_of, count_registers, most_cells, most_nets}
use Rattle.net_model.specs.declared.hardware.Space.{Space}
use Rattle.net_model.specs.Numbering.{bound, count_items}

-- an expression that keeps the rule of widths and has this width
abbrev pub Feeds : ScopeModel → ℕ → NetExprModel → Type 0
Feeds s width a = wide s a ≡ Some width

abbrev pub FeedsIf : ScopeModel → ℕ → Option NetExprModel → Type 0
FeedsIf s width None = Unit {0}
FeedsIf s width (Some a) = Feeds s width a

abbrev pub DriverFeeds : ScopeModel → ℕ → NetExprModel × NetExprModel → Type 0
DriverFeeds s width driver = Feeds s width driver.0 × Feeds s 1 driver.1

-- an expression is bound to a port, and has its width
abbrev pub IsBound : ScopeModel → ℕ → Option NetExprModel → Type 0
IsBound s width None = ⊥
IsBound s width (Some a) = Feeds s width a

-- each port of this direction has its expression
abbrev pub PortFed : Bool → ScopeModel → List (Ident × NetExprModel) → Port → Type 0
PortFed true s bindings port = IsTrue port.output → IsBound s port.width (bound bindings port.name.name)
PortFed false s bindings port = port.output ≡ false → IsBound s port.width (bound bindings port.name.name)

abbrev pub PortKeeps : Port → Type 0
PortKeeps port = IsTrue (is_width port.width)

abbrev pub IsRegisterItem : Option UnitModel → Type 0
IsRegisterItem (Some (register kind name width input when)) = Unit {0}
IsRegisterItem _ = ⊥

-- the rules within an item
abbrev pub ItemKeeps : List UnitModel → UnitModel → Type 0
ItemKeeps text (code name bits size counter) =
    IsTrue (is_width bits) × IsTrue (nat_le size 65536) × IsRegisterItem (item_named text counter.name)
ItemKeeps text (register kind name width input when) =
    IsTrue (is_width width) × Feeds (in_text text) width input × FeedsIf (in_text text) 1 when
ItemKeeps text (memory space name width size addr_width value addr when) =
    IsTrue (is_width width) × IsTrue (is_width addr_width) × IsTrue (nat_le size 65536)
    × Feeds (in_text text) width value
    × Feeds (in_text text) addr_width addr × FeedsIf (in_text text) 1 when
ItemKeeps text (net name width value) = IsTrue (is_width width) × Feeds (in_text text) width value
ItemKeeps text (bus name width drivers) =
    IsTrue (is_width width) × AllByRecursion (DriverFeeds (in_text text) width) drivers
ItemKeeps text (module_item name ports equations) =
    AllByRecursion PortKeeps ports × AllByRecursion (PortFed true (in_module ports) equations) ports
ItemKeeps text (part name of links) =
    AllByRecursion (PortFed false (in_text text) links) (ports_of (item_named text of.name))

abbrev pub item_names : List UnitModel → List (List ℕ)
item_names text = map (λ (e : UnitModel). (own_name e).name) text

abbrev pub IsDriven : List UnitModel → UnitModel → Type 0
IsDriven text e = IsTrue (is_driven_item text e)

-- a text of few enough items that keep the rules of names, widths, drivers and limits
pub record IsElaborable (text : List UnitModel) : Type 0 where
  pub names : IsTrue (names_new [] (item_names text))
  pub items : AllByRecursion (ItemKeeps text) text
  pub driven : AllByRecursion (IsDriven text) text
  pub few_nets : count_items text text ≤ 4096
  pub few_registers : count_registers text ≤ 13
  pub few_items : length text < 2 ^ 32

-- an item has few enough cells
abbrev pub IsSmall : ℕ → Space → UnitModel → Type 0
IsSmall edition space e = IsTrue (nat_le (cells_of space e) (most_cells edition space))

-- as few nets, and as few cells in each item, as an edition asks for
pub record IsFewIn (edition : ℕ) (text : List UnitModel) : Type 0 where
  pub nets : count_items text text ≤ most_nets edition
  pub cells : (space : Space) → AllByRecursion (IsSmall edition space) text
