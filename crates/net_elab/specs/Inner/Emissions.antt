-- What is known when an expression's nets stand at the end of a list.
use Rattle.std.specs.Prelude.{ℕ, ◌≡◌, ◌+◌, ◌<◌, ◌^◌, List, [], ◌∷◌, ◌++◌, length, Option, Some, None, option_map, IsSome}
use Rattle.net_model.specs.declared.hardware.Gate.{Gate}
use Rattle.net_model.specs.declared.hardware.Net.{Net}
use Rattle.net_model.specs.declared.hardware.Netlist.{Netlist}
use Rattle.net_model.specs.Written.{UnitModel, NetExprModel, CaseRowsModel, no_rows, row, CaseRestModel, no_rest, rest}
use Rattle.net_model.specs.TextNames.{ScopeModel}
use Rattle.net_model.specs.TextWidths.{wide}
use Rattle.net_model.specs.Numbering.{count, count_drivers, count_if, count_item, count_rest, count_rows, count_storages, SiteModel, scope_at}
use Rattle.net_model.specs.Elaborated.{count_codes, elaborated_drivers, driver_pairs, item_codes, item_nets, item_storages, width_or_none, plain_net, elaborated, nets_if, nets_of_rows, nets_of_rest, out_of, out_if, row_pairs, rest_out}
use Rattle.net_elab.specs.declared.site.NetRef.{NetRef}
use Rattle.net_elab.specs.declared.expression.Pairs.{Pairs}

-- ---- the rule of widths holds in each part

abbrev pub AllWide : ScopeModel → CaseRowsModel → Type 0
AllWide s no_rows = Unit {0}
AllWide s (row numbers a rows) = IsSome (wide s a) × AllWide s rows

abbrev pub IsWideRest : ScopeModel → CaseRestModel → Type 0
IsWideRest s no_rest = Unit {0}
IsWideRest s (rest a) = IsSome (wide s a)

abbrev pub IsWideIf : ScopeModel → Option NetExprModel → Type 0
IsWideIf s None = Unit {0}
IsWideIf s (Some a) = IsSome (wide s a)

-- ---- one more net of a width

pub record Pushed (width : Option ℕ) (at : ℕ) (gate : Gate) (old new : List Net) (made : NetRef) : Type 0 where
  pub nets : new ≡ old ++ plain_net at (width_or_none width) gate ∷ []
  pub long : length new ≡ length old + 1
  pub out : made.net ≡ length old
  pub width_is : width ≡ Some made.width

-- ---- the nets of an expression, and of parts of one

pub record Emitted (site : SiteModel) (at : ℕ) (a : NetExprModel) (old new : List Net) (made : NetRef) : Type 0 where
  pub nets : new ≡ old ++ elaborated site at (length old) a
  pub long : length new ≡ length old + count a
  pub out : made.net ≡ out_of site (length old) a
  pub width_is : wide (scope_at site) a ≡ Some made.width

-- the width of the last of some rows
abbrev pub last_width : ScopeModel → ℕ → CaseRowsModel → ℕ
last_width s before no_rows = before
last_width s before (row numbers a rows) = last_width s (width_or_none (wide s a)) rows

pub record EmittedRows (site : SiteModel) (at : ℕ) (rows : CaseRowsModel) (old new : List Net) (made : Pairs) : Type 0 where
  pub nets : new ≡ old ++ nets_of_rows site at (length old) rows
  pub long : length new ≡ length old + count_rows rows
  pub pairs : made.rows ≡ row_pairs site (length old) rows
  pub width_is : made.width ≡ last_width (scope_at site) 0 rows

abbrev pub rest_wide : ScopeModel → CaseRestModel → Option ℕ
rest_wide s no_rest = None
rest_wide s (rest a) = wide s a

pub record EmittedRest (site : SiteModel) (at : ℕ) (other : CaseRestModel) (old new : List Net) (made : Option NetRef) : Type 0 where
  pub nets : new ≡ old ++ nets_of_rest site at (length old) other
  pub long : length new ≡ length old + count_rest other
  pub out : option_map (λ (spot : NetRef). spot.net) made ≡ rest_out site (length old) other
  pub width_is : option_map (λ (spot : NetRef). spot.width) made ≡ rest_wide (scope_at site) other

pub record EmittedIf (site : SiteModel) (at : ℕ) (a : Option NetExprModel) (old new : List Net) (made : Option ℕ) : Type 0 where
  pub nets : new ≡ old ++ nets_if site at (length old) a
  pub long : length new ≡ length old + count_if a
  pub out : made ≡ out_if site (length old) a

-- so many more nets
pub record Grown (more : List Net) (count : ℕ) (old new : List Net) : Type 0 where
  pub nets : new ≡ old ++ more
  pub long : length new ≡ length old + count

-- ---- buses

abbrev pub AllDriversWide : ScopeModel → List (NetExprModel × NetExprModel) → Type 0
AllDriversWide s [] = Unit {0}
AllDriversWide s (driver ∷ drivers) = IsSome (wide s driver.0) × IsSome (wide s driver.1) × AllDriversWide s drivers

pub record EmittedDrivers (site : SiteModel) (at : ℕ) (drivers : List (NetExprModel × NetExprModel))
    (old new : List Net) (made : List (ℕ × ℕ)) : Type 0 where
  pub nets : new ≡ old ++ elaborated_drivers site at (length old) drivers
  pub long : length new ≡ length old + count_drivers drivers
  pub pairs : made ≡ driver_pairs site (length old) drivers

-- ---- items

-- numbers fit
pub record HasRoom (text : List UnitModel) (e : UnitModel) (old : Netlist) : Type 0 where
  pub nets : length old.nets + count_item text e < 2 ^ 32
  pub storages : length old.storages < 2 ^ 32
  pub codes : length old.codes < 2 ^ 32

-- the item's nets, storage and code stand at the end
pub record ItemDone (text : List UnitModel) (e : UnitModel) (old new : Netlist) : Type 0 where
  pub nets : new.nets ≡ old.nets ++ item_nets text (length old.nets) (length old.storages) (length old.codes) e
  pub storages : new.storages ≡ old.storages ++ item_storages text (length old.nets) e
  pub codes : new.codes ≡ old.codes ++ item_codes text e
  pub long : length new.nets ≡ length old.nets + count_item text e
  pub stored : length new.storages ≡ length old.storages + count_storages e
  pub coded : length new.codes ≡ length old.codes + count_codes e
