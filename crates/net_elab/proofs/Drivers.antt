-- The scans of a bus's drivers and of a text's items.
use Rattle.std.proofs.Common.{ℕ, ◌≡◌, ◌+◌, ◌≤◌, List, [], ◌∷◌, ◌++◌, length, refl}
use Rattle.std.specs.List.{AllByRecursion}
use Rattle.net_model.specs.declared.hardware.Net.{Net}
use Rattle.net_model.specs.declared.hardware.Netlist.{Netlist}
use Rattle.net_model.specs.Written.{UnitModel, NetExprModel}
use Rattle.net_model.specs.TextNames.{ScopeModel}
use Rattle.net_model.specs.Numbering.{count_drivers, count_items, SiteModel, scope_at}
use Rattle.net_model.specs.Elaborable.{DriverFeeds, ItemKeeps}
use Rattle.net_model.specs.Elaborated.{elaborated_drivers, driver_pairs, nets_from, storages_from, codes_from}
use Rattle.net_elab.specs.Inner.Emissions.{AllDriversWide}

-- the drivers so far, and those that are left
pub record Driven (site : SiteModel) (at : ℕ) (all left : List (NetExprModel × NetExprModel)) (old nets : List Net) (pairs : List (ℕ × ℕ)) : Type 0 where
  pub nets_so : nets ++ elaborated_drivers site at (length nets) left ≡ old ++ elaborated_drivers site at (length old) all
  pub pairs_so : pairs ++ driver_pairs site (length nets) left ≡ driver_pairs site (length old) all
  pub long_so : length nets + count_drivers left ≡ length old + count_drivers all
  pub wide_so : AllDriversWide (scope_at site) left

-- the items so far, and those that are left
pub record Elaborating (text : List UnitModel) (i : ℕ) (left : List UnitModel) (netlist : Netlist) : Type 0 where
  pub nets_so : netlist.nets ++ nets_from text (length netlist.nets) (length netlist.storages) (length netlist.codes) left ≡ nets_from text 0 0 0 text
  pub storages_so : netlist.storages ++ storages_from text (length netlist.nets) left ≡ storages_from text 0 text
  pub codes_so : netlist.codes ++ codes_from text left ≡ codes_from text text
  pub long_so : length netlist.nets + count_items text left ≡ count_items text text
  pub few_storages : length netlist.storages ≤ i
  pub few_codes : length netlist.codes ≤ i
  pub keeps_so : AllByRecursion (ItemKeeps text) left

-- drivers that feed a bus have widths
pub drivers_wide : (s : ScopeModel) (width : ℕ) (drivers : List (NetExprModel × NetExprModel)) → AllByRecursion (DriverFeeds s width) drivers → AllDriversWide s drivers
drivers_wide s width [] h = tt
drivers_wide s width (driver ∷ drivers) h = (rw (h.0.0) refl, rw (h.0.1) refl, drivers_wide s width drivers h.1)
