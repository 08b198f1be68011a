-- The scans of a part's ports.
use Rattle.std.proofs.Common.{ℕ, ◌≡◌, ◌+◌, List, ◌++◌, length, true, false}
use Rattle.std.specs.List.{AllByRecursion}
use Rattle.net_model.specs.declared.hardware.Net.{Net}
use Rattle.grammar.specs.declared.words.Ident.{Ident}
use Rattle.net_model.specs.declared.units.Port.{Port}
use Rattle.net_model.specs.Written.{NetExprModel}
use Rattle.net_model.specs.Numbering.{count_inputs, count_outputs, count_equations, SiteModel, scope_at}
use Rattle.net_model.specs.Elaborable.{PortKeeps, PortFed}
use Rattle.net_model.specs.Elaborated.{inputs_nets, output_wires, equations_nets}

-- the inputs so far, and those of the ports that are left
pub record Linked (site : SiteModel) (at : ℕ) (links : List (Ident × NetExprModel)) (all left : List Port) (old nets : List Net) : Type 0 where
  pub nets_so : nets ++ inputs_nets site at (length nets) links left ≡ old ++ inputs_nets site at (length old) links all
  pub long_so : length nets + count_inputs links left ≡ length old + count_inputs links all
  pub narrow_so : AllByRecursion PortKeeps left
  pub fed_so : AllByRecursion (PortFed false (scope_at site) links) left

-- the wires of the outputs so far, and of those that are left
pub record WiredOut (site : SiteModel) (at start : ℕ) (equations : List (Ident × NetExprModel)) (all left : List Port) (now : ℕ) (old nets : List Net) : Type 0 where
  pub nets_so : nets ++ output_wires site at now equations left ≡ old ++ output_wires site at start equations all
  pub long_so : length nets + count_outputs left ≡ length old + count_outputs all
  pub behind_so : now + count_equations equations left ≡ start + count_equations equations all
  pub narrow_so : AllByRecursion PortKeeps left
  pub fed_so : AllByRecursion (PortFed true (scope_at site) equations) left

-- the equations so far, and those of the ports that are left
pub record Equated (site : SiteModel) (at : ℕ) (equations : List (Ident × NetExprModel)) (all left : List Port) (old nets : List Net) : Type 0 where
  pub nets_so : nets ++ equations_nets site at (length nets) equations left ≡ old ++ equations_nets site at (length old) equations all
  pub long_so : length nets + count_equations equations left ≡ length old + count_equations equations all
  pub fed_so : AllByRecursion (PortFed true (scope_at site) equations) left
