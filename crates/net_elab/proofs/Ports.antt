-- Ports by their places.
use Rattle.std.proofs.Common.{ℕ, ◌≡◌, Bool, true, false, List, [], ◌∷◌, Option, Some, ◌≤◌, subst, arith, IsTrue, if◌then◌else◌}
use Rattle.std.proofs.lemmas.Bool.Decides.{nat_tests}
use Rattle.std.specs.List.{AllByRecursion}
use Rattle.net_model.specs.Elaborable.{PortKeeps}
use Rattle.net_model.specs.declared.units.Port.{Port}
use Rattle.net_model.specs.TextNames.{is_port, port_named}
use Rattle.net_model.specs.TextWidths.{is_width}

pub narrow_width : (width : ℕ) → IsTrue (is_width width) → width ≤ 64
narrow_width width h = grind (arith, nat_tests)

pick : (b : Bool) (p found : Port) (other : Option Port) → (if b then Some p else other) ≡ Some found → PortKeeps p → (other ≡ Some found → PortKeeps found) → PortKeeps found
pick true p found other e h k = subst PortKeeps (let s : p ≡ found = cc in s) h
pick false p found other e h k = k e

pub port_keeps : (output : Bool) (ports : List Port) (name : List ℕ) (found : Port) → AllByRecursion PortKeeps ports → port_named output ports name ≡ Some found → PortKeeps found
port_keeps output [] name found h e = absurd (cc e)
port_keeps output (p ∷ ports) name found h e =
    pick (is_port output name p) p found (port_named output ports name) e h.0 (port_keeps output ports name found h.1)
