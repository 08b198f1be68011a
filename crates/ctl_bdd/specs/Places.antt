-- The nets whose bits control needs: static nets that stand in control places.
use Rattle.std.specs.Prelude.{ℕ, zero, suc, ◌&&◌, nat_eq, Bool, List, [], ◌∷◌, ◌++◌, length, filter}
use Rattle.std.specs.List.{list_any}
use Rattle.net_model.specs.declared.hardware.Netlist.{Netlist}
use Rattle.net_model.specs.Control.{control_places}
use Rattle.net_model.specs.Symbolic.{is_static}

abbrev pub is_placed : Netlist → ℕ → Bool
is_placed netlist n = list_any (nat_eq n) (control_places netlist)

-- a static net in a control place
abbrev pub is_static_control : Netlist → ℕ → Bool
is_static_control netlist n = is_static netlist n && is_placed netlist n

-- the numbers below one, ascending
abbrev pub numbers_below : ℕ → List ℕ
numbers_below zero = []
numbers_below (suc n) = numbers_below n ++ n ∷ []

-- the static nets in control places, ascending and each once
abbrev pub static_controls : Netlist → List ℕ
static_controls netlist = filter (is_static_control netlist) (numbers_below (length netlist.nets))
