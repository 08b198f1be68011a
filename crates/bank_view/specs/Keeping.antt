-- What a netlist with a bank keeps. A netlist of the edition with a bank that keeps N1 to N4, N6
-- and N11 (`HasBanks`), or all rules (`KeepsBanks`).
use Rattle.std.specs.Prelude.{ℕ, List, IsTrue}
use Rattle.net_model.specs.declared.hardware.Netlist.{Netlist}
use Rattle.net_model.specs.Editions.{is_banked}
use Rattle.net_model.specs.CheckedRules.{HasRoles, IsWellFormed, KeepsRules}

-- a netlist of the edition with a bank, which keeps N1 to N4, N6 and N11: so the bank is beside a
-- memory of its widths that has a cell for each address
pub record HasBanks (n : Netlist) : Type 0 where
  pub banked : IsTrue (is_banked n.edition)
  pub formed : IsWellFormed n
  pub roles : HasRoles n

-- it keeps all rules
pub record KeepsBanks (n : Netlist) (order : List ℕ) : Type 0 where
  pub banked : IsTrue (is_banked n.edition)
  pub rules : KeepsRules n order
