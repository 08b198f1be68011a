-- The rules of a netlist in its modes: each is tried in all of them, from mode 0 on, before the next
-- rule. A netlist without a mode register is as if it had mode 0 alone, and is there what it is.
use Rattle.std.specs.Prelude.{ℕ, zero, suc, ◌<◌, ◌≤◌, ◌≡◌, ◌⊎◌, List, [], ◌∷◌, ◌++◌, map, Option, Some, None}
use Rattle.std.specs.List.{AllByRecursion}
use Rattle.net_model.specs.declared.hardware.Netlist.{Netlist}
use Rattle.net_model.specs.declared.fault.NetFault.{NetFault}
use Rattle.net_model.specs.declared.fault.NetFault.TheVariants.{Cycle, Enable, ControlOp, WideSelect, FileAddr}
use Rattle.net_model.specs.declared.fault.NetFault.TheVariants.{Role as RoleFault}
use Rattle.net_model.specs.declared.fault.CheckFault.{CheckFault}
use Rattle.net_model.specs.declared.fault.CheckFault.TheVariants.{Fault, Memory}
use Rattle.net_model.specs.CheckedRules.{IsMode, KeepsRules, Ordered}
use Rattle.net_model.specs.Fixed.{in_mode, mode_count}
use Rattle.net_model.specs.NetFaults.{FaultOf}

-- ---- the netlists of the modes

-- what a netlist is in mode v
abbrev pub base_at : Netlist → ℕ → Netlist
base_at netlist v = in_mode netlist.special v netlist

-- what it is in the modes below a number, in their order
abbrev pub bases_below : Netlist → ℕ → List Netlist
bases_below netlist zero = []
bases_below netlist (suc v) = bases_below netlist v ++ base_at netlist v ∷ []

-- how many modes it has, and what it is in all of them
abbrev pub modes_in : Netlist → ℕ
modes_in netlist = mode_count netlist.special netlist

abbrev pub bases_of : Netlist → List Netlist
bases_of netlist = bases_below netlist (modes_in netlist)

-- ---- rules that are kept

-- the netlist keeps the rules, with an order of its nets
pub record KeepsInOrder (netlist : Netlist) : Type 0 where
  pub order : List ℕ
  pub rules : KeepsRules netlist order

-- it keeps them in each of its modes
pub record KeepsModes (netlist : Netlist) : Type 0 where
  pub special : IsMode netlist netlist.special
  pub each : (v : ℕ) → v < modes_in netlist → KeepsInOrder (base_at netlist v)

-- these are what the netlist is in its modes, and each was checked
pub record AreModesOfNetlist (netlist : Netlist) (bases : List Ordered) : Type 0 where
  pub special : IsMode netlist netlist.special
  pub are : map (λ (base : Ordered). base.netlist) bases ≡ bases_of netlist
  pub rules : AllByRecursion (λ (base : Ordered). KeepsRules base.netlist base.order) bases

-- what a netlist that was checked in its modes is seen as
pub record Moded : Type 0 where
  pub netlist : Netlist
  pub bases : List Ordered

abbrev pub no_netlist : Netlist
no_netlist = record { nets = []; storages = []; codes = []; edition = 1; special = None }

-- the netlist itself, which is the only one of its modes where it isn't told
abbrev pub whole_of : Option Netlist → List Ordered → Netlist
whole_of (Some netlist) bases = netlist
whole_of None (base ∷ bases) = base.netlist
whole_of None [] = no_netlist

-- the netlist itself, with what it is in its modes, in each of which it keeps the rules
abbrev pub AcceptsModes : Netlist → Moded → Type 0
AcceptsModes netlist moded = (moded.netlist ≡ netlist) × AreModesOfNetlist netlist moded.bases

-- ---- the first rule that is broken

-- the places of the rules in the order in which they are tried
abbrev pub rule_place : NetFault → ℕ
rule_place (Cycle at) = 0
rule_place (RoleFault role) = 1
rule_place (Enable at) = 2
rule_place (ControlOp at) = 3
rule_place (WideSelect at) = 4
rule_place (FileAddr at) = 5
rule_place _ = 6

-- a fault in mode u is of an earlier rule than another in mode v, or of the same and not of a later
-- mode
abbrev pub IsTriedBefore : NetFault → ℕ → NetFault → ℕ → Type 0
IsTriedBefore fault u other v =
    (rule_place fault < rule_place other) ⊎ ((rule_place fault ≡ rule_place other) × (u ≤ v))

-- the fault of a mode, and no fault of any mode is tried before it
pub record ModeFaultOf (netlist : Netlist) (fault : NetFault) : Type 0 where
  pub value : ℕ
  pub within : value < modes_in netlist
  pub broken : FaultOf (base_at netlist value) fault
  pub first : (v : ℕ) → v < modes_in netlist → (other : NetFault) → FaultOf (base_at netlist v) other →
      IsTriedBefore fault value other v

-- a fault of the netlist in its modes; want of memory has no cause
abbrev pub RefusesModes : Netlist → CheckFault → Type 0
RefusesModes netlist (Fault fault) = ModeFaultOf netlist fault
RefusesModes netlist Memory = Unit {0}
