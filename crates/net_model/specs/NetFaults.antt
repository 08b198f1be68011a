-- The fault of a netlist that keeps N1 to N4 and N11: the first rule of N5 to N9 and N14 that it
-- breaks, and the least offset at which it does. N5: the name of the least-numbered net on a
-- cycle. N6: the first part that is lacking, of code, memory, program counter, sizes, address, and
-- the register file, the mode or the bank of the text's edition. N7 to N9: the least offset among
-- the nets in control places that fail the rule's test; N14: among the addresses of the register
-- file; the rule is kept where all of them pass it.
use Rattle.std.specs.Prelude.{ℕ, ◌≡◌, if◌then◌else◌, List, [], ◌∷◌, Option, Some, None, slice_get, Bool}
use Rattle.rec_bits.specs.Faults.{least}
use Rattle.net_model.specs.declared.hardware.Netlist.{Netlist}
use Rattle.net_model.specs.declared.hardware.Net.{Net}
use Rattle.net_model.specs.declared.fault.Role.{Role}
use Rattle.net_model.specs.declared.fault.Role.TheVariants.{Pc, Size, Addr}
use Rattle.net_model.specs.declared.fault.Role.TheVariants.{Code as NotOneCode, Memory as NotOneMemory, File as NoFile, Mode as NoMode, Bank as NoBank}
use Rattle.net_model.specs.declared.fault.NetFault.{NetFault}
use Rattle.net_model.specs.declared.fault.NetFault.TheVariants.{Cycle, Enable, ControlOp, WideSelect, FileAddr}
use Rattle.net_model.specs.declared.fault.NetFault.TheVariants.{Role as RoleFault}
use Rattle.net_model.specs.declared.fault.CheckFault.{CheckFault}
use Rattle.net_model.specs.declared.fault.CheckFault.TheVariants.{Fault, Memory}
use Rattle.net_model.specs.Symbolic.{is_static}
use Rattle.net_model.specs.Control.{enables, selectors, control_places, is_selector}
use Rattle.net_model.specs.Depends.{IsLeastOnCycle, named_by, IsAcyclic}
use Rattle.net_model.specs.CheckedRules.{Ordered, HasOneCode, HasOneMemory, HasCounter, HasSizes, HasAddress, HasRoles, HasFile, HasMode, HasBank, HasStaticEnables, is_plain, HasPlainControl, HasNarrowSelectors, file_addrs, KeepsRules}

-- ---- offsets at which a rule is broken

abbrev pub net_name : Option Net → ℕ
net_name None = 0
net_name (Some net) = net.name_at

-- the offset of the name of the item that a net was numbered for
abbrev pub name_at : Netlist → ℕ → ℕ
name_at netlist n = net_name (slice_get netlist.nets n)

-- the offsets of those of these nets that fail a test
abbrev pub failing : (ℕ → Bool) → (ℕ → ℕ) → List ℕ → List ℕ
failing test offset [] = []
failing test offset (n ∷ ns) = if test n then failing test offset ns else (offset n ∷ failing test offset ns)

-- ---- N6: the first part that the netlist lacks

abbrev pub LacksRole : Netlist → Role → Type 0
LacksRole netlist NotOneCode = ¬ HasOneCode netlist
LacksRole netlist NotOneMemory = HasOneCode netlist × (¬ HasOneMemory netlist)
LacksRole netlist Pc = HasOneCode netlist × HasOneMemory netlist × (¬ HasCounter netlist)
LacksRole netlist Size = HasOneCode netlist × HasOneMemory netlist × HasCounter netlist × (¬ HasSizes netlist)
LacksRole netlist Addr =
    HasOneCode netlist × HasOneMemory netlist × HasCounter netlist × HasSizes netlist
    × (¬ HasAddress netlist)
LacksRole netlist NoFile =
    HasOneCode netlist × HasOneMemory netlist × HasCounter netlist × HasSizes netlist × HasAddress netlist
    × (¬ HasFile netlist)
LacksRole netlist NoMode =
    HasOneCode netlist × HasOneMemory netlist × HasCounter netlist × HasSizes netlist × HasAddress netlist
    × HasFile netlist × (¬ HasMode netlist)
LacksRole netlist NoBank =
    HasOneCode netlist × HasOneMemory netlist × HasCounter netlist × HasSizes netlist × HasAddress netlist
    × HasFile netlist × HasMode netlist × (¬ HasBank netlist)

-- ---- N7 to N9 and N14: where they are broken

-- an enable that isn't static
abbrev pub enable_offsets : Netlist → List ℕ
enable_offsets netlist = failing (is_static netlist) (name_at netlist) (enables netlist)

-- an enable or a selector that is static and depends on a gate that control may not use
abbrev pub control_offsets : Netlist → List ℕ
control_offsets netlist = failing (is_plain netlist) (name_at netlist) (control_places netlist)

-- a selector that is neither static nor one bit wide
abbrev pub selector_offsets : Netlist → List ℕ
selector_offsets netlist = failing (is_selector netlist) (name_at netlist) (selectors netlist)

-- an address of the file that isn't static
abbrev pub file_addr_offsets : Netlist → List ℕ
file_addr_offsets netlist = failing (is_static netlist) (name_at netlist) (file_addrs netlist)

-- ---- the fault

-- the first rule that is broken, with its offset or what is lacking
abbrev pub FaultOf : Netlist → NetFault → Type 0
FaultOf netlist (Cycle at) = (n : ℕ) × IsLeastOnCycle (named_by netlist) n × (at ≡ name_at netlist n)
FaultOf netlist (RoleFault role) = IsAcyclic netlist × LacksRole netlist role
FaultOf netlist (Enable at) = IsAcyclic netlist × HasRoles netlist × (least (enable_offsets netlist) ≡ Some at)
FaultOf netlist (ControlOp at) =
    IsAcyclic netlist × HasRoles netlist × HasStaticEnables netlist × (least (control_offsets netlist) ≡ Some at)
FaultOf netlist (WideSelect at) =
    IsAcyclic netlist × HasRoles netlist × HasStaticEnables netlist × HasPlainControl netlist
    × (least (selector_offsets netlist) ≡ Some at)
FaultOf netlist (FileAddr at) =
    IsAcyclic netlist × HasRoles netlist × HasStaticEnables netlist × HasPlainControl netlist
    × HasNarrowSelectors netlist × (least (file_addr_offsets netlist) ≡ Some at)
FaultOf netlist _ = ⊥

-- the netlist itself, with an order in which it keeps the rules
abbrev pub Accepts : Netlist → Ordered → Type 0
Accepts netlist checked = (checked.netlist ≡ netlist) × KeepsRules netlist checked.order

-- a fault of the netlist; want of memory has no cause
abbrev pub Refuses : Netlist → CheckFault → Type 0
Refuses netlist (Fault fault) = FaultOf netlist fault
Refuses netlist Memory = Unit {0}

-- this fault, or want of memory
abbrev pub IsFaultOrMemory : NetFault → CheckFault → Type 0
IsFaultOrMemory fault (Fault other) = other ≡ fault
IsFaultOrMemory fault Memory = Unit {0}
