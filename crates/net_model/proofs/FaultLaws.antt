-- A netlist that keeps the rules has no fault, and no netlist has two.
use Rattle.std.proofs.Common.{ℕ, ◌≡◌, inl, inr, List, None, refl, sym, ap, ◌∙◌, arith}
use Rattle.std.proofs.lemmas.Bool.{cases_lt}
use Rattle.net_model.specs.declared.hardware.Netlist.{Netlist}
use Rattle.net_model.specs.declared.fault.Role.{Role}
use Rattle.net_model.specs.declared.fault.Role.TheVariants.{Pc, Size, Addr}
use Rattle.net_model.specs.declared.fault.Role.TheVariants.{Code as NotOneCode, Memory as NotOneMemory, File as NoFile, Mode as NoMode, Bank as NoBank}
use Rattle.net_model.specs.declared.fault.NetFault.{NetFault}
use Rattle.net_model.specs.declared.fault.NetFault.TheVariants.{Cycle, Enable, ControlOp, WideSelect, FileAddr}
use Rattle.net_model.specs.declared.fault.NetFault.TheVariants.{Role as RoleFault}
use Rattle.net_model.specs.declared.fault.CheckFault.{CheckFault}
use Rattle.net_model.specs.declared.fault.CheckFault.TheVariants.{Fault}
use Rattle.net_model.specs.declared.fault.CheckFault.TheVariants.{Memory as NoRoom}
use Rattle.net_model.specs.Symbolic.{is_static}
use Rattle.net_model.specs.Control.{enables, selectors, control_places, is_selector}
use Rattle.net_model.specs.CheckedRules.{is_plain, HasRoles, HasStaticEnables, HasPlainControl, HasNarrowSelectors, HasStaticFileAddrs, file_addrs, KeepsRules}
use Rattle.net_model.specs.Depends.{IsLeastOnCycle, named_by}
use Rattle.rec_bits.specs.Faults.{least}
use Rattle.net_model.specs.NetFaults.{name_at, enable_offsets, control_offsets, selector_offsets, file_addr_offsets, LacksRole, FaultOf, Refuses, IsFaultOrMemory}
use Rattle.net_model.proofs.Acyclic.{acyclic_of}
use Rattle.net_model.proofs.Offsets.{no_least}

module _ (netlist : Netlist) where
  no_enable : HasStaticEnables netlist → least (enable_offsets netlist) ≡ None
  no_enable = no_least (is_static netlist) (name_at netlist) (enables netlist)

  no_control : HasPlainControl netlist → least (control_offsets netlist) ≡ None
  no_control = no_least (is_plain netlist) (name_at netlist) (control_places netlist)

  no_selector : HasNarrowSelectors netlist → least (selector_offsets netlist) ≡ None
  no_selector = no_least (is_selector netlist) (name_at netlist) (selectors netlist)

  no_file_addr : HasStaticFileAddrs netlist → least (file_addr_offsets netlist) ≡ None
  no_file_addr = no_least (is_static netlist) (name_at netlist) (file_addrs netlist)

  -- ---- N6

  pub has_no_lack : (role : Role) → HasRoles netlist → LacksRole netlist role → ⊥
  has_no_lack NotOneCode r l = l r.code
  has_no_lack NotOneMemory r l = l.1 r.memory
  has_no_lack Pc r l = l.2 r.counter
  has_no_lack Size r l = l.3 r.sizes
  has_no_lack Addr r l = l.4 r.address
  has_no_lack NoFile r l = l.5 r.file
  has_no_lack NoMode r l = l.6 r.mode
  has_no_lack NoBank r l = l.7 r.bank

  -- the role that is lacking first
  one_lack : (r s : Role) → LacksRole netlist r → LacksRole netlist s → r ≡ s
  one_lack NotOneCode NotOneCode k l = refl
  one_lack NotOneCode NotOneMemory k l = absurd (k l.0)
  one_lack NotOneCode Pc k l = absurd (k l.0)
  one_lack NotOneCode Size k l = absurd (k l.0)
  one_lack NotOneCode Addr k l = absurd (k l.0)
  one_lack NotOneCode NoFile k l = absurd (k l.0)
  one_lack NotOneCode NoMode k l = absurd (k l.0)
  one_lack NotOneCode NoBank k l = absurd (k l.0)
  one_lack NotOneMemory NotOneCode k l = absurd (l k.0)
  one_lack NotOneMemory NotOneMemory k l = refl
  one_lack NotOneMemory Pc k l = absurd (k.1 l.1)
  one_lack NotOneMemory Size k l = absurd (k.1 l.1)
  one_lack NotOneMemory Addr k l = absurd (k.1 l.1)
  one_lack NotOneMemory NoFile k l = absurd (k.1 l.1)
  one_lack NotOneMemory NoMode k l = absurd (k.1 l.1)
  one_lack NotOneMemory NoBank k l = absurd (k.1 l.1)
  one_lack Pc NotOneCode k l = absurd (l k.0)
  one_lack Pc NotOneMemory k l = absurd (l.1 k.1)
  one_lack Pc Pc k l = refl
  one_lack Pc Size k l = absurd (k.2 l.2)
  one_lack Pc Addr k l = absurd (k.2 l.2)
  one_lack Pc NoFile k l = absurd (k.2 l.2)
  one_lack Pc NoMode k l = absurd (k.2 l.2)
  one_lack Pc NoBank k l = absurd (k.2 l.2)
  one_lack Size NotOneCode k l = absurd (l k.0)
  one_lack Size NotOneMemory k l = absurd (l.1 k.1)
  one_lack Size Pc k l = absurd (l.2 k.2)
  one_lack Size Size k l = refl
  one_lack Size Addr k l = absurd (k.3 l.3)
  one_lack Size NoFile k l = absurd (k.3 l.3)
  one_lack Size NoMode k l = absurd (k.3 l.3)
  one_lack Size NoBank k l = absurd (k.3 l.3)
  one_lack Addr NotOneCode k l = absurd (l k.0)
  one_lack Addr NotOneMemory k l = absurd (l.1 k.1)
  one_lack Addr Pc k l = absurd (l.2 k.2)
  one_lack Addr Size k l = absurd (l.3 k.3)
  one_lack Addr Addr k l = refl
  one_lack Addr NoFile k l = absurd (k.4 l.4)
  one_lack Addr NoMode k l = absurd (k.4 l.4)
  one_lack Addr NoBank k l = absurd (k.4 l.4)
  one_lack NoFile NotOneCode k l = absurd (l k.0)
  one_lack NoFile NotOneMemory k l = absurd (l.1 k.1)
  one_lack NoFile Pc k l = absurd (l.2 k.2)
  one_lack NoFile Size k l = absurd (l.3 k.3)
  one_lack NoFile Addr k l = absurd (l.4 k.4)
  one_lack NoFile NoFile k l = refl
  one_lack NoFile NoMode k l = absurd (k.5 l.5)
  one_lack NoFile NoBank k l = absurd (k.5 l.5)
  one_lack NoMode NotOneCode k l = absurd (l k.0)
  one_lack NoMode NotOneMemory k l = absurd (l.1 k.1)
  one_lack NoMode Pc k l = absurd (l.2 k.2)
  one_lack NoMode Size k l = absurd (l.3 k.3)
  one_lack NoMode Addr k l = absurd (l.4 k.4)
  one_lack NoMode NoFile k l = absurd (l.5 k.5)
  one_lack NoMode NoMode k l = refl
  one_lack NoMode NoBank k l = absurd (k.6 l.6)
  one_lack NoBank NotOneCode k l = absurd (l k.0)
  one_lack NoBank NotOneMemory k l = absurd (l.1 k.1)
  one_lack NoBank Pc k l = absurd (l.2 k.2)
  one_lack NoBank Size k l = absurd (l.3 k.3)
  one_lack NoBank Addr k l = absurd (l.4 k.4)
  one_lack NoBank NoFile k l = absurd (l.5 k.5)
  one_lack NoBank NoMode k l = absurd (l.6 k.6)
  one_lack NoBank NoBank k l = refl

  -- ---- the fault

  -- a netlist that keeps the rules has no fault
  pub kept_no_fault : (order : List ℕ) → KeepsRules netlist order → (fault : NetFault) → FaultOf netlist fault → ⊥
  kept_no_fault order k (Cycle at) f = acyclic_of netlist order k.ordered f.0 f.1.on
  kept_no_fault order k (RoleFault role) f = has_no_lack role k.roles f.1
  kept_no_fault order k (Enable at) f = cc (no_enable k.enables, f.2)
  kept_no_fault order k (ControlOp at) f = cc (no_control k.control, f.3)
  kept_no_fault order k (WideSelect at) f = cc (no_selector k.selectors, f.4)
  kept_no_fault order k (FileAddr at) f = cc (no_file_addr k.addresses, f.5)
  kept_no_fault order k _ f = f

  -- the six faults there are
  data Known : NetFault → Type 0 where
    cyclic : {at : ℕ} → FaultOf netlist (Cycle at) → Known (Cycle at)
    lacking : {role : Role} → FaultOf netlist (RoleFault role) → Known (RoleFault role)
    enabling : {at : ℕ} → FaultOf netlist (Enable at) → Known (Enable at)
    controlling : {at : ℕ} → FaultOf netlist (ControlOp at) → Known (ControlOp at)
    selecting : {at : ℕ} → FaultOf netlist (WideSelect at) → Known (WideSelect at)
    addressing : {at : ℕ} → FaultOf netlist (FileAddr at) → Known (FileAddr at)

  known : (fault : NetFault) → FaultOf netlist fault → Known fault
  known (Cycle at) f = cyclic f
  known (RoleFault role) f = lacking f
  known (Enable at) f = enabling f
  known (ControlOp at) f = controlling f
  known (WideSelect at) f = selecting f
  known (FileAddr at) f = addressing f
  known _ f = absurd f

  one_cycle : (m n : ℕ) → IsLeastOnCycle (named_by netlist) m → IsLeastOnCycle (named_by netlist) n → m ≡ n
  one_cycle m n k l = elim (cases_lt m n) [
    | inl h ↦ absurd (l.least m h k.on)
    | inr h ↦ elim (cases_lt n m) [ inl i ↦ absurd (k.least n i l.on) | inr i ↦ omega arith ]
  ]

  one_known : (f g : NetFault) → Known f → Known g → f ≡ g
  one_known f g (cyclic {at = a} k) (cyclic {at = b} l) = ap Cycle (k.2 ∙ ap (name_at netlist) (one_cycle k.0 l.0 k.1 l.1) ∙ sym l.2)
  one_known f g (cyclic k) (lacking l) = absurd (l.0 k.0 k.1.on)
  one_known f g (cyclic k) (enabling l) = absurd (l.0 k.0 k.1.on)
  one_known f g (cyclic k) (controlling l) = absurd (l.0 k.0 k.1.on)
  one_known f g (cyclic k) (selecting l) = absurd (l.0 k.0 k.1.on)
  one_known f g (cyclic k) (addressing l) = absurd (l.0 k.0 k.1.on)
  one_known f g (lacking k) (cyclic l) = absurd (k.0 l.0 l.1.on)
  one_known f g (lacking {role = r} k) (lacking {role = s} l) = ap RoleFault (one_lack r s k.1 l.1)
  one_known f g (lacking {role = r} k) (enabling l) = absurd (has_no_lack r l.1 k.1)
  one_known f g (lacking {role = r} k) (controlling l) = absurd (has_no_lack r l.1 k.1)
  one_known f g (lacking {role = r} k) (selecting l) = absurd (has_no_lack r l.1 k.1)
  one_known f g (lacking {role = r} k) (addressing l) = absurd (has_no_lack r l.1 k.1)
  one_known f g (enabling k) (cyclic l) = absurd (k.0 l.0 l.1.on)
  one_known f g (enabling k) (lacking {role = s} l) = absurd (has_no_lack s k.1 l.1)
  one_known f g (enabling k) (enabling l) = cc (k.2, l.2)
  one_known f g (enabling k) (controlling l) = absurd (cc (k.2, no_enable l.2))
  one_known f g (enabling k) (selecting l) = absurd (cc (k.2, no_enable l.2))
  one_known f g (enabling k) (addressing l) = absurd (cc (k.2, no_enable l.2))
  one_known f g (controlling k) (cyclic l) = absurd (k.0 l.0 l.1.on)
  one_known f g (controlling k) (lacking {role = s} l) = absurd (has_no_lack s k.1 l.1)
  one_known f g (controlling k) (enabling l) = absurd (cc (no_enable k.2, l.2))
  one_known f g (controlling k) (controlling l) = cc (k.3, l.3)
  one_known f g (controlling k) (selecting l) = absurd (cc (k.3, no_control l.3))
  one_known f g (controlling k) (addressing l) = absurd (cc (k.3, no_control l.3))
  one_known f g (selecting k) (cyclic l) = absurd (k.0 l.0 l.1.on)
  one_known f g (selecting k) (lacking {role = s} l) = absurd (has_no_lack s k.1 l.1)
  one_known f g (selecting k) (enabling l) = absurd (cc (no_enable k.2, l.2))
  one_known f g (selecting k) (controlling l) = absurd (cc (no_control k.3, l.3))
  one_known f g (selecting k) (selecting l) = cc (k.4, l.4)
  one_known f g (selecting k) (addressing l) = absurd (cc (k.4, no_selector l.4))
  one_known f g (addressing k) (cyclic l) = absurd (k.0 l.0 l.1.on)
  one_known f g (addressing k) (lacking {role = s} l) = absurd (has_no_lack s k.1 l.1)
  one_known f g (addressing k) (enabling l) = absurd (cc (no_enable k.2, l.2))
  one_known f g (addressing k) (controlling l) = absurd (cc (no_control k.3, l.3))
  one_known f g (addressing k) (selecting l) = absurd (cc (no_selector k.4, l.4))
  one_known f g (addressing k) (addressing l) = cc (k.5, l.5)

  -- a netlist has at most one fault
  pub one_fault : (f g : NetFault) → FaultOf netlist f → FaultOf netlist g → f ≡ g
  one_fault f g k l = one_known f g (known f k) (known g l)

  -- where the rules are kept, nothing is refused but for want of memory
  pub only_memory : (cause : CheckFault) → Refuses netlist cause → (order : List ℕ) → KeepsRules netlist order → cause ≡ NoRoom
  only_memory (Fault fault) f order k = absurd (kept_no_fault order k fault f)
  only_memory NoRoom f order k = refl

  -- where there is a fault, nothing else is refused but for want of memory
  pub only_fault : (cause : CheckFault) → Refuses netlist cause → (fault : NetFault) → FaultOf netlist fault → IsFaultOrMemory fault cause
  only_fault (Fault other) g fault f = one_fault other fault g f
  only_fault NoRoom g fault f = tt
