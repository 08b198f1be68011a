-- A netlist that keeps the rules in its modes has no fault there, and none has two; its modes break
-- the same of N5 to N9 and N14.
use Rattle.std.proofs.Common.{◌≡◌, ◌==◌, ℕ, zero, suc, ◌<◌, ◌≤◌, ◌&&◌, inl, inr, Bool, true, false, if◌then◌else◌, List, [], ◌∷◌, ◌++◌, length, map, Option, Some, None, option_map, refl, sym, ◌∙◌, ap, subst, slice_get, arith}
use Rattle.std.proofs.lemmas.Bool.{cases_lt}
use Rattle.std.proofs.lemmas.List.{length-map}
use Rattle.std.proofs.lemmas.Nat.{pow_pos}
use Rattle.std.proofs.lemmas.Option.{same_Some, slice_get-map, slice_get_within}
use Rattle.std.specs.List.{AllByRecursion}
use Rattle.rec_bits.specs.Faults.{gather, least}
use Rattle.net_model.specs.declared.hardware.Netlist.{Netlist}
use Rattle.net_model.specs.declared.hardware.Net.{Net}
use Rattle.net_model.specs.declared.hardware.Gate.{Gate}
use Rattle.net_model.specs.declared.hardware.Gate.TheVariants.{Word, Reg, Read, Const, Wire, Un, Bin, Slice, Cat, Zext, Sext, Case, Bus}
use Rattle.net_model.specs.declared.fault.Role.{Role}
use Rattle.net_model.specs.declared.fault.Role.TheVariants.{Pc, Size, Addr}
use Rattle.net_model.specs.declared.fault.Role.TheVariants.{Code as NotOneCode, Memory as NotOneMemory, File as NoFile, Mode as NoMode, Bank as NoBank}
use Rattle.net_model.specs.declared.fault.CheckFault.{CheckFault}
use Rattle.net_model.specs.declared.fault.CheckFault.TheVariants.{Fault}
use Rattle.net_model.specs.declared.fault.CheckFault.TheVariants.{Memory as NoRoom}
use Rattle.net_model.specs.declared.fault.NetFault.{NetFault}
use Rattle.net_model.specs.declared.fault.NetFault.TheVariants.{Cycle, Enable, ControlOp, WideSelect, FileAddr}
use Rattle.net_model.specs.declared.fault.NetFault.TheVariants.{Role as RoleFault}
use Rattle.net_model.specs.Nets.{gate_nets, nets_of, storage_bits}
use Rattle.net_model.specs.Depends.{Depends, IsAcyclic, IsLeastOnCycle, named_by}
use Rattle.net_model.specs.Symbolic.{all_nets, gate_static, net_static, static_within, is_static}
use Rattle.net_model.specs.Control.{enables, gate_enables, gate_selectors, selectors, control_places, is_selector, write_enables, AllPass}
use Rattle.net_model.specs.CheckedRules.{HasRoles, HasStaticEnables, HasPlainControl, HasNarrowSelectors, control_within, net_control, is_control, is_control_gate, is_plain, all_file_addrs, file_addrs, gate_file_addrs, storage_file_addrs, KeepsRules, Ordered}
use Rattle.net_model.specs.NetFaults.{FaultOf, IsFaultOrMemory, LacksRole, net_name, name_at, failing}
use Rattle.net_model.specs.Fixed.{fixed_gate, fixed_net, fixed_of, in_mode, mode_count}
use Rattle.net_model.specs.ModeRules.{AreModesOfNetlist, base_at, bases_below, bases_of, KeepsInOrder, KeepsModes, ModeFaultOf, IsTriedBefore, modes_in, RefusesModes, rule_place, whole_of}
use Rattle.net_model.proofs.ByEdition.{no_special}
use Rattle.net_model.proofs.Fixes.{length_bases}
use Rattle.net_model.proofs.Fixing.{same_width}
use Rattle.net_model.proofs.FaultLaws.{kept_no_fault, one_fault}

-- ---- what of a netlist is the same in a mode

module _ (mode v : ℕ) where
  same_nets : (gate : Gate) → gate_nets (fixed_gate mode v gate) ≡ gate_nets gate
  same_nets (Reg id) = by (id == mode)
    where
      by : (b : Bool) → gate_nets (if b then Const v else Reg id) ≡ []
      by true = refl
      by false = refl
  same_nets (Word code) = refl
  same_nets (Read memory addr) = refl
  same_nets (Const c) = refl
  same_nets (Wire a) = refl
  same_nets (Un op a) = refl
  same_nets (Bin op a b) = refl
  same_nets (Slice of hi lo) = refl
  same_nets (Cat a b) = refl
  same_nets (Zext a) = refl
  same_nets (Sext a) = refl
  same_nets (Case sel rows rest) = refl
  same_nets (Bus drivers) = refl

  same_enables : (gate : Gate) → gate_enables (fixed_gate mode v gate) ≡ gate_enables gate
  same_enables (Reg id) = by (id == mode)
    where
      by : (b : Bool) → gate_enables (if b then Const v else Reg id) ≡ []
      by true = refl
      by false = refl
  same_enables (Word code) = refl
  same_enables (Read memory addr) = refl
  same_enables (Const c) = refl
  same_enables (Wire a) = refl
  same_enables (Un op a) = refl
  same_enables (Bin op a b) = refl
  same_enables (Slice of hi lo) = refl
  same_enables (Cat a b) = refl
  same_enables (Zext a) = refl
  same_enables (Sext a) = refl
  same_enables (Case sel rows rest) = refl
  same_enables (Bus drivers) = refl

  same_selectors : (gate : Gate) → gate_selectors (fixed_gate mode v gate) ≡ gate_selectors gate
  same_selectors (Reg id) = by (id == mode)
    where
      by : (b : Bool) → gate_selectors (if b then Const v else Reg id) ≡ []
      by true = refl
      by false = refl
  same_selectors (Word code) = refl
  same_selectors (Read memory addr) = refl
  same_selectors (Const c) = refl
  same_selectors (Wire a) = refl
  same_selectors (Un op a) = refl
  same_selectors (Bin op a b) = refl
  same_selectors (Slice of hi lo) = refl
  same_selectors (Cat a b) = refl
  same_selectors (Zext a) = refl
  same_selectors (Sext a) = refl
  same_selectors (Case sel rows rest) = refl
  same_selectors (Bus drivers) = refl

  same_addrs : (netlist : Netlist) (gate : Gate) → gate_file_addrs (fixed_of mode v netlist) (fixed_gate mode v gate) ≡ gate_file_addrs netlist gate
  same_addrs netlist (Reg id) = by (id == mode)
    where
      by : (b : Bool) → gate_file_addrs (fixed_of mode v netlist) (if b then Const v else Reg id) ≡ []
      by true = refl
      by false = refl
  same_addrs netlist (Word code) = refl
  same_addrs netlist (Read memory addr) = refl
  same_addrs netlist (Const c) = refl
  same_addrs netlist (Wire a) = refl
  same_addrs netlist (Un op a) = refl
  same_addrs netlist (Bin op a b) = refl
  same_addrs netlist (Slice of hi lo) = refl
  same_addrs netlist (Cat a b) = refl
  same_addrs netlist (Zext a) = refl
  same_addrs netlist (Sext a) = refl
  same_addrs netlist (Case sel rows rest) = refl
  same_addrs netlist (Bus drivers) = refl

  -- what is gathered of gates that tell the same
  gather_same : (f g : Gate → List ℕ) → ((gate : Gate) → f (fixed_gate mode v gate) ≡ g gate) → (nets : List Net) →
      gather (λ (net : Net). f net.gate) (map (fixed_net mode v) nets) ≡ gather (λ (net : Net). g net.gate) nets
  gather_same f g h [] = refl
  gather_same f g h (net ∷ nets) = rw (h net.gate, gather_same f g h nets) refl

  module _ (netlist : Netlist) where
    enables_same : enables (fixed_of mode v netlist) ≡ enables netlist
    enables_same = ap (λ (ns : List ℕ). write_enables netlist ++ ns) (gather_same gate_enables gate_enables same_enables netlist.nets)

    selectors_same : selectors (fixed_of mode v netlist) ≡ selectors netlist
    selectors_same = gather_same gate_selectors gate_selectors same_selectors netlist.nets

    file_addrs_same : file_addrs (fixed_of mode v netlist) ≡ all_file_addrs netlist
    file_addrs_same =
        ap (λ (ns : List ℕ). gather storage_file_addrs netlist.storages ++ ns)
        (gather_same (gate_file_addrs (fixed_of mode v netlist)) (gate_file_addrs netlist) (same_addrs netlist) netlist.nets)

    named_net : (o : Option Net) → nets_of (option_map (fixed_net mode v) o) ≡ nets_of o
    named_net None = refl
    named_net (Some net) = same_nets net.gate

    named_same : (n : ℕ) → named_by (fixed_of mode v netlist) n ≡ named_by netlist n
    named_same n = ap nets_of (slice_get-map (fixed_net mode v) netlist.nets n) ∙ named_net (slice_get netlist.nets n)

    name_net : (o : Option Net) → net_name (option_map (fixed_net mode v) o) ≡ net_name o
    name_net None = refl
    name_net (Some net) = refl

    name_same : (n : ℕ) → name_at (fixed_of mode v netlist) n ≡ name_at netlist n
    name_same n = ap net_name (slice_get-map (fixed_net mode v) netlist.nets n) ∙ name_net (slice_get netlist.nets n)

-- ---- what is the same in two modes

module _ (netlist : Netlist) (mode u v : ℕ) where
  abbrev a : Netlist
  a = fixed_of mode u netlist

  abbrev b : Netlist
  b = fixed_of mode v netlist

  named_alike : (n : ℕ) → named_by a n ≡ named_by b n
  named_alike n = named_same mode u netlist n ∙ sym (named_same mode v netlist n)

  names_alike : (n : ℕ) → name_at a n ≡ name_at b n
  names_alike n = name_same mode u netlist n ∙ sym (name_same mode v netlist n)

  -- the mode's output is static, whatever number it is
  static_gate : (f g : ℕ → Bool) → f ≡ g → (gate : Gate) → gate_static f (fixed_gate mode u gate) ≡ gate_static g (fixed_gate mode v gate)
  static_gate f g p (Reg id) = by (id == mode)
    where
      by : (c : Bool) → gate_static f (if c then Const u else Reg id) ≡ gate_static g (if c then Const v else Reg id)
      by true = refl
      by false = refl
  static_gate f g p (Word code) = refl
  static_gate f g p (Read memory addr) = refl
  static_gate f g p (Const c) = refl
  static_gate f g p (Wire x) = ap (λ (h : ℕ → Bool). gate_static h (Wire x)) p
  static_gate f g p (Un op x) = ap (λ (h : ℕ → Bool). gate_static h (Un op x)) p
  static_gate f g p (Bin op x y) = ap (λ (h : ℕ → Bool). gate_static h (Bin op x y)) p
  static_gate f g p (Slice of hi lo) = ap (λ (h : ℕ → Bool). gate_static h (Slice of hi lo)) p
  static_gate f g p (Cat x y) = ap (λ (h : ℕ → Bool). gate_static h (Cat x y)) p
  static_gate f g p (Zext x) = ap (λ (h : ℕ → Bool). gate_static h (Zext x)) p
  static_gate f g p (Sext x) = ap (λ (h : ℕ → Bool). gate_static h (Sext x)) p
  static_gate f g p (Case sel rows rest) = ap (λ (h : ℕ → Bool). gate_static h (Case sel rows rest)) p
  static_gate f g p (Bus drivers) = ap (λ (h : ℕ → Bool). gate_static h (Bus drivers)) p

  static_net : (f g : ℕ → Bool) → f ≡ g → (o : Option Net) → net_static f (option_map (fixed_net mode u) o) ≡ net_static g (option_map (fixed_net mode v) o)
  static_net f g p None = refl
  static_net f g p (Some net) = static_gate f g p net.gate

  static_within_alike : (k : ℕ) → static_within k a ≡ static_within k b
  static_within_alike zero = refl
  static_within_alike (suc k) = λ i n. (
      ap (net_static (static_within k a)) (slice_get-map (fixed_net mode u) netlist.nets n)
      ∙ static_net (static_within k a) (static_within k b) (static_within_alike k) (slice_get netlist.nets n)
      ∙ sym (ap (net_static (static_within k b)) (slice_get-map (fixed_net mode v) netlist.nets n))
      ) i

  static_alike : is_static a ≡ is_static b
  static_alike =
      ap (λ (k : ℕ). static_within k a) (length-map netlist.nets (fixed_net mode u))
      ∙ static_within_alike (length netlist.nets)
      ∙ sym (ap (λ (k : ℕ). static_within k b) (length-map netlist.nets (fixed_net mode v)))

  -- and its gate is one for control
  control_gate : (f g : ℕ → Bool) → f ≡ g → (gate : Gate) →
      (is_control_gate (fixed_gate mode u gate) && all_nets f (gate_nets (fixed_gate mode u gate))) ≡ (is_control_gate (fixed_gate mode v gate) && all_nets g (gate_nets (fixed_gate mode v gate)))
  control_gate f g p (Reg id) = by (id == mode)
    where
      by : (c : Bool) → (is_control_gate (if c then Const u else Reg id) && all_nets f (gate_nets (if c then Const u else Reg id))) ≡ (is_control_gate (if c then Const v else Reg id) && all_nets g (gate_nets (if c then Const v else Reg id)))
      by true = refl
      by false = refl
  control_gate f g p (Word code) = refl
  control_gate f g p (Read memory addr) = refl
  control_gate f g p (Const c) = refl
  control_gate f g p (Wire x) = ap (λ (h : ℕ → Bool). is_control_gate (Wire x) && all_nets h (gate_nets (Wire x))) p
  control_gate f g p (Un op x) = ap (λ (h : ℕ → Bool). is_control_gate (Un op x) && all_nets h (gate_nets (Un op x))) p
  control_gate f g p (Bin op x y) = ap (λ (h : ℕ → Bool). is_control_gate (Bin op x y) && all_nets h (gate_nets (Bin op x y))) p
  control_gate f g p (Slice of hi lo) = ap (λ (h : ℕ → Bool). is_control_gate (Slice of hi lo) && all_nets h (gate_nets (Slice of hi lo))) p
  control_gate f g p (Cat x y) = ap (λ (h : ℕ → Bool). is_control_gate (Cat x y) && all_nets h (gate_nets (Cat x y))) p
  control_gate f g p (Zext x) = ap (λ (h : ℕ → Bool). is_control_gate (Zext x) && all_nets h (gate_nets (Zext x))) p
  control_gate f g p (Sext x) = ap (λ (h : ℕ → Bool). is_control_gate (Sext x) && all_nets h (gate_nets (Sext x))) p
  control_gate f g p (Case sel rows rest) = ap (λ (h : ℕ → Bool). is_control_gate (Case sel rows rest) && all_nets h (gate_nets (Case sel rows rest))) p
  control_gate f g p (Bus drivers) = ap (λ (h : ℕ → Bool). is_control_gate (Bus drivers) && all_nets h (gate_nets (Bus drivers))) p

  control_net : (f g : ℕ → Bool) → f ≡ g → (o : Option Net) → net_control f (option_map (fixed_net mode u) o) ≡ net_control g (option_map (fixed_net mode v) o)
  control_net f g p None = refl
  control_net f g p (Some net) = control_gate f g p net.gate

  control_within_alike : (k : ℕ) → control_within k a ≡ control_within k b
  control_within_alike zero = refl
  control_within_alike (suc k) = λ i n. (
      ap (net_control (control_within k a)) (slice_get-map (fixed_net mode u) netlist.nets n)
      ∙ control_net (control_within k a) (control_within k b) (control_within_alike k) (slice_get netlist.nets n)
      ∙ sym (ap (net_control (control_within k b)) (slice_get-map (fixed_net mode v) netlist.nets n))
      ) i

  control_alike : is_control a ≡ is_control b
  control_alike =
      ap (λ (k : ℕ). control_within k a) (length-map netlist.nets (fixed_net mode u))
      ∙ control_within_alike (length netlist.nets)
      ∙ sym (ap (λ (k : ℕ). control_within k b) (length-map netlist.nets (fixed_net mode v)))

  plain_alike : (n : ℕ) → is_plain a n ≡ is_plain b n
  plain_alike n = rw (ap (λ (f : ℕ → Bool). f n) static_alike, ap (λ (f : ℕ → Bool). f n) control_alike) refl

  selector_alike : (n : ℕ) → is_selector a n ≡ is_selector b n
  selector_alike n = rw (ap (λ (f : ℕ → Bool). f n) static_alike, same_width netlist mode u n ∙ sym (same_width netlist mode v n)) refl

  enables_alike : enables a ≡ enables b
  enables_alike = enables_same mode u netlist ∙ sym (enables_same mode v netlist)

  selectors_alike : selectors a ≡ selectors b
  selectors_alike = selectors_same mode u netlist ∙ sym (selectors_same mode v netlist)

  places_alike : control_places a ≡ control_places b
  places_alike = λ i. enables_alike i ++ selectors_alike i

  file_addrs_alike : file_addrs a ≡ file_addrs b
  file_addrs_alike = file_addrs_same mode u netlist ∙ sym (file_addrs_same mode v netlist)

  -- ---- the rules

  pass_alike : (f g : ℕ → Bool) → f ≡ g → (ms ns : List ℕ) → ms ≡ ns → AllPass f ms → AllPass g ns
  pass_alike f g p ms ns q h = subst (AllPass g) q (subst (λ (t : ℕ → Bool). AllPass t ms) p h)

  failing_alike : (f g : ℕ → Bool) → f ≡ g → (ms ns : List ℕ) → ms ≡ ns → (at : ℕ) → least (failing f (name_at a) ms) ≡ Some at → least (failing g (name_at b) ns) ≡ Some at
  failing_alike f g p ms ns q at h = sym (λ i. least (failing (p i) (λ n. names_alike n i) (q i))) ∙ h

  acyclic_alike : IsAcyclic a → IsAcyclic b
  acyclic_alike h = subst (λ (names : ℕ → List ℕ). (n : ℕ) → Depends names n n → ⊥) (λ i n. named_alike n i) h

  roles_alike : HasRoles a → HasRoles b
  roles_alike h = record {
    code = h.code;
    memory = h.memory;
    counter = h.counter;
    sizes = h.sizes;
    address = h.address;
    file = h.file;
    mode = tt;
    bank = tt;
  }

  lacks_alike : (role : Role) → LacksRole a role → LacksRole b role
  lacks_alike NotOneCode h = h
  lacks_alike NotOneMemory h = h
  lacks_alike Pc h = h
  lacks_alike Size h = h
  lacks_alike Addr h = h
  lacks_alike NoFile h = h
  lacks_alike NoMode h = h
  lacks_alike NoBank h = h

  enables_kept : HasStaticEnables a → HasStaticEnables b
  enables_kept = pass_alike (is_static a) (is_static b) static_alike (enables a) (enables b) enables_alike

  control_kept : HasPlainControl a → HasPlainControl b
  control_kept = pass_alike (is_plain a) (is_plain b) (λ i n. plain_alike n i) (control_places a) (control_places b) places_alike

  selectors_kept : HasNarrowSelectors a → HasNarrowSelectors b
  selectors_kept = pass_alike (is_selector a) (is_selector b) (λ i n. selector_alike n i) (selectors a) (selectors b) selectors_alike

  -- a fault in one mode is one in each
  fault_alike : (fault : NetFault) → FaultOf a fault → FaultOf b fault
  fault_alike (Cycle at) h =
      (h.0, subst (λ (names : ℕ → List ℕ). IsLeastOnCycle names h.0) (λ i n. named_alike n i) h.1, h.2 ∙ names_alike h.0)
  fault_alike (RoleFault role) h = (acyclic_alike h.0, lacks_alike role h.1)
  fault_alike (Enable at) h = (
    acyclic_alike h.0,
    roles_alike h.1,
    failing_alike (is_static a) (is_static b) static_alike (enables a) (enables b) enables_alike at h.2,
  )
  fault_alike (ControlOp at) h = (
    acyclic_alike h.0,
    roles_alike h.1,
    enables_kept h.2,
    failing_alike (is_plain a) (is_plain b) (λ i n. plain_alike n i) (control_places a) (control_places b) places_alike at h.3,
  )
  fault_alike (WideSelect at) h = (
    acyclic_alike h.0,
    roles_alike h.1,
    enables_kept h.2,
    control_kept h.3,
    failing_alike (is_selector a) (is_selector b) (λ i n. selector_alike n i) (selectors a) (selectors b) selectors_alike at h.4,
  )
  fault_alike (FileAddr at) h = (
    acyclic_alike h.0,
    roles_alike h.1,
    enables_kept h.2,
    control_kept h.3,
    selectors_kept h.4,
    failing_alike (is_static a) (is_static b) static_alike (file_addrs a) (file_addrs b) file_addrs_alike at h.5,
  )
  fault_alike _ h = absurd h

in_mode_alike : (netlist : Netlist) (special : Option ℕ) (u v : ℕ) (fault : NetFault) → FaultOf (in_mode special u netlist) fault → FaultOf (in_mode special v netlist) fault
in_mode_alike netlist None u v fault h = h
in_mode_alike netlist (Some mode) u v fault h = fault_alike netlist mode u v fault h

-- ---- netlists that were checked

at_place : (before : List Netlist) (n : ℕ) → length before ≡ n → (x : Netlist) (rest : List Netlist) → slice_get (before ++ x ∷ rest) n ≡ Some x
at_place [] zero e x rest = refl
at_place [] (suc n) e x rest = absurd (cc e)
at_place (b ∷ before) zero e x rest = absurd (cc e)
at_place (b ∷ before) (suc n) e x rest = at_place before n (omega (arith, e)) x rest

before_place : (xs ys : List Netlist) (v : ℕ) → v < length xs → slice_get (xs ++ ys) v ≡ slice_get xs v
before_place [] ys v small = absurd (omega (arith, small))
before_place (x ∷ xs) ys zero small = refl
before_place (x ∷ xs) ys (suc v) small = before_place xs ys v (omega (arith, small))

-- the netlist of a mode stands at the mode's place
pub base_in : (netlist : Netlist) (n v : ℕ) → v < n → slice_get (bases_below netlist n) v ≡ Some (base_at netlist v)
base_in netlist zero v small = absurd (omega (arith, small))
base_in netlist (suc n) v small = elim (cases_lt v n) [
  | inl less ↦ before_place (bases_below netlist n) (base_at netlist n ∷ []) v (omega (arith, less, length_bases netlist n)) ∙ base_in netlist n v less
  | inr le ↦ (
      let same : v ≡ n = omega (arith, small, le) in
      at_place (bases_below netlist n) v (length_bases netlist n ∙ sym same) (base_at netlist n) [] ∙ ap (λ (k : ℕ). Some (base_at netlist k)) (sym same)
      )
]

pub rules_in : (modes : List Ordered) → AllByRecursion (λ (base : Ordered). KeepsRules base.netlist base.order) modes → (v : ℕ) (base : Netlist) →
    slice_get (map (λ (base : Ordered). base.netlist) modes) v ≡ Some base → KeepsInOrder base
rules_in [] h v base e = absurd (cc e)
rules_in (mode ∷ modes) h zero base e =
    subst KeepsInOrder (let s : mode.netlist ≡ base = cc e in s) (record { order = mode.order; rules = h.0 })
rules_in (mode ∷ modes) h (suc v) base e = rules_in modes h.1 v base e

-- what a netlist is in its modes, each of which was checked, keeps the rules
pub modes_keep : (netlist : Netlist) (bases : List Ordered) → AreModesOfNetlist netlist bases → KeepsModes netlist
modes_keep netlist bases are = record {
  special = are.special;
  each = λ v small. rules_in bases are.rules v (base_at netlist v) (ap (λ (list : List Netlist). slice_get list v) are.are ∙ base_in netlist (modes_in netlist) v small);
}

-- a netlist has a mode 0
some_count : (netlist : Netlist) (special : Option ℕ) → 0 < mode_count special netlist
some_count netlist None = omega arith
some_count netlist (Some mode) = pow_pos (storage_bits (slice_get netlist.storages mode))

pub some_modes : (netlist : Netlist) → 0 < modes_in netlist
some_modes netlist = some_count netlist netlist.special

-- and keeps the rules in it
pub first_keeps : (netlist : Netlist) → KeepsModes netlist → KeepsInOrder (base_at netlist 0)
first_keeps netlist keeps = keeps.each 0 (some_modes netlist)

-- ---- a netlist without a mode

-- it has one mode, in which it is itself
only : (netlist : Netlist) (special : Option ℕ) → special ≡ None → (v : ℕ) → (in_mode special v netlist ≡ netlist) × (mode_count special netlist ≡ 1)
only netlist None e v = (refl, refl)
only netlist (Some mode) e v = absurd (cc e)

pub alone_base : (netlist : Netlist) → netlist.special ≡ None → (v : ℕ) → base_at netlist v ≡ netlist
alone_base netlist none v = (only netlist netlist.special none v).0

pub alone_modes : (netlist : Netlist) → netlist.special ≡ None → modes_in netlist ≡ 1
alone_modes netlist none = (only netlist netlist.special none 0).1

pub alone_bases : (netlist : Netlist) → netlist.special ≡ None → bases_of netlist ≡ netlist ∷ []
alone_bases netlist none = ap (bases_below netlist) (alone_modes netlist none) ∙ ap (λ (n : Netlist). n ∷ []) (alone_base netlist none 0)

pub modes_alone : (checked : Ordered) → checked.netlist.special ≡ None → KeepsRules checked.netlist checked.order → AreModesOfNetlist checked.netlist (checked ∷ [])
modes_alone checked none rules = record {
  special = no_special checked.netlist checked.netlist.special none;
  are = sym (alone_bases checked.netlist none);
  rules = (rules, tt);
}

netlists_at : (bases : List Ordered) (v : ℕ) (base : Ordered) → slice_get bases v ≡ Some base → slice_get (map (λ (base : Ordered). base.netlist) bases) v ≡ Some base.netlist
netlists_at bases v base at = slice_get-map (λ (base : Ordered). base.netlist) bases v ∙ ap (option_map (λ (base : Ordered). base.netlist)) at

-- what stands at the place of a mode is what the netlist is in that mode
pub base_is : (netlist : Netlist) (bases : List Ordered) → AreModesOfNetlist netlist bases → (v : ℕ) (base : Ordered) → slice_get bases v ≡ Some base → base.netlist ≡ base_at netlist v
base_is netlist bases are v base at =
    let small : v < modes_in netlist = within (modes_in netlist) v base.netlist (sym (ap (λ (list : List Netlist). slice_get list v) are.are) ∙ netlists_at bases v base at) in
    same_Some base.netlist (base_at netlist v)
    (sym (netlists_at bases v base at) ∙ ap (λ (list : List Netlist). slice_get list v) are.are ∙ base_in netlist (modes_in netlist) v small)
  where
    within : (n v : ℕ) (found : Netlist) → slice_get (bases_below netlist n) v ≡ Some found → v < n
    within n v found e =
        let long = length_bases netlist n in
        let inside = slice_get_within (bases_below netlist n) v found e in
        omega (arith, long, inside)

-- and something stands at the place of mode 0
pub some_bases : (netlist : Netlist) (bases : List Ordered) → AreModesOfNetlist netlist bases → 0 < length bases
some_bases netlist bases are =
    let long = length_bases netlist (modes_in netlist) in
    let same = ap length are.are in
    let mapped = length-map bases (λ (base : Ordered). base.netlist) in
    omega (arith, some_modes netlist, long, same, mapped)

pub first_there : (bases : List Ordered) → 0 < length bases → None ≡ slice_get bases 0 → ⊥
first_there [] some none = omega (arith, some)
first_there (base ∷ bases) some none = cc

-- what was checked at a place keeps the rules
pub kept_at : (bases : List Ordered) → AllByRecursion (λ (base : Ordered). KeepsRules base.netlist base.order) bases → (v : ℕ) (base : Ordered) →
    slice_get bases v ≡ Some base → KeepsRules base.netlist base.order
kept_at [] h v base at = absurd (cc at)
kept_at (first ∷ bases) h zero base at = let same : first ≡ base = cc at in subst (λ (o : Ordered). KeepsRules o.netlist o.order) same h.0
kept_at (first ∷ bases) h (suc v) base at = kept_at bases h.1 v base at

-- which is the netlist itself where that isn't told
pub whole_first : (bases : List Ordered) (base : Ordered) → slice_get bases 0 ≡ Some base → base.netlist ≡ whole_of None bases
whole_first [] base at = absurd (cc at)
whole_first (first ∷ bases) base at = let same : first ≡ base = cc at in sym (ap (λ (o : Ordered). o.netlist) same)

-- ---- the fault in all modes

module _ (netlist : Netlist) where
  pub kept_no_mode_fault : KeepsModes netlist → (fault : NetFault) → ModeFaultOf netlist fault → ⊥
  kept_no_mode_fault keeps fault f =
      let kept = keeps.each f.value f.within in
      kept_no_fault (base_at netlist f.value) kept.order kept.rules fault f.broken

  -- two faults of which none is tried before the other are of one mode
  same_mode : (f g : NetFault) (u v : ℕ) → IsTriedBefore f u g v → IsTriedBefore g v f u → u ≡ v
  same_mode f g u v (inl x) (inl y) = absurd (omega (arith, x, y))
  same_mode f g u v (inl x) (inr y) = absurd (omega (arith, x, y.0))
  same_mode f g u v (inr x) (inl y) = absurd (omega (arith, x.0, y))
  same_mode f g u v (inr x) (inr y) = omega (arith, x.1, y.1)

  -- a netlist has at most one fault in its modes
  pub one_mode_fault : (f g : NetFault) → ModeFaultOf netlist f → ModeFaultOf netlist g → f ≡ g
  one_mode_fault f g k l =
      let same : l.value ≡ k.value = same_mode g f l.value k.value (l.first k.value k.within f k.broken) (k.first l.value l.within g l.broken) in
      one_fault (base_at netlist k.value) f g k.broken (subst (λ (v : ℕ). FaultOf (base_at netlist v) g) same l.broken)

  -- the fault of a mode behind which stand modes without one is that of the netlist in its modes,
  -- since another mode has no other fault
  pub mode_fault_of : (value : ℕ) → value < modes_in netlist → (fault : NetFault) → FaultOf (base_at netlist value) fault →
      ((v : ℕ) → v < value → (other : NetFault) → FaultOf (base_at netlist v) other → ⊥) → ModeFaultOf netlist fault
  mode_fault_of value within fault broken none = record {
    value = value;
    within = within;
    broken = broken;
    first = λ v small other h. (
        let same : fault ≡ other = one_fault (base_at netlist v) fault other (in_mode_alike netlist netlist.special value v fault broken) h in
        inr (ap rule_place same, no_earlier v other h)
        );
  }
    where
      no_earlier : (v : ℕ) (other : NetFault) → FaultOf (base_at netlist v) other → value ≤ v
      no_earlier v other h = elim (cases_lt v value) [
        | inl before ↦ absurd (none v before other h)
        | inr le ↦ le
      ]

  -- a fault of a netlist without a mode is the one that it has in its modes
  pub alone_fault : netlist.special ≡ None → (fault : NetFault) → FaultOf netlist fault → ModeFaultOf netlist fault
  alone_fault none fault f =
      mode_fault_of 0 (some_modes netlist) fault (subst (λ (n : Netlist). FaultOf n fault) (sym (alone_base netlist none 0)) f)
      (λ v small other h. absurd (omega (arith, small)))

  -- where nothing but want of memory refuses a netlist that keeps the rules in its modes
  pub only_memory_in_modes : (cause : CheckFault) → RefusesModes netlist cause → KeepsModes netlist → cause ≡ NoRoom
  only_memory_in_modes (Fault fault) f keeps = absurd (kept_no_mode_fault keeps fault f)
  only_memory_in_modes NoRoom f keeps = refl

  -- and nothing else where there is a fault
  pub only_mode_fault : (cause : CheckFault) → RefusesModes netlist cause → (fault : NetFault) → ModeFaultOf netlist fault → IsFaultOrMemory fault cause
  only_mode_fault (Fault other) g fault f = one_mode_fault other fault g f
  only_mode_fault NoRoom g fault f = tt
