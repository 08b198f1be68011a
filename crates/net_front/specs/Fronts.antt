-- Which bytes are a netlist's, and why others are refused. The bytes are a netlist's where they
-- say some items and no others, these break none of N1 to N4 and N11, and their netlist keeps all
-- rules in each of its modes, or as it stands where it has a bank; or else the first rule that is
-- broken. The netlist that is *taken* for them is their own, and where it has a bank its view
-- (`taken_of`).
use Rattle.std.specs.Prelude.{◌≡◌, ◌⊎◌, if◌then◌else◌, Bool, true, false, ℕ, List, Some, None}
use Rattle.net_model.specs.declared.fault.NetFault.{NetFault}
use Rattle.net_model.specs.declared.fault.CheckFault.{CheckFault}
use Rattle.net_model.specs.declared.fault.CheckFault.TheVariants.{Fault as Broken, Memory as CheckMemory}
use Rattle.net_model.specs.declared.hardware.Netlist.{Netlist}
use Rattle.net_model.specs.CheckedRules.{IsWellFormed, KeepsRules, Ordered}
use Rattle.net_model.specs.Editions.{is_banked}
use Rattle.net_model.specs.ModeRules.{AcceptsModes, AreModesOfNetlist, KeepsInOrder, KeepsModes, ModeFaultOf, Moded, RefusesModes}
use Rattle.net_model.specs.NetFaults.{FaultOf, Refuses}
use Rattle.net_model.specs.Elaborated.{netlist_of}
use Rattle.net_model.specs.TextRules.{first_fault}
use Rattle.net_model.specs.Written.{UnitsModel as NetText}
use Rattle.rec_bits.specs.declared.fault.ParseFault.{ParseFault}
use Rattle.rec_bits.specs.declared.fault.ParseFault.TheVariants.{Text as NoText, Memory as ParseMemory}
use Rattle.net_parser.specs.Texts.{IsNetText, IsNoNetText}
use Rattle.bank_view.specs.Views.{view_of}
use Rattle.net_front.specs.declared.front.NetRefusal.{NetRefusal}
use Rattle.net_front.specs.declared.front.NetRefusal.TheVariants.{Text, Fault, Memory}

-- the bytes are a netlist text, of this edition and these items and of no others
pub record SaysNet (bytes : List ℕ) (entries : NetText) : Type 0 where
  pub text : IsNetText bytes entries
  pub only : (e : NetText) → IsNetText bytes e → entries ≡ e

-- the netlist keeps N5 to N9 and N14: as it stands where it has a bank, and otherwise in each of its
-- modes
abbrev pub KeepsIf : Bool → Netlist → Type 0
KeepsIf true netlist = KeepsInOrder netlist
KeepsIf false netlist = KeepsModes netlist

abbrev pub KeepsRest : NetText → Type 0
KeepsRest entries = KeepsIf (is_banked entries.edition) (netlist_of entries)

-- the items keep N1 to N4 and N11, and their netlist all other rules
pub record KeepsAll (entries : NetText) : Type 0 where
  pub kept : first_fault entries.edition entries.items ≡ None
  pub rest : KeepsRest entries

-- the netlist that is taken for items, whose words are extracted and run: the view of theirs where it
-- has a bank, and otherwise their own
unfoldable pub taken_of : NetText → Netlist
taken_of entries = if is_banked entries.edition then view_of (netlist_of entries) else netlist_of entries

-- the bytes are a netlist text, and its items keep the rules
pub record IsNetFile (bytes : List ℕ) (entries : NetText) : Type 0 where
  pub says : SaysNet bytes entries
  pub keeps : KeepsAll entries

-- the first of N5 to N9 and N14 that a netlist breaks: as it stands where it has a bank, and
-- otherwise in its modes, in all of which each is tried
abbrev pub BreaksIf : Bool → Netlist → NetFault → Type 0
BreaksIf true netlist fault = FaultOf netlist fault
BreaksIf false netlist fault = ModeFaultOf netlist fault

abbrev pub BreaksRest : NetText → NetFault → Type 0
BreaksRest entries fault = BreaksIf (is_banked entries.edition) (netlist_of entries) fault

-- the first rule that the items break: of N1 to N4 and N11, or, where they keep these, of N5 to N9
-- and N14
abbrev pub BreaksFirst : NetText → NetFault → Type 0
BreaksFirst entries fault =
    (first_fault entries.edition entries.items ≡ Some fault)
    ⊎ ((first_fault entries.edition entries.items ≡ None) × BreaksRest entries fault)

-- the bytes are a netlist text, and this is the first rule that its items break
pub record BreaksRule (bytes : List ℕ) (fault : NetFault) : Type 0 where
  pub entries : NetText
  pub says : SaysNet bytes entries
  pub broken : BreaksFirst entries fault

-- this netlist is taken for the items, and what it is in its modes was checked
pub record IsModedOf (entries : NetText) (moded : Moded) : Type 0 where
  pub kept : first_fault entries.edition entries.items ≡ None
  pub rest : KeepsRest entries
  pub netlist : moded.netlist ≡ taken_of entries
  pub rules : AreModesOfNetlist moded.netlist moded.bases

-- this netlist is taken for the items, which have no mode and no bank, and it was checked
pub record IsCheckedOf (entries : NetText) (checked : Ordered) : Type 0 where
  pub kept : first_fault entries.edition entries.items ≡ None
  pub netlist : checked.netlist ≡ taken_of entries
  pub rules : KeepsRules checked.netlist checked.order

-- a netlist that has a bank keeps the rules, and this is its view, checked
pub record IsViewOf (netlist : Netlist) (moded : Moded) : Type 0 where
  pub rest : KeepsInOrder netlist
  pub view : moded.netlist ≡ view_of netlist
  pub rules : AreModesOfNetlist moded.netlist moded.bases

-- what a netlist is taken as: as its view where it has a bank, and otherwise as what it is in its
-- modes
abbrev pub IsTakenAs : Bool → Netlist → Moded → Type 0
IsTakenAs true netlist moded = IsViewOf netlist moded
IsTakenAs false netlist moded = AcceptsModes netlist moded

-- and why it isn't
abbrev pub RefusesIf : Bool → Netlist → CheckFault → Type 0
RefusesIf true netlist cause = Refuses netlist cause
RefusesIf false netlist cause = RefusesModes netlist cause

-- why the items are refused
abbrev pub IsRuleRefusal : NetText → NetRefusal → Type 0
IsRuleRefusal entries (Text at) = ⊥
IsRuleRefusal entries (Fault fault) = BreaksFirst entries fault
IsRuleRefusal entries Memory = Unit {0}

-- why the bytes say no items; nothing is said where memory ran out
abbrev pub IsItemsRefusal : List ℕ → NetRefusal → Type 0
IsItemsRefusal bytes (Text at) = IsNoNetText bytes at
IsItemsRefusal bytes (Fault fault) = ⊥
IsItemsRefusal bytes Memory = Unit {0}

-- why the bytes are no netlist's; nothing is said where memory ran out
abbrev pub IsNetRefusal : List ℕ → NetRefusal → Type 0
IsNetRefusal bytes (Text at) = IsNoNetText bytes at
IsNetRefusal bytes (Fault fault) = BreaksRule bytes fault
IsNetRefusal bytes Memory = Unit {0}

-- the items keep N1 to N4 and N11, and this is their netlist
pub record IsElaboratedOf (entries : NetText) (netlist : Netlist) : Type 0 where
  pub kept : first_fault entries.edition entries.items ≡ None
  pub exact : netlist ≡ netlist_of entries
  pub formed : IsWellFormed netlist

-- why the items are refused by N1 to N4 and N11; nothing is said where memory ran out
abbrev pub IsTextRefusal : NetText → CheckFault → Type 0
IsTextRefusal entries (Broken fault) = first_fault entries.edition entries.items ≡ Some fault
IsTextRefusal entries CheckMemory = Unit {0}

-- what a fault of the reading is told as
abbrev pub parse_refusal : ParseFault → NetRefusal
parse_refusal (NoText at) = Text at
parse_refusal ParseMemory = Memory

-- what a fault of the check is told as
abbrev pub check_refusal : CheckFault → NetRefusal
check_refusal (Broken fault) = Fault fault
check_refusal CheckMemory = Memory
