-- Which netlist texts a command takes that doesn't take all editions, and why it refuses others. A
-- text of a later edition is refused as one that breaks N6: it has the part that its edition adds.
use Rattle.std.specs.Prelude.{◌≡◌, ◌<◌, ◌≤◌, ◌⊎◌, if◌then◌else◌, ℕ, List, Option, Some, Bool, true, false, IsTrue}
use Rattle.net_model.specs.declared.fault.NetFault.{NetFault}
use Rattle.net_model.specs.declared.fault.NetFault.TheVariants.{Enable, ControlOp, WideSelect, FileAddr, Role as LacksRole}
use Rattle.net_model.specs.declared.fault.Role.{Role}
use Rattle.net_model.specs.declared.fault.Role.TheVariants.{File as NoFile, Mode as NoMode, Bank as NoBank}
use Rattle.net_model.specs.declared.words.ItemWord.{ItemWord}
use Rattle.net_model.specs.declared.words.ItemWord.TheVariants.{Mode, Bank}
use Rattle.net_model.specs.Editions.{added_by, is_banked, is_moded}
use Rattle.net_model.specs.Written.{UnitsModel as NetText}
use Rattle.net_parser.specs.Texts.{IsNoNetText}
use Rattle.net_front.specs.Fronts.{BreaksFirst, BreaksRule, IsNetFile, SaysNet}
use Rattle.net_front.specs.declared.front.NetRefusal.{NetRefusal}
use Rattle.net_front.specs.declared.front.NetRefusal.TheVariants.{Text, Fault, Memory}

-- the rule is tried behind N6: it is N7, N8, N9 or N14
abbrev pub is_behind_roles : NetFault → Bool
is_behind_roles (Enable at) = true
is_behind_roles (ControlOp at) = true
is_behind_roles (WideSelect at) = true
is_behind_roles (FileAddr at) = true
is_behind_roles _ = false

-- the part that an edition adds, as N6 names it
abbrev pub role_of : Option ItemWord → Role
role_of (Some Mode) = NoMode
role_of (Some Bank) = NoBank
role_of _ = NoFile

abbrev pub added_role : ℕ → Role
added_role edition = role_of (added_by edition)

-- the items keep N6 and all that is tried before it
abbrev pub KeepsRoles : NetText → Type 0
KeepsRoles entries = (fault : NetFault) → BreaksFirst entries fault → IsTrue (is_behind_roles fault)

-- ---- for a command that doesn't take these editions

-- the bytes are a netlist text of an edition that isn't taken, and its items keep N6 and all that is
-- tried before it
pub record IsUntaken (Untaken : ℕ → Type 0) (bytes : List ℕ) : Type 0 where
  pub entries : NetText
  pub says : SaysNet bytes entries
  pub untaken : Untaken entries.edition
  pub keeps : KeepsRoles entries

-- the bytes are a netlist text, and this is the first rule that it breaks; one of an edition that
-- isn't taken breaks N6 by a part that its edition tells
abbrev pub BreaksFor : (ℕ → Type 0) → (ℕ → Role) → List ℕ → NetFault → Type 0
BreaksFor Untaken role bytes fault =
    (BreaksRule bytes fault × (IsUntaken Untaken bytes → ⊥))
    ⊎ ((is : IsUntaken Untaken bytes) × (fault ≡ LacksRole (role is.entries.edition)))

-- why the bytes are not taken; nothing is said where memory ran out
abbrev pub IsRefusalFor : (ℕ → Type 0) → (ℕ → Role) → List ℕ → NetRefusal → Type 0
IsRefusalFor Untaken role bytes (Text at) = IsNoNetText bytes at
IsRefusalFor Untaken role bytes (Fault fault) = BreaksFor Untaken role bytes fault
IsRefusalFor Untaken role bytes Memory = Unit {0}

-- what a refusal of items is told as, where their edition isn't taken and adds this part
abbrev pub newer_of : Role → NetRefusal → NetRefusal
newer_of role (Fault fault) = if is_behind_roles fault then Fault (LacksRole role) else Fault fault
newer_of role refusal = refusal

-- ---- for one that takes editions up to a newest

abbrev pub IsLater : ℕ → ℕ → Type 0
IsLater newest edition = newest < edition

abbrev pub IsNewer : ℕ → List ℕ → Type 0
IsNewer newest bytes = IsUntaken (IsLater newest) bytes

abbrev pub BreaksTaken : ℕ → List ℕ → NetFault → Type 0
BreaksTaken newest bytes fault = BreaksFor (IsLater newest) added_role bytes fault

abbrev pub IsTakenRefusal : ℕ → List ℕ → NetRefusal → Type 0
IsTakenRefusal newest bytes refusal = IsRefusalFor (IsLater newest) added_role bytes refusal

-- the bytes are a netlist text whose edition is taken, and its items keep the rules
pub record IsTakenFile (newest : ℕ) (bytes : List ℕ) (entries : NetText) : Type 0 where
  pub file : IsNetFile bytes entries
  pub taken : entries.edition ≤ newest

-- ---- for one that takes texts with a bank alone

abbrev pub HasNoBank : ℕ → Type 0
HasNoBank edition = is_banked edition ≡ false

-- the part that a text of another edition is told to have, or to lack
abbrev pub unbanked_role : ℕ → Role
unbanked_role edition = if is_moded edition then NoMode else NoBank

abbrev pub IsUnbanked : List ℕ → Type 0
IsUnbanked bytes = IsUntaken HasNoBank bytes

abbrev pub BreaksBanked : List ℕ → NetFault → Type 0
BreaksBanked bytes fault = BreaksFor HasNoBank unbanked_role bytes fault

abbrev pub IsBankedRefusal : List ℕ → NetRefusal → Type 0
IsBankedRefusal bytes refusal = IsRefusalFor HasNoBank unbanked_role bytes refusal
