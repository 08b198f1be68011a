-- What is extracted from a netlist text for a command that takes editions up to a newest one, or
-- those with a bank alone, and why nothing is.
use Rattle.std.specs.Prelude.{◌≡◌, ◌≤◌, ◌⊎◌, true, ℕ, List}
use Rattle.net_model.specs.declared.fault.NetFault.{NetFault}
use Rattle.net_model.specs.declared.fault.Role.{Role}
use Rattle.net_model.specs.CheckedRules.{Ordered}
use Rattle.net_model.specs.Editions.{is_banked}
use Rattle.net_model.specs.ModeRules.{Moded}
use Rattle.net_model.specs.Written.{UnitsModel as NetText}
use Rattle.net_parser.specs.Texts.{IsNoNetText}
use Rattle.net_front.specs.Taken.{BreaksFor, HasNoBank, IsLater, IsUntaken, added_role, unbanked_role}
use Rattle.net_front.specs.declared.front.NetRefusal.{NetRefusal}
use Rattle.net_front.specs.declared.front.NetRefusal.TheVariants.{Text, Fault, Memory}
use Rattle.isa_extract.specs.Extracts.{BreaksRouteRule, IsRoutedFile, IsRoutedModes, IsRoutedNet}

-- this netlist, which was checked, is that of the bytes, whose edition is taken and has no modes
pub record IsTakenNet (newest : ℕ) (bytes : List ℕ) (checked : Ordered) : Type 0 where
  pub routed : IsRoutedNet bytes checked
  pub taken : routed.entries.edition ≤ newest

-- the bytes are a netlist text whose edition is taken, and its items keep all rules
pub record IsRoutedTaken (newest : ℕ) (bytes : List ℕ) (entries : NetText) : Type 0 where
  pub file : IsRoutedFile bytes entries
  pub taken : entries.edition ≤ newest

-- this netlist, which was checked in its modes, is taken for the bytes, whose edition is taken
pub record IsTakenModes (newest : ℕ) (bytes : List ℕ) (moded : Moded) : Type 0 where
  pub routed : IsRoutedModes bytes moded
  pub taken : routed.entries.edition ≤ newest

-- this one is the view for the bytes, which have a bank
pub record IsViewedModes (bytes : List ℕ) (moded : Moded) : Type 0 where
  pub routed : IsRoutedModes bytes moded
  pub banked : is_banked routed.entries.edition ≡ true

-- ---- for a command that doesn't take some editions

-- the bytes are a netlist text, and this is the first rule of all that it breaks
abbrev pub BreaksAnyFor : (ℕ → Type 0) → (ℕ → Role) → List ℕ → NetFault → Type 0
BreaksAnyFor Untaken role bytes fault =
    BreaksFor Untaken role bytes fault ⊎ (BreaksRouteRule bytes fault × (IsUntaken Untaken bytes → ⊥))

-- why the bytes are not taken; nothing is said where memory ran out
abbrev pub IsRoutedRefusalFor : (ℕ → Type 0) → (ℕ → Role) → List ℕ → NetRefusal → Type 0
IsRoutedRefusalFor Untaken role bytes (Text at) = IsNoNetText bytes at
IsRoutedRefusalFor Untaken role bytes (Fault fault) = BreaksAnyFor Untaken role bytes fault
IsRoutedRefusalFor Untaken role bytes Memory = Unit {0}

-- ---- for one that takes editions up to a newest

abbrev pub BreaksAnyTaken : ℕ → List ℕ → NetFault → Type 0
BreaksAnyTaken newest bytes fault = BreaksAnyFor (IsLater newest) added_role bytes fault

abbrev pub IsRoutedTakenRefusal : ℕ → List ℕ → NetRefusal → Type 0
IsRoutedTakenRefusal newest bytes refusal = IsRoutedRefusalFor (IsLater newest) added_role bytes refusal

-- ---- for one that takes texts with a bank alone

abbrev pub BreaksAnyBanked : List ℕ → NetFault → Type 0
BreaksAnyBanked bytes fault = BreaksAnyFor HasNoBank unbanked_role bytes fault

abbrev pub IsRoutedBankedRefusal : List ℕ → NetRefusal → Type 0
IsRoutedBankedRefusal bytes refusal = IsRoutedRefusalFor HasNoBank unbanked_role bytes refusal
