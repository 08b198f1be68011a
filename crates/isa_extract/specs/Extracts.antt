-- What is extracted from the text of a netlist, and why nothing is. N10 said of a netlist, and the
-- offset that N12 or N13 names; a netlist keeps them where it does in each mode (`InEachMode`), it
-- breaks N10 where some mode does, and N12 or N13 where all modes keep N10 and the first mode that
-- breaks one of them breaks this one (`InFirstMode`). A text that keeps all rules; its patterns'
-- text, which of a netlist with a mode has for each mode a line and the text of what the netlist
-- is in it (`IsModesText`); and why there is none.
use Rattle.std.specs.Prelude.{◌≡◌, ◌<◌, ◌≤◌, ℕ, zero, suc, List, [], ◌∷◌, codes, Option, Some, None}
use Rattle.std.specs.Fmt.{decimal}
use Rattle.std.specs.List.{concat}
use Rattle.net_model.specs.declared.fault.CheckFault.{CheckFault}
use Rattle.net_model.specs.declared.fault.CheckFault.TheVariants.{Fault as Broken, Memory as CheckMemory}
use Rattle.net_model.specs.declared.fault.NetFault.{NetFault}
use Rattle.net_model.specs.declared.fault.NetFault.TheVariants.{AlwaysClash, PatternLarge, TooMany}
use Rattle.net_model.specs.declared.hardware.Netlist.{Netlist}
use Rattle.net_model.specs.CheckedRules.{Ordered}
use Rattle.net_model.specs.ModeRules.{base_at, Moded, modes_in}
use Rattle.net_model.specs.NetFaults.{name_at}
use Rattle.net_model.specs.Patterns.{ArePatterns, Pattern}
use Rattle.net_model.specs.Transfers.{ClashesAlways, IsClean}
use Rattle.net_model.specs.Written.{UnitsModel as NetText}
use Rattle.net_front.specs.Fronts.{IsCheckedOf, IsModedOf, IsNetFile, taken_of}
use Rattle.transfer_set.specs.PatternsText.{IsPatternsText}
use Rattle.route_trace.specs.Limits.{IsRouteFault, KeepsLimits}
use Rattle.route_trace.specs.declared.RouteFault.TheVariants.{PatternLarge as RouteLarge, TooMany as RoutesMany}

-- ---- N10, N12 and N13, of one netlist

-- a word without clash
pub record HasCleanWord (netlist : Netlist) : Type 0 where
  pub word : ℕ
  pub clean : IsClean netlist word

-- the offset is that of the item of the net that N12 or N13 names
pub record NamesNet (netlist : Netlist) (offset : ℕ) (Refuses : ℕ → Type 0) : Type 0 where
  pub clean : HasCleanWord netlist
  pub net : ℕ
  pub refused : Refuses net
  pub at : offset ≡ name_at netlist net

-- the netlist breaks N10; it keeps N10 and breaks N12 or N13
abbrev pub BreaksRoutes : Netlist → NetFault → Type 0
BreaksRoutes netlist AlwaysClash = ClashesAlways netlist
BreaksRoutes netlist (PatternLarge offset) = NamesNet netlist offset (λ net. IsRouteFault netlist (RouteLarge net))
BreaksRoutes netlist (TooMany offset) = NamesNet netlist offset (λ net. IsRouteFault netlist (RoutesMany net))
BreaksRoutes netlist _ = ⊥

-- the netlist keeps them
pub record IsRouted (netlist : Netlist) : Type 0 where
  pub clean : HasCleanWord netlist
  pub limits : KeepsLimits netlist

-- why nothing is extracted from a netlist; nothing is said where memory ran out
abbrev pub IsRouteRefusal : Netlist → CheckFault → Type 0
IsRouteRefusal netlist (Broken fault) = BreaksRoutes netlist fault
IsRouteRefusal netlist CheckMemory = Unit {0}

-- ---- of a netlist in its modes

-- a property of what a netlist is in a mode
abbrev pub Property : Type 1
Property = Netlist → Type 0

abbrev pub InEachMode : Property → Netlist → Type 0
InEachMode P netlist = (v : ℕ) → v < modes_in netlist → P (base_at netlist v)

-- the first mode of which the one doesn't hold, and what holds of it
pub record InFirstMode (Keeps Breaks : Property) (netlist : Netlist) : Type 0 where
  pub value : ℕ
  pub within : value < modes_in netlist
  pub before : (v : ℕ) → v < value → Keeps (base_at netlist v)
  pub breaks : Breaks (base_at netlist value)

-- the netlist breaks N10 in some mode; it keeps N10 in each, and this is the first mode in which it
-- breaks N12 or N13
abbrev pub ModesBreakRoutes : Netlist → NetFault → Type 0
ModesBreakRoutes netlist AlwaysClash = InFirstMode HasCleanWord ClashesAlways netlist
ModesBreakRoutes netlist (PatternLarge offset) =
    InEachMode HasCleanWord netlist
    × InFirstMode KeepsLimits (λ base. BreaksRoutes base (PatternLarge offset)) netlist
ModesBreakRoutes netlist (TooMany offset) =
    InEachMode HasCleanWord netlist × InFirstMode KeepsLimits (λ base. BreaksRoutes base (TooMany offset)) netlist
ModesBreakRoutes netlist _ = ⊥

-- it keeps them in each
abbrev pub AreRoutedModes : Netlist → Type 0
AreRoutedModes netlist = InEachMode IsRouted netlist

-- why nothing is extracted from what it is in its modes; nothing is said where memory ran out
abbrev pub IsModesRefusal : Netlist → CheckFault → Type 0
IsModesRefusal netlist (Broken fault) = ModesBreakRoutes netlist fault
IsModesRefusal netlist CheckMemory = Unit {0}

-- ---- texts

-- the bytes are a netlist text, and its items keep all rules: N10, N12 and N13 are asked of the netlist
-- that is taken for them, which is the view where there is a bank
pub record IsRoutedFile (bytes : List ℕ) (entries : NetText) : Type 0 where
  pub file : IsNetFile bytes entries
  pub routed : AreRoutedModes (taken_of entries)

-- the bytes are a netlist text whose items keep N1 to N9, N11 and N14, and this is what they break
-- of N10, N12 and N13
pub record BreaksRouteRule (bytes : List ℕ) (fault : NetFault) : Type 0 where
  pub entries : NetText
  pub file : IsNetFile bytes entries
  pub broken : ModesBreakRoutes (taken_of entries) fault

-- this netlist, which was checked, is that of the bytes, which are of an edition without modes and
-- without a bank
pub record IsRoutedNet (bytes : List ℕ) (checked : Ordered) : Type 0 where
  pub entries : NetText
  pub file : IsRoutedFile bytes entries
  pub alone : entries.edition < 3
  pub netlist : IsCheckedOf entries checked

-- this netlist, which was checked in its modes, is that of the bytes
pub record IsRoutedModes (bytes : List ℕ) (moded : Moded) : Type 0 where
  pub entries : NetText
  pub file : IsRoutedFile bytes entries
  pub netlist : IsModedOf entries moded

-- ---- the text of patterns

-- the text is that of the netlist's patterns
pub record IsTextOf (netlist : Netlist) (text : List ℕ) : Type 0 where
  pub patterns : List Pattern
  pub are : ArePatterns netlist patterns
  pub written : IsPatternsText netlist patterns text

-- the line of a mode
abbrev pub mode_line : ℕ → List ℕ
mode_line v = concat (codes "mode " ∷ decimal v ∷ codes "\n" ∷ [])

-- for each of the modes below a number, in their order, its line and the text of its patterns
abbrev pub AreTextsBelow : Netlist → ℕ → List ℕ → Type 0
AreTextsBelow netlist zero text = text ≡ []
AreTextsBelow netlist (suc v) text =
    (before : List ℕ) × AreTextsBelow netlist v before × (own : List ℕ) × IsTextOf (base_at netlist v) own
    × (text ≡ concat (before ∷ mode_line v ∷ own ∷ []))

-- of a netlist without a mode the text of its patterns, and else that of all modes
abbrev pub IsModesText : Option ℕ → Netlist → List ℕ → Type 0
IsModesText None netlist text = IsTextOf netlist text
IsModesText (Some mode) netlist text = AreTextsBelow netlist (modes_in netlist) text

-- the newest edition of netlist texts, each of which is extracted from
abbrev pub extracted_edition : ℕ
extracted_edition = 4

-- the bytes are a netlist text that keeps all rules, and the text is that of its patterns
pub record IsExtracted (bytes text : List ℕ) : Type 0 where
  pub entries : NetText
  pub file : IsRoutedFile bytes entries
  pub taken : entries.edition ≤ extracted_edition
  pub written : IsModesText (taken_of entries).special (taken_of entries) text
