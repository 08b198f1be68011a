-- The answers on a netlist's bytes exclude each other, where not all editions are taken.
use Rattle.std.proofs.Common.{◌≡◌, ◌≤◌, ◌<◌, ℕ, List, inl, inr, subst, arith, None, ap, ◌∙◌}
use Rattle.net_model.specs.declared.fault.CheckFault.{CheckFault}
use Rattle.net_model.specs.declared.fault.CheckFault.TheVariants.{Fault as Broken, Memory as CheckMemory}
use Rattle.net_model.specs.declared.fault.NetFault.{NetFault}
use Rattle.net_model.specs.declared.fault.Role.{Role}
use Rattle.net_model.specs.declared.hardware.Netlist.{Netlist}
use Rattle.net_model.specs.ModeRules.{Moded}
use Rattle.net_model.specs.Written.{UnitsModel as NetText}
use Rattle.net_parser.specs.Texts.{IsNoNetText}
use Rattle.net_model.specs.CheckedRules.{Ordered}
use Rattle.net_front.specs.Fronts.{IsCheckedOf, IsNetFile, check_refusal, taken_of}
use Rattle.net_front.specs.Taken.{IsLater, IsRefusalFor, added_role}
use Rattle.net_front.specs.declared.front.NetRefusal.{NetRefusal}
use Rattle.net_front.specs.declared.front.NetRefusal.TheVariants.{Text, Fault, Memory}
use Rattle.net_front.proofs.FrontLaws.{no_broken_rule, no_text_fault, taken_alone}
use Rattle.net_front.proofs.TakenLaws.{no_broken_for, no_text_fault_for, not_later, not_untaken, one_broken_for}
use Rattle.isa_extract.specs.Extracts.{BreaksRoutes, IsModesRefusal, IsRouted, IsRoutedFile, IsRouteRefusal}
use Rattle.isa_extract.specs.Taken.{BreaksAnyFor, BreaksAnyTaken, IsRoutedRefusalFor, IsRoutedTaken, IsTakenModes, IsTakenNet}
use Rattle.isa_extract.proofs.RoutedLaws.{breaks_alone, no_broken_route, one_broken_route, routed_alone}

-- a netlist that is taken has no mode
pub taken_plain : (newest : ℕ) (bytes : List ℕ) (checked : Ordered) → IsTakenNet newest bytes checked → checked.netlist.special ≡ None
taken_plain newest bytes checked is = ap (λ (n : Netlist). n.special) is.routed.netlist.netlist ∙ taken_alone is.routed.entries is.routed.alone

-- the bytes of which a netlist was taken in its modes
pub file_of_modes : (newest : ℕ) (bytes : List ℕ) (moded : Moded) (is : IsTakenModes newest bytes moded) → IsRoutedTaken newest bytes is.routed.entries
file_of_modes newest bytes moded is = record { file = is.routed.file; taken = is.taken }

-- ---- the answers exclude each other

module _ (Untaken : ℕ → Type 0) (role : ℕ → Role) (bytes : List ℕ) where
  pub no_text_fault_of_any : (fault : NetFault) (offset : ℕ) → BreaksAnyFor Untaken role bytes fault → IsNoNetText bytes offset → ⊥
  no_text_fault_of_any fault offset (inl breaks) faulty = no_text_fault_for Untaken role bytes fault offset breaks faulty
  no_text_fault_of_any fault offset (inr (breaks, taken)) faulty = no_text_fault bytes breaks.entries offset breaks.file.says faulty

  pub no_broken_of_any : (entries : NetText) (fault : NetFault) → IsRoutedFile bytes entries → (Untaken entries.edition → ⊥) → BreaksAnyFor Untaken role bytes fault → ⊥
  no_broken_of_any entries fault file taken (inl breaks) = no_broken_for Untaken role bytes entries fault file.file taken breaks
  no_broken_of_any entries fault file taken (inr (breaks, also)) = no_broken_route bytes entries fault file breaks

  pub one_broken_of_any : (fault later : NetFault) → BreaksAnyFor Untaken role bytes fault → BreaksAnyFor Untaken role bytes later → fault ≡ later
  one_broken_of_any fault later (inl a) (inl b) = one_broken_for Untaken role bytes fault later a b
  one_broken_of_any fault later (inl (inl (a, taken))) (inr (b, also)) = absurd (no_broken_rule bytes b.entries fault b.file a)
  one_broken_of_any fault later (inl (inr (is, same))) (inr (b, taken)) = absurd (taken is)
  one_broken_of_any fault later (inr (a, taken)) (inl (inl (b, also))) = absurd (no_broken_rule bytes a.entries later a.file b)
  one_broken_of_any fault later (inr (a, taken)) (inl (inr (is, same))) = absurd (taken is)
  one_broken_of_any fault later (inr (a, taken)) (inr (b, also)) = one_broken_route bytes fault later a b

  -- ---- why nothing is read

  pub of_front : (refusal : NetRefusal) → IsRefusalFor Untaken role bytes refusal → IsRoutedRefusalFor Untaken role bytes refusal
  of_front (Text at) is = is
  of_front (Fault fault) is = inl is
  of_front Memory is = tt

  pub of_routes : (entries : NetText) → IsNetFile bytes entries → (Untaken entries.edition → ⊥) → (cause : CheckFault) → IsModesRefusal (taken_of entries) cause →
      IsRoutedRefusalFor Untaken role bytes (check_refusal cause)
  of_routes entries file taken (Broken fault) is =
      inr (record { entries = entries; file = file; broken = is }, not_untaken Untaken bytes entries file.says taken)
  of_routes entries file taken CheckMemory is = tt

pub no_text_fault_where_taken : (newest : ℕ) (bytes : List ℕ) (fault : NetFault) (offset : ℕ) → BreaksAnyTaken newest bytes fault → IsNoNetText bytes offset → ⊥
no_text_fault_where_taken newest = no_text_fault_of_any (IsLater newest) added_role

pub no_broken_any_taken : (newest : ℕ) (bytes : List ℕ) (entries : NetText) (fault : NetFault) → IsRoutedFile bytes entries → entries.edition ≤ newest → BreaksAnyTaken newest bytes fault → ⊥
no_broken_any_taken newest bytes entries fault file taken = no_broken_of_any (IsLater newest) added_role bytes entries fault file (not_later newest entries.edition taken)

pub one_broken_any_taken : (newest : ℕ) (bytes : List ℕ) (fault later : NetFault) → BreaksAnyTaken newest bytes fault → BreaksAnyTaken newest bytes later → fault ≡ later
one_broken_any_taken newest = one_broken_of_any (IsLater newest) added_role

-- ---- what was checked of a text of an edition without modes that is taken

module _ (newest : ℕ) (bytes : List ℕ) (entries : NetText) (file : IsNetFile bytes entries) (taken : entries.edition ≤ newest) (alone : newest < 3)
    (checked : Ordered) (of : IsCheckedOf entries checked) where
  early : entries.edition < 3
  early = omega arith

  none : (taken_of entries).special ≡ None
  none = taken_alone entries early

  -- it is taken, where it keeps all rules
  pub taken_net : IsRouted checked.netlist → IsTakenNet newest bytes checked
  taken_net routed = record {
    routed = record {
      entries = entries;
      file = record { file = file; routed = routed_alone (taken_of entries) none (subst IsRouted of.netlist routed) };
      alone = early;
      netlist = of;
    };
    taken = taken;
  }

  modes_refused : (cause : CheckFault) → IsRouteRefusal checked.netlist cause → IsModesRefusal (taken_of entries) cause
  modes_refused (Broken fault) is = breaks_alone (taken_of entries) none fault (subst (λ (n : Netlist). BreaksRoutes n fault) of.netlist is)
  modes_refused CheckMemory is = tt

  pub of_checked_routes : (cause : CheckFault) → IsRouteRefusal checked.netlist cause → IsRoutedRefusalFor (IsLater newest) added_role bytes (check_refusal cause)
  of_checked_routes cause is = of_routes (IsLater newest) added_role bytes entries file (not_later newest entries.edition taken) cause (modes_refused cause is)
