-- What the check of a netlist in its modes rests on.
use Rattle.std.proofs.Common.{◌≡◌, ◌<◌, ◌+◌, ℕ, add-one, List, [], ◌∷◌, ◌++◌, map, MatchResult, Ok, Err, Option, None, Result, sym, subst, ap, ◌∙◌}
use Rattle.std.specs.List.{AllByRecursion}
use Rattle.std.specs.Prelude.{slice_get}
use Rattle.std.proofs.lemmas.List.{map-append}
use Rattle.rec_bits.proofs.Lists.{all_append}
use Rattle.net_model.specs.declared.hardware.Netlist.{Netlist}
use Rattle.net_model.specs.declared.fault.CheckFault.{CheckFault}
use Rattle.net_model.specs.declared.fault.NetFault.{NetFault}
use Rattle.net_model.specs.declared.fault.CheckFault.TheVariants.{Fault, Memory}
use Rattle.net_model.specs.CheckedRules.{KeepsRules, Ordered}
use Rattle.net_model.specs.ModeRules.{AcceptsModes, AreModesOfNetlist, base_at, bases_below, KeepsInOrder, KeepsModes, ModeFaultOf, Moded, modes_in, RefusesModes}
use Rattle.net_model.specs.NetFaults.{Accepts, IsFaultOrMemory, Refuses}
use Rattle.net_model.proofs.FaultLaws.{kept_no_fault}
use Rattle.net_model.proofs.ModeFaults.{alone_fault, base_in, kept_no_mode_fault, mode_fault_of, modes_alone, modes_keep, only_memory_in_modes, only_mode_fault, rules_in}

-- of a netlist without a mode
pub alone_accepted : (netlist : Netlist) (checked : Ordered) → netlist.special ≡ None → Accepts netlist checked → AreModesOfNetlist netlist (checked ∷ [])
alone_accepted netlist checked none (same, rules) =
    subst (λ (n : Netlist). AreModesOfNetlist n (checked ∷ [])) same
    (modes_alone checked (ap (λ (n : Netlist). n.special) same ∙ none) (subst (λ (n : Netlist). KeepsRules n checked.order) (sym same) rules))

pub alone_refused : (netlist : Netlist) (cause : CheckFault) → netlist.special ≡ None → Refuses netlist cause → RefusesModes netlist cause
alone_refused netlist (Fault fault) none h = alone_fault netlist none fault h
alone_refused netlist Memory none h = tt

-- of one with a mode, whose modes below a number were accepted
module _ (netlist : Netlist) (bases : List Ordered) (value : ℕ) (are : map (λ (base : Ordered). base.netlist) bases ≡ bases_below netlist value)
    (rules : AllByRecursion (λ (base : Ordered). KeepsRules base.netlist base.order) bases) where
  kept : (v : ℕ) → v < value → KeepsInOrder (base_at netlist v)
  kept v small = rules_in bases rules v (base_at netlist v) (ap (λ (list : List Netlist). slice_get list v) are ∙ base_in netlist value v small)

  -- one mode more was accepted
  pub more_are : (checked : Ordered) → Accepts (base_at netlist value) checked → map (λ (base : Ordered). base.netlist) (bases ++ checked ∷ []) ≡ bases_below netlist (value + 1)
  more_are checked (same, keeps) =
      map-append (λ (base : Ordered). base.netlist) bases (checked ∷ [])
      ∙ (λ i. are i ++ same i ∷ [])
      ∙ ap (bases_below netlist) (sym (add-one value))

  pub more_rules : (checked : Ordered) → Accepts (base_at netlist value) checked → AllByRecursion (λ (base : Ordered). KeepsRules base.netlist base.order) (bases ++ checked ∷ [])
  more_rules checked (same, keeps) =
      all_append (λ (base : Ordered). KeepsRules base.netlist base.order) bases (checked ∷ []) rules
      (subst (λ (n : Netlist). KeepsRules n checked.order) (sym same) keeps, tt)

  pub base_refused : value < modes_in netlist → (cause : CheckFault) → Refuses (base_at netlist value) cause → RefusesModes netlist cause
  base_refused within (Fault fault) h =
      mode_fault_of netlist value within fault h (λ v small other f. kept_no_fault (base_at netlist v) (kept v small).order (kept v small).rules other f)
  base_refused within Memory h = tt

-- ---- what is found says when a netlist is accepted and when it is refused

pub accepted_by : (netlist : Netlist) (found : Result Moded CheckFault) → MatchResult found (AcceptsModes netlist) (RefusesModes netlist) →
    KeepsModes netlist → MatchResult found (λ _. Unit {0}) (λ cause. cause ≡ Memory)
accepted_by netlist (Ok modes) h keeps = tt
accepted_by netlist (Err cause) h keeps = only_memory_in_modes netlist cause h keeps

pub refused_by : (netlist : Netlist) (found : Result Moded CheckFault) → MatchResult found (AcceptsModes netlist) (RefusesModes netlist) →
    (fault : NetFault) → ModeFaultOf netlist fault → MatchResult found (λ _. ⊥) (IsFaultOrMemory fault)
refused_by netlist (Ok modes) h fault f = kept_no_mode_fault netlist (modes_keep netlist modes.bases h.1) fault f
refused_by netlist (Err cause) h fault f = only_mode_fault netlist cause h fault f
