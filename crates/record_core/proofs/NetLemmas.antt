-- What is answered for the text of a netlist, of which a command takes those that break none of its
-- rules.
use Rattle.std.proofs.Common.{◌≡◌, ℕ, List, inl, inr, refl}
use Rattle.net_model.specs.Written.{UnitsModel}
use Rattle.net_model.specs.declared.fault.NetFault.{NetFault}
use Rattle.net_parser.specs.Texts.{IsNoNetText}
use Rattle.net_parser.proofs.TextFaults.{one_net_fault}
use Rattle.net_front.specs.Fronts.{SaysNet}
use Rattle.net_front.proofs.FrontLaws.{no_text_fault}
use Rattle.record_core.proofs.StageLemmas.{AllAlike, By-none, By-unique, Then-alike, Then-behind}
use Rattle.record_core.specs.Stages.{By, Then}
use Rattle.record_core.specs.declared.status.Status.{Status}
use Rattle.record_core.specs.declared.status.Status.TheVariants.{NetText, Net}

-- `Breaks` says which rule the text breaks first
module _ (line : Status → List ℕ) (net : List ℕ) (Breaks : NetFault → Type 0) (Later : Status → List ℕ → Type 0) where
  -- the stages of the netlist, and the later ones
  abbrev pub NetStages : Status → List ℕ → Type 0
  NetStages = Then line (By NetText (IsNoNetText net)) (Then line (By Net Breaks) Later)

  module _ (entries : UnitsModel) (says : SaysNet net entries) (kept : (fault : NetFault) → Breaks fault → ⊥) where
    -- a text that breaks none passes them
    pub past_rules : (status : Status) (text : List ℕ) → Later status text → NetStages status text
    past_rules status text later = inr (By-none NetText (IsNoNetText net) (λ at faulty. no_text_fault net entries at says faulty), inr (By-none Net Breaks kept, later))

    -- and what is answered for it, the later stages answer
    pub behind_rules : (status : Status) (text : List ℕ) → NetStages status text → Later status text
    behind_rules status text stages =
        Then-behind line (By Net Breaks) Later (By-none Net Breaks kept) status text
        (Then-behind line (By NetText (IsNoNetText net)) (Then line (By Net Breaks) Later)
        (By-none NetText (IsNoNetText net) (λ at faulty. no_text_fault net entries at says faulty)) status text stages)

  pub stops_at_text : (at : ℕ) → IsNoNetText net at → NetStages (NetText at) (line (NetText at))
  stops_at_text at none = inl ((at, none, refl), refl)

  pub stops_at_rule : (fault : NetFault) → ((at : ℕ) → IsNoNetText net at → ⊥) → Breaks fault → NetStages (Net fault) (line (Net fault))
  stops_at_rule fault read breaks = inr (By-none NetText (IsNoNetText net) read, inl ((fault, breaks, refl), refl))

  pub NetStages-alike : ((fault other : NetFault) → Breaks fault → Breaks other → fault ≡ other) →
      (Alike : Status → Status → Type 0) → ((s t : Status) → s ≡ t → Alike s t) → AllAlike Alike Later → AllAlike Alike NetStages
  NetStages-alike one Alike equal later =
      Then-alike Alike line _ _ (λ s t p q. equal s t (By-unique NetText _ (one_net_fault net) s t p q))
      (Then-alike Alike line _ _ (λ s t p q. equal s t (By-unique Net _ one s t p q)) later)
