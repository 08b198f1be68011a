-- The answers on a netlist's bytes exclude each other, where not all editions are taken.
use Rattle.std.proofs.Common.{◌≡◌, ◌≤◌, ℕ, List, IsTrue, IfErr, IfOk, Bool, true, false, if◌then◌else◌, true≢false, inl, inr, refl, ap, sym, subst, ◌∙◌, arith}
use Rattle.std.specs.declared.result.Result.{Result}
use Rattle.std.specs.declared.result.Result.TheVariants.{Ok, Err}
use Rattle.net_model.specs.declared.fault.NetFault.{NetFault}
use Rattle.net_model.specs.declared.fault.NetFault.TheVariants.{Role as LacksRole}
use Rattle.net_model.specs.declared.fault.Role.{Role}
use Rattle.net_model.specs.Editions.{is_banked}
use Rattle.net_model.specs.ModeRules.{Moded}
use Rattle.net_model.specs.Written.{UnitsModel as NetText}
use Rattle.net_parser.specs.Texts.{IsNoNetText}
use Rattle.net_front.specs.declared.front.NetRefusal.{NetRefusal}
use Rattle.net_front.specs.declared.front.NetRefusal.TheVariants.{Text, Fault, Memory}
use Rattle.net_front.specs.Fronts.{SaysNet, IsNetFile, IsModedOf, IsItemsRefusal, IsRuleRefusal, BreaksFirst, IsNetRefusal}
use Rattle.net_front.specs.Taken.{BreaksFor, HasNoBank, IsLater, IsNewer, IsRefusalFor, IsUntaken, KeepsRoles, is_behind_roles, newer_of}
use Rattle.net_front.proofs.FrontLaws.{file_of, kept_breaks_none, no_broken_rule, no_text_fault, one_breaks, one_broken_rule}

-- ---- of a command that doesn't take some editions, and tells a part of them

-- a text of an edition that is taken is of no other
pub not_untaken : (Untaken : ℕ → Type 0) (bytes : List ℕ) (entries : NetText) → SaysNet bytes entries → (Untaken entries.edition → ⊥) → IsUntaken Untaken bytes → ⊥
not_untaken Untaken bytes entries says taken is = taken (subst Untaken (ap (λ (t : NetText). t.edition) (is.says.only entries says.text)) is.untaken)

module _ (Untaken : ℕ → Type 0) (role : ℕ → Role) (bytes : List ℕ) where
  pub no_text_fault_for : (fault : NetFault) (offset : ℕ) → BreaksFor Untaken role bytes fault → IsNoNetText bytes offset → ⊥
  no_text_fault_for fault offset (inl (breaks, taken)) faulty = no_text_fault bytes breaks.entries offset breaks.says faulty
  no_text_fault_for fault offset (inr (is, same)) faulty = no_text_fault bytes is.entries offset is.says faulty

  pub no_broken_for : (entries : NetText) (fault : NetFault) → IsNetFile bytes entries → (Untaken entries.edition → ⊥) → BreaksFor Untaken role bytes fault → ⊥
  no_broken_for entries fault file taken (inl (breaks, also)) = no_broken_rule bytes entries fault file breaks
  no_broken_for entries fault file taken (inr (is, same)) = not_untaken Untaken bytes entries file.says taken is

  pub one_broken_for : (fault later : NetFault) → BreaksFor Untaken role bytes fault → BreaksFor Untaken role bytes later → fault ≡ later
  one_broken_for fault later (inl (a, taken)) (inl (b, also)) = one_broken_rule bytes fault later a b
  one_broken_for fault later (inl (a, taken)) (inr (is, same)) = absurd (taken is)
  one_broken_for fault later (inr (is, same)) (inl (b, taken)) = absurd (taken is)
  one_broken_for fault later (inr (is, same)) (inr (other, also)) =
      same ∙ ap (λ (e : NetText). LacksRole (role e.edition)) (is.says.only other.entries other.says.text) ∙ sym also

  -- ---- what is read

  -- why bytes say no items, whatever is taken
  pub refusal_of_none : (refusal : NetRefusal) → IsItemsRefusal bytes refusal → IsRefusalFor Untaken role bytes refusal
  refusal_of_none (Text at) is = is
  refusal_of_none (Fault fault) is = absurd is
  refusal_of_none Memory is = tt

  -- why a text of a taken edition is refused
  pub taken_refusal : (entries : NetText) → SaysNet bytes entries → (Untaken entries.edition → ⊥) → (refusal : NetRefusal) → IsNetRefusal bytes refusal →
      IsRefusalFor Untaken role bytes refusal
  taken_refusal entries says taken (Text at) is = is
  taken_refusal entries says taken (Fault fault) is = inl (is, not_untaken Untaken bytes entries says taken)
  taken_refusal entries says taken Memory is = tt

  -- ---- why a text of another edition is refused

  module _ (entries : NetText) (says : SaysNet bytes entries) (untaken : Untaken entries.edition) where
    abbrev own_role : Role
    own_role = role entries.edition

    is_untaken : KeepsRoles entries → IsRefusalFor Untaken role bytes (Fault (LacksRole own_role))
    is_untaken keeps = inr (record { entries = entries; says = says; untaken = untaken; keeps = keeps }, refl)

    -- items that keep all rules keep those up to N6
    of_kept : (modes : Moded) → IsModedOf entries modes → KeepsRoles entries
    of_kept modes are fault broken = absurd (kept_breaks_none entries fault (file_of bytes entries modes says are).keeps broken)

    -- and so do those of which the first broken rule is a later one
    of_later : (fault : NetFault) → BreaksFirst entries fault → IsTrue (is_behind_roles fault) → KeepsRoles entries
    of_later fault broken later other also = subst (λ (f : NetFault). IsTrue (is_behind_roles f)) (one_breaks entries fault other broken also) later

    of_earlier : (fault : NetFault) → BreaksFirst entries fault → is_behind_roles fault ≡ false → BreaksFor Untaken role bytes fault
    of_earlier fault broken early = inl (
      record { entries = entries; says = says; broken = broken },
      λ is. true≢false (sym (is.keeps fault (subst (λ (e : NetText). BreaksFirst e fault) (sym (is.says.only entries says.text)) broken)) ∙ early),
    )

    of_fault : (fault : NetFault) → BreaksFirst entries fault → (b : Bool) → is_behind_roles fault ≡ b →
        IsRefusalFor Untaken role bytes (if b then Fault (LacksRole own_role) else Fault fault)
    of_fault fault broken true later = is_untaken (of_later fault broken later)
    of_fault fault broken false early = of_earlier fault broken early

    of_refusal : (refusal : NetRefusal) → IsRuleRefusal entries refusal → IsRefusalFor Untaken role bytes (newer_of own_role refusal)
    of_refusal (Text at) is = absurd is
    of_refusal (Fault fault) is = of_fault fault is (is_behind_roles fault) refl
    of_refusal Memory is = tt

    pub untaken_refusal : (modes : Result Moded NetRefusal) (told : NetRefusal) → IfOk modes (IsModedOf entries) → IfErr modes (IsRuleRefusal entries) →
        IfOk modes (λ _. told ≡ Fault (LacksRole own_role)) → IfErr modes (λ refusal. told ≡ newer_of own_role refusal) → IsRefusalFor Untaken role bytes told
    untaken_refusal (Ok c) told is none same other = rw same (is_untaken (of_kept c is))
    untaken_refusal (Err refusal) told none is other same = rw same (of_refusal refusal is)

-- ---- of one that takes editions up to a newest

pub not_later : (newest edition : ℕ) → edition ≤ newest → IsLater newest edition → ⊥
not_later newest edition taken later = omega arith

pub not_newer : (newest : ℕ) (bytes : List ℕ) (entries : NetText) → SaysNet bytes entries → entries.edition ≤ newest → IsNewer newest bytes → ⊥
not_newer newest bytes entries says taken = not_untaken (IsLater newest) bytes entries says (not_later newest entries.edition taken)

-- ---- of one that takes texts with a bank alone

pub has_bank : (edition : ℕ) → is_banked edition ≡ true → HasNoBank edition → ⊥
has_bank edition banked none = true≢false (sym banked ∙ none)
