-- The answers on a netlist's bytes exclude each other.
use Rattle.std.proofs.Common.{◌≡◌, ◌==◌, ℕ, ◌<◌, ◌^◌, Bool, true, false, if◌then◌else◌, List, length, None, Result, Ok, Err, MatchResult, inl, inr, refl, ap, ◌∙◌, sym, subst, eqb-true, arith}
use Rattle.std.proofs.lemmas.List.{length-map}
use Rattle.net_model.specs.declared.fault.CheckFault.{CheckFault}
use Rattle.net_model.specs.declared.fault.CheckFault.TheVariants.{Fault as Broken, Memory as CheckMemory}
use Rattle.net_model.specs.declared.fault.NetFault.{NetFault}
use Rattle.net_model.specs.declared.units.Units.{Units}
use Rattle.net_model.specs.declared.hardware.Netlist.{Netlist}
use Rattle.net_model.specs.CheckedRules.{IsWellFormed, KeepsRules, Ordered}
use Rattle.net_model.specs.Editions.{is_banked, is_moded}
use Rattle.net_model.specs.Elaborated.{files_from, lone_bank, lone_mode, modes_from, netlist_of, special_in}
use Rattle.net_model.specs.ModeRules.{AcceptsModes, AreModesOfNetlist, KeepsInOrder, KeepsModes, ModeFaultOf, Moded, RefusesModes}
use Rattle.net_model.specs.NetFaults.{Accepts, FaultOf, Refuses}
use Rattle.net_model.specs.Written.{UnitsModel as NetText, model_of_unit, model_of_units}
use Rattle.net_model.proofs.ByEdition.{no_special}
use Rattle.net_model.proofs.FaultLaws.{kept_no_fault, one_fault}
use Rattle.net_model.proofs.ModeFaults.{alone_base, alone_fault, alone_modes, kept_no_mode_fault, modes_keep, one_mode_fault}
use Rattle.bank_view.specs.Keeping.{HasBanks}
use Rattle.bank_view.specs.Views.{view_of}
use Rattle.bank_view.proofs.Ruled.{view_kept}
use Rattle.net_parser.specs.Texts.{IsNoNetText}
use Rattle.net_parser.proofs.TextFaults.{no_fault_of_net_text, short_text}
use Rattle.net_front.specs.declared.front.NetRefusal.{NetRefusal}
use Rattle.net_front.specs.declared.front.NetRefusal.TheVariants.{Text, Fault, Memory}
use Rattle.net_front.specs.Fronts.{BreaksIf, IsTakenAs, IsViewOf, KeepsIf, RefusesIf, taken_of, SaysNet, KeepsAll, IsNetFile, BreaksFirst, BreaksRule, check_refusal, IsElaboratedOf, IsModedOf, IsCheckedOf, IsItemsRefusal, IsRuleRefusal, IsNetRefusal}

pub no_text_fault : (bytes : List ℕ) (entries : NetText) (offset : ℕ) → SaysNet bytes entries → IsNoNetText bytes offset → ⊥
no_text_fault bytes entries offset says faulty = no_fault_of_net_text bytes entries offset says.text faulty

pub kept_breaks_none : (entries : NetText) (fault : NetFault) → KeepsAll entries → BreaksFirst entries fault → ⊥
kept_breaks_none entries fault keeps (inl e) = let k = keeps.kept in absurd cc
kept_breaks_none entries fault keeps (inr (e, broken)) = by (is_banked entries.edition) keeps.rest broken
  where
    by : (b : Bool) → KeepsIf b (netlist_of entries) → BreaksIf b (netlist_of entries) fault → ⊥
    by true keep broken = kept_no_fault (netlist_of entries) keep.order keep.rules fault broken
    by false keep broken = kept_no_mode_fault (netlist_of entries) keep fault broken

pub one_breaks : (entries : NetText) (fault later : NetFault) → BreaksFirst entries fault → BreaksFirst entries later → fault ≡ later
one_breaks entries fault later (inl e) (inl f) = cc
one_breaks entries fault later (inl e) (inr (f, broken)) = absurd cc
one_breaks entries fault later (inr (e, broken)) (inl f) = absurd cc
one_breaks entries fault later (inr (e, broken)) (inr (f, second)) = by (is_banked entries.edition) broken second
  where
    by : (b : Bool) → BreaksIf b (netlist_of entries) fault → BreaksIf b (netlist_of entries) later → fault ≡ later
    by true broken second = one_fault (netlist_of entries) fault later broken second
    by false broken second = one_mode_fault (netlist_of entries) fault later broken second

pub no_broken_rule : (bytes : List ℕ) (entries : NetText) (fault : NetFault) → IsNetFile bytes entries → BreaksRule bytes fault → ⊥
no_broken_rule bytes entries fault file breaks =
    kept_breaks_none entries fault file.keeps (subst (λ e. BreaksFirst e fault) (sym (file.says.only breaks.entries breaks.says.text)) breaks.broken)

pub one_broken_rule : (bytes : List ℕ) (fault later : NetFault) → BreaksRule bytes fault → BreaksRule bytes later → fault ≡ later
one_broken_rule bytes fault later a b =
    one_breaks a.entries fault later a.broken (subst (λ e. BreaksFirst e later) (sym (a.says.only b.entries b.says.text)) b.broken)

-- ---- what is read

-- a text has no more items than bytes
pub few_items : (bytes : List ℕ) (units : Units) → SaysNet bytes (model_of_units units) → length bytes < 2 ^ 32 → length units.items < 2 ^ 32
few_items bytes units says short =
    let few = short_text bytes (model_of_units units) says.text in
    let same = length-map units.items model_of_unit in
    omega arith

pub file_of : (bytes : List ℕ) (entries : NetText) (moded : Moded) → SaysNet bytes entries → IsModedOf entries moded → IsNetFile bytes entries
file_of bytes entries moded says is = record {
  says = says;
  keeps = record { kept = is.kept; rest = is.rest };
}

pub refusal_of : (bytes : List ℕ) (entries : NetText) (refusal : NetRefusal) → SaysNet bytes entries → IsRuleRefusal entries refusal → IsNetRefusal bytes refusal
refusal_of bytes entries (Text at) says is = absurd is
refusal_of bytes entries (Fault fault) says is = record { entries = entries; says = says; broken = is }
refusal_of bytes entries Memory says is = tt

pub refusal_of_items : (bytes : List ℕ) (refusal : NetRefusal) → IsItemsRefusal bytes refusal → IsNetRefusal bytes refusal
refusal_of_items bytes (Text at) is = is
refusal_of_items bytes (Fault fault) is = absurd is
refusal_of_items bytes Memory is = tt

-- ---- what is taken for a text

plain_by : (entries : NetText) (b : Bool) → b ≡ false → (if b then view_of (netlist_of entries) else netlist_of entries) ≡ netlist_of entries
plain_by entries true plain = absurd cc
plain_by entries false plain = refl

banked_by : (entries : NetText) (b : Bool) → b ≡ true → (if b then view_of (netlist_of entries) else netlist_of entries) ≡ view_of (netlist_of entries)
banked_by entries true banked = refl
banked_by entries false banked = absurd cc

-- its netlist, where it has no bank
pub taken_plain : (entries : NetText) → is_banked entries.edition ≡ false → taken_of entries ≡ netlist_of entries
unfolding taken_of
taken_plain entries plain = plain_by entries (is_banked entries.edition) plain

-- and the view of it, where it has one
pub taken_banked : (entries : NetText) → is_banked entries.edition ≡ true → taken_of entries ≡ view_of (netlist_of entries)
unfolding taken_of
taken_banked entries banked = banked_by entries (is_banked entries.edition) banked

view_keeps : (netlist : Netlist) (order : List ℕ) → is_banked netlist.edition ≡ true → KeepsRules netlist order → KeepsModes (view_of netlist)
view_keeps netlist order banked rules =
    let kept : KeepsInOrder (view_of netlist) = view_kept netlist order (record { banked = banked; rules = rules }) in
    record { special = tt; each = λ v small. kept }

-- it keeps the rules in its modes
pub taken_keeps : (entries : NetText) → KeepsAll entries → KeepsModes (taken_of entries)
taken_keeps entries keeps = by (is_banked entries.edition) refl keeps.rest
  where
    by : (b : Bool) → is_banked entries.edition ≡ b → KeepsIf b (netlist_of entries) → KeepsModes (taken_of entries)
    by true banked keep = subst KeepsModes (sym (taken_banked entries banked)) (view_keeps (netlist_of entries) keep.order banked keep.rules)
    by false plain keep = subst KeepsModes (sym (taken_plain entries plain)) keep

-- ---- texts of editions without modes

-- such a text has no bank
pub no_bank : (entries : NetText) → entries.edition < 3 → is_banked entries.edition ≡ false
no_bank entries early = by (is_banked entries.edition) refl
  where
    by : (b : Bool) → (entries.edition == 4) ≡ b → b ≡ false
    by true e = absurd (let f = eqb-true entries.edition 4 e in omega (arith, early, f))
    by false e = refl

-- and its netlist no mode
no_mode : (entries : NetText) → entries.edition < 3 → special_in entries.edition entries.items ≡ None
no_mode entries early = by (is_moded entries.edition) refl
  where
    by : (b : Bool) → (entries.edition == 3) ≡ b
        → (if b then lone_mode (modes_from 0 entries.items) else if is_banked entries.edition then lone_bank (files_from 0 entries.items) else None) ≡ None
    by true e = absurd (let f = eqb-true entries.edition 3 e in omega (arith, early, f))
    by false e = subst (λ (b : Bool). (if b then lone_bank (files_from 0 entries.items) else None) ≡ None) (sym (no_bank entries early)) refl

-- so nothing is special in what is taken for it
pub taken_alone : (entries : NetText) → entries.edition < 3 → (taken_of entries).special ≡ None
taken_alone entries early = ap (λ (n : Netlist). n.special) (taken_plain entries (no_bank entries early)) ∙ no_mode entries early

module _ (netlist : Netlist) where
  alone_rules : netlist.special ≡ None → KeepsModes netlist → KeepsInOrder netlist
  alone_rules none keeps = subst KeepsInOrder (alone_base netlist none 0) (keeps.each 0 (omega (arith, alone_modes netlist none)))

-- which keeps the rules as it stands
pub rules_alone : (entries : NetText) → entries.edition < 3 → KeepsAll entries → KeepsInOrder (taken_of entries)
rules_alone entries early keeps = alone_rules (taken_of entries) (taken_alone entries early) (taken_keeps entries keeps)

-- what was checked of such items
pub checked_of : (entries : NetText) (netlist : Netlist) (checked : Ordered) → entries.edition < 3 → IsElaboratedOf entries netlist → Accepts netlist checked → IsCheckedOf entries checked
checked_of entries netlist checked early of (same, rules) = record {
  kept = of.kept;
  netlist = same ∙ of.exact ∙ sym (taken_plain entries (no_bank entries early));
  rules = subst (λ (n : Netlist). KeepsRules n checked.order) (sym same) rules;
}

pub keeps_alone : (entries : NetText) (checked : Ordered) → entries.edition < 3 → IsCheckedOf entries checked → KeepsAll entries
keeps_alone entries checked early is =
    let netlist = netlist_of entries in
    let none = no_mode entries early in
    let plain = no_bank entries early in
    let rules : KeepsRules netlist checked.order = subst (λ (n : Netlist). KeepsRules n checked.order) (is.netlist ∙ taken_plain entries plain) is.rules in
    record {
      kept = is.kept;
      rest = subst (λ (b : Bool). KeepsIf b (netlist_of entries)) (sym plain) (record {
        special = no_special netlist netlist.special none;
        each = λ v small. subst KeepsInOrder (sym (alone_base netlist none v)) (record { order = checked.order; rules = rules });
      });
    }

-- and a fault of it as it stands is the first that it has
pub refusal_alone : (entries : NetText) → entries.edition < 3 → (fault : NetFault) → FaultOf (netlist_of entries) fault → ModeFaultOf (netlist_of entries) fault
refusal_alone entries early = alone_fault (netlist_of entries) (no_mode entries early)

-- why such items are refused by what is asked of their netlist
pub rule_refusal : (entries : NetText) → entries.edition < 3 → (netlist : Netlist) → IsElaboratedOf entries netlist → (cause : CheckFault) → Refuses netlist cause → IsRuleRefusal entries (check_refusal cause)
rule_refusal entries early netlist of (Broken fault) h = inr (of.kept, subst (λ (b : Bool). BreaksIf b (netlist_of entries) fault) (sym (no_bank entries early)) (refusal_alone entries early fault (subst (λ (n : Netlist). FaultOf n fault) of.exact h)))
rule_refusal entries early netlist of CheckMemory h = tt

-- ---- what a netlist of items is taken as

edition_same : (entries : NetText) (netlist : Netlist) → IsElaboratedOf entries netlist → is_banked entries.edition ≡ is_banked netlist.edition
edition_same entries netlist of = sym (ap (λ (n : Netlist). is_banked n.edition) of.exact)

-- checked in its modes, where it has no bank
moded_of : (entries : NetText) (netlist : Netlist) (moded : Moded) → is_banked entries.edition ≡ false → IsElaboratedOf entries netlist → AcceptsModes netlist moded → IsModedOf entries moded
moded_of entries netlist moded plain of (same, rules) = record {
  kept = of.kept;
  rest = subst (λ (b : Bool). KeepsIf b (netlist_of entries)) (sym plain) (subst KeepsModes of.exact (modes_keep netlist moded.bases rules));
  netlist = same ∙ of.exact ∙ sym (taken_plain entries plain);
  rules = subst (λ (n : Netlist). AreModesOfNetlist n moded.bases) (sym same) rules;
}

moded_refusal : (entries : NetText) (netlist : Netlist) (cause : CheckFault) → is_banked entries.edition ≡ false → IsElaboratedOf entries netlist → RefusesModes netlist cause → IsRuleRefusal entries (check_refusal cause)
moded_refusal entries netlist (Broken fault) plain of h =
    inr (of.kept, subst (λ (b : Bool). BreaksIf b (netlist_of entries) fault) (sym plain) (subst (λ (n : Netlist). ModeFaultOf n fault) of.exact h))
moded_refusal entries netlist CheckMemory plain of h = tt

-- by its view, where it has one
viewed_of : (entries : NetText) (netlist : Netlist) (moded : Moded) → is_banked entries.edition ≡ true → IsElaboratedOf entries netlist → IsViewOf netlist moded → IsModedOf entries moded
viewed_of entries netlist moded banked of is = record {
  kept = of.kept;
  rest = subst (λ (b : Bool). KeepsIf b (netlist_of entries)) (sym banked) (subst KeepsInOrder of.exact is.rest);
  netlist = is.view ∙ ap view_of of.exact ∙ sym (taken_banked entries banked);
  rules = is.rules;
}

viewed_refusal : (entries : NetText) (netlist : Netlist) (cause : CheckFault) → is_banked entries.edition ≡ true → IsElaboratedOf entries netlist → Refuses netlist cause → IsRuleRefusal entries (check_refusal cause)
viewed_refusal entries netlist (Broken fault) banked of h =
    inr (of.kept, subst (λ (b : Bool). BreaksIf b (netlist_of entries) fault) (sym banked) (subst (λ (n : Netlist). FaultOf n fault) of.exact h))
viewed_refusal entries netlist CheckMemory banked of h = tt

-- by what it is taken as
pub seen_of : (entries : NetText) (netlist : Netlist) (moded : Moded) → IsElaboratedOf entries netlist → IsTakenAs (is_banked netlist.edition) netlist moded → IsModedOf entries moded
seen_of entries netlist moded of is = by (is_banked netlist.edition) (edition_same entries netlist of) is
  where
    by : (b : Bool) → is_banked entries.edition ≡ b → IsTakenAs b netlist moded → IsModedOf entries moded
    by true banked is = viewed_of entries netlist moded banked of is
    by false plain is = moded_of entries netlist moded plain of is

pub seen_refusal : (entries : NetText) (netlist : Netlist) (cause : CheckFault) → IsElaboratedOf entries netlist → RefusesIf (is_banked netlist.edition) netlist cause → IsRuleRefusal entries (check_refusal cause)
seen_refusal entries netlist cause of is = by (is_banked netlist.edition) (edition_same entries netlist of) is
  where
    by : (b : Bool) → is_banked entries.edition ≡ b → RefusesIf b netlist cause → IsRuleRefusal entries (check_refusal cause)
    by true banked is = viewed_refusal entries netlist cause banked of is
    by false plain is = moded_refusal entries netlist cause plain of is

-- the view of a netlist that keeps the rules keeps them too, so it is refused for want of memory alone
module _ (netlist : Netlist) (checked : Ordered) (banked : is_banked netlist.edition ≡ true) (accepted : Accepts netlist checked) where
  kept_rules : KeepsRules netlist checked.order
  kept_rules = accepted.1

  pub has_banks : HasBanks checked.netlist
  has_banks = subst HasBanks (sym accepted.0) (record { banked = banked; formed = kept_rules.formed; roles = kept_rules.roles })

  module _ (view : Netlist) (same : view ≡ view_of checked.netlist) where
    view_is : view ≡ view_of netlist
    view_is = same ∙ ap view_of accepted.0

    pub formed_view : IsWellFormed view
    formed_view =
        let kept : KeepsInOrder (view_of netlist) = view_kept netlist checked.order (record { banked = banked; rules = kept_rules }) in
        subst IsWellFormed (sym view_is) kept.rules.formed

    pub plain_view : is_banked view.edition ≡ false
    plain_view = ap (λ (n : Netlist). is_banked n.edition) view_is

    pub viewed_by : (found : Result Moded CheckFault) → MatchResult found (AcceptsModes view) (RefusesModes view) →
        (KeepsModes view → MatchResult found (λ _. Unit {0}) (λ cause. cause ≡ CheckMemory)) → MatchResult found (IsViewOf netlist) (Refuses netlist)
    viewed_by (Ok moded) (is, rules) only = record {
      rest = record { order = checked.order; rules = kept_rules };
      view = is ∙ view_is;
      rules = subst (λ (n : Netlist). AreModesOfNetlist n moded.bases) (sym is) rules;
    }
    viewed_by (Err cause) refused only = subst (Refuses netlist) (sym (only (subst KeepsModes (sym view_is) (view_keeps netlist checked.order banked kept_rules)))) tt
