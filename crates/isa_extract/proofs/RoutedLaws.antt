-- The answers on a netlist's bytes exclude each other, N10, N12 and N13 among them.
use Rattle.std.proofs.Common.{◌≡◌, ℕ, List, None, inl, inr, refl, ap, sym, subst, ◌∙◌, arith}
use Rattle.std.proofs.lemmas.Bool.{cases_lt}
use Rattle.net_model.specs.declared.fault.NetFault.{NetFault}
use Rattle.net_model.specs.declared.fault.NetFault.TheVariants.{AlwaysClash, PatternLarge, TooMany}
use Rattle.net_model.specs.declared.hardware.Netlist.{Netlist}
use Rattle.net_model.specs.ModeRules.{base_at}
use Rattle.net_model.specs.NetFaults.{name_at}
use Rattle.net_model.specs.Transfers.{ClashesAlways}
use Rattle.net_model.proofs.ModeFaults.{alone_base, some_modes}
use Rattle.net_model.specs.Written.{UnitsModel as NetText}
use Rattle.net_front.specs.Fronts.{taken_of}
use Rattle.route_trace.specs.Limits.{HasMany, IsNamed, KeepsLimits}
use Rattle.isa_extract.specs.Extracts.{AreRoutedModes, BreaksRouteRule, BreaksRoutes, HasCleanWord, InEachMode, InFirstMode, IsRouted, IsRoutedFile, ModesBreakRoutes, Property}

-- ---- of one netlist

kept_names_none : (netlist : Netlist) (n : ℕ) → KeepsLimits netlist → IsNamed netlist n → ⊥
kept_names_none netlist n kept named = kept n named.first.net named.first.broken

kept_breaks_none : (netlist : Netlist) (fault : NetFault) → IsRouted netlist → BreaksRoutes netlist fault → ⊥
kept_breaks_none netlist AlwaysClash routed broken = broken routed.clean.word routed.clean.clean
kept_breaks_none netlist (PatternLarge at) routed broken = kept_names_none netlist broken.net routed.limits broken.refused.0
kept_breaks_none netlist (TooMany at) routed broken = kept_names_none netlist broken.net routed.limits broken.refused.0
kept_breaks_none netlist _ routed broken = absurd broken

-- at most one net is named
one_named : (netlist : Netlist) (n m : ℕ) → IsNamed netlist n → IsNamed netlist m → n ≡ m
one_named netlist n m a b =
    let below = a.least m b.first in
    let above = b.least n a.first in
    omega arith

one_offset : (netlist : Netlist) (at other n m : ℕ) → IsNamed netlist n → IsNamed netlist m → at ≡ name_at netlist n → other ≡ name_at netlist m → at ≡ other
one_offset netlist at other n m a b p q = p ∙ (ap (name_at netlist) (one_named netlist n m a b) ∙ sym q)

one_breaks : (netlist : Netlist) (fault later : NetFault) → BreaksRoutes netlist fault → BreaksRoutes netlist later → fault ≡ later
one_breaks netlist AlwaysClash AlwaysClash p q = refl
one_breaks netlist AlwaysClash (PatternLarge other) p q = absurd (p q.clean.word q.clean.clean)
one_breaks netlist AlwaysClash (TooMany other) p q = absurd (p q.clean.word q.clean.clean)
one_breaks netlist (PatternLarge at) AlwaysClash p q = absurd (q p.clean.word p.clean.clean)
one_breaks netlist (PatternLarge at) (PatternLarge other) p q =
    ap PatternLarge (one_offset netlist at other p.net q.net p.refused.0 q.refused.0 p.at q.at)
one_breaks netlist (PatternLarge at) (TooMany other) p q =
    absurd (p.refused.2 (subst (HasMany netlist) (one_named netlist q.net p.net q.refused.0 p.refused.0) q.refused.1))
one_breaks netlist (TooMany at) AlwaysClash p q = absurd (q p.clean.word p.clean.clean)
one_breaks netlist (TooMany at) (PatternLarge other) p q =
    absurd (q.refused.2 (subst (HasMany netlist) (one_named netlist p.net q.net p.refused.0 q.refused.0) p.refused.1))
one_breaks netlist (TooMany at) (TooMany other) p q =
    ap TooMany (one_offset netlist at other p.net q.net p.refused.0 q.refused.0 p.at q.at)
one_breaks netlist AlwaysClash _ p q = absurd q
one_breaks netlist (PatternLarge at) _ p q = absurd q
one_breaks netlist (TooMany at) _ p q = absurd q
one_breaks netlist _ later p q = absurd p

-- ---- of what a netlist is in its modes

large_breaks : (netlist : Netlist) (at : ℕ) → KeepsLimits netlist → BreaksRoutes netlist (PatternLarge at) → ⊥
large_breaks netlist at kept broken = kept_names_none netlist broken.net kept broken.refused.0

many_breaks : (netlist : Netlist) (at : ℕ) → KeepsLimits netlist → BreaksRoutes netlist (TooMany at) → ⊥
many_breaks netlist at kept broken = kept_names_none netlist broken.net kept broken.refused.0

module _ (netlist : Netlist) where
  pub kept_modes_break_none : (fault : NetFault) → AreRoutedModes netlist → ModesBreakRoutes netlist fault → ⊥
  kept_modes_break_none AlwaysClash routed broken =
      let kept = routed broken.value broken.within in
      broken.breaks kept.clean.word kept.clean.clean
  kept_modes_break_none (PatternLarge at) routed (clean, broken) =
      large_breaks (base_at netlist broken.value) at (routed broken.value broken.within).limits broken.breaks
  kept_modes_break_none (TooMany at) routed (clean, broken) =
      many_breaks (base_at netlist broken.value) at (routed broken.value broken.within).limits broken.breaks
  kept_modes_break_none _ routed broken = absurd broken

  -- the first mode of which something doesn't hold is one
  first_mode : (Keeps P Q : Property) → ((n : Netlist) → Keeps n → P n → ⊥) → ((n : Netlist) → Keeps n → Q n → ⊥) → (a : InFirstMode Keeps P netlist) (b : InFirstMode Keeps Q netlist) → a.value ≡ b.value
  first_mode Keeps P Q f g a b = elim (cases_lt a.value b.value) [
    | inl less ↦ absurd (f (base_at netlist a.value) (b.before a.value less) a.breaks)
    | inr le ↦ elim (cases_lt b.value a.value) [
      | inl less ↦ absurd (g (base_at netlist b.value) (a.before b.value less) b.breaks)
      | inr also ↦ omega (arith, le, also)
    ]
  ]

  no_clash : InFirstMode HasCleanWord ClashesAlways netlist → InEachMode HasCleanWord netlist → ⊥
  no_clash clash clean =
      let has = clean clash.value clash.within in
      clash.breaks has.word has.clean

  -- faults of one mode are one
  one_in_mode : (fault later : NetFault) (u v : ℕ) → u ≡ v → BreaksRoutes (base_at netlist u) fault → BreaksRoutes (base_at netlist v) later → fault ≡ later
  one_in_mode fault later u v same p q =
      one_breaks (base_at netlist v) fault later (subst (λ (k : ℕ). BreaksRoutes (base_at netlist k) fault) same p) q

  pub one_modes_break : (fault later : NetFault) → ModesBreakRoutes netlist fault → ModesBreakRoutes netlist later → fault ≡ later
  one_modes_break AlwaysClash AlwaysClash p q = refl
  one_modes_break AlwaysClash (PatternLarge other) p (clean, q) = absurd (no_clash p clean)
  one_modes_break AlwaysClash (TooMany other) p (clean, q) = absurd (no_clash p clean)
  one_modes_break (PatternLarge at) AlwaysClash (clean, p) q = absurd (no_clash q clean)
  one_modes_break (TooMany at) AlwaysClash (clean, p) q = absurd (no_clash q clean)
  one_modes_break (PatternLarge at) (PatternLarge other) (clean, p) (also, q) =
      one_in_mode (PatternLarge at) (PatternLarge other) p.value q.value
      (first_mode KeepsLimits _ _ (λ n. large_breaks n at) (λ n. large_breaks n other) p q) p.breaks q.breaks
  one_modes_break (PatternLarge at) (TooMany other) (clean, p) (also, q) =
      one_in_mode (PatternLarge at) (TooMany other) p.value q.value
      (first_mode KeepsLimits _ _ (λ n. large_breaks n at) (λ n. many_breaks n other) p q) p.breaks q.breaks
  one_modes_break (TooMany at) (PatternLarge other) (clean, p) (also, q) =
      one_in_mode (TooMany at) (PatternLarge other) p.value q.value
      (first_mode KeepsLimits _ _ (λ n. many_breaks n at) (λ n. large_breaks n other) p q) p.breaks q.breaks
  one_modes_break (TooMany at) (TooMany other) (clean, p) (also, q) =
      one_in_mode (TooMany at) (TooMany other) p.value q.value
      (first_mode KeepsLimits _ _ (λ n. many_breaks n at) (λ n. many_breaks n other) p q) p.breaks q.breaks
  one_modes_break AlwaysClash _ p q = absurd q
  one_modes_break (PatternLarge at) _ p q = absurd q
  one_modes_break (TooMany at) _ p q = absurd q
  one_modes_break _ later p q = absurd p

  -- ---- of a netlist without a mode

  module _ (none : netlist.special ≡ None) where
    pub routed_alone : IsRouted netlist → AreRoutedModes netlist
    routed_alone routed = λ v small. subst IsRouted (sym (alone_base netlist none v)) routed

    pub routed_as_one : AreRoutedModes netlist → IsRouted netlist
    routed_as_one routed = subst IsRouted (alone_base netlist none 0) (routed 0 (some_modes netlist))

    first_alone : (Keeps P : Property) → P netlist → InFirstMode Keeps P netlist
    first_alone Keeps P h = record {
      value = 0;
      within = some_modes netlist;
      before = λ v small. absurd (omega (arith, small));
      breaks = subst P (sym (alone_base netlist none 0)) h;
    }

    clean_alone : HasCleanWord netlist → InEachMode HasCleanWord netlist
    clean_alone h = λ v small. subst HasCleanWord (sym (alone_base netlist none v)) h

    pub breaks_alone : (fault : NetFault) → BreaksRoutes netlist fault → ModesBreakRoutes netlist fault
    breaks_alone AlwaysClash h = first_alone HasCleanWord ClashesAlways h
    breaks_alone (PatternLarge at) h = (clean_alone h.clean, first_alone KeepsLimits (λ base. BreaksRoutes base (PatternLarge at)) h)
    breaks_alone (TooMany at) h = (clean_alone h.clean, first_alone KeepsLimits (λ base. BreaksRoutes base (TooMany at)) h)
    breaks_alone _ h = absurd h

-- ---- of a text

pub no_broken_route : (bytes : List ℕ) (entries : NetText) (fault : NetFault) → IsRoutedFile bytes entries → BreaksRouteRule bytes fault → ⊥
no_broken_route bytes entries fault file breaks =
    kept_modes_break_none (taken_of breaks.entries) fault
    (subst (λ e. AreRoutedModes (taken_of e)) (file.file.says.only breaks.entries breaks.file.says.text) file.routed) breaks.broken

pub one_broken_route : (bytes : List ℕ) (fault later : NetFault) → BreaksRouteRule bytes fault → BreaksRouteRule bytes later → fault ≡ later
one_broken_route bytes fault later a b =
    one_modes_break (taken_of a.entries) fault later a.broken
    (subst (λ e. ModesBreakRoutes (taken_of e) later) (sym (a.file.says.only b.entries b.file.says.text)) b.broken)
