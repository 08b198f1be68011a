-- What is told of control decides each case and each bus.
use Rattle.std.proofs.Common.{◌≡◌, inl, inr, ℕ, ◌<◌, ◌&&◌, ◌||◌, nat_eq, Bool, true, false, true≢false, List, [], ◌∷◌, map, length, Some, slice_get, if◌then◌else◌, refl, sym, ap, subst, ◌∙◌}
use Rattle.std.specs.List.{AllByRecursion, list_any}
use Rattle.std.proofs.lemmas.Bool.{cases_eq, eqb-true, eq-eqb, ne_eqb}
use Rattle.std.proofs.lemmas.Map.Views.{any-filter_same}
use Rattle.rec_bits.proofs.Booleans.{or_left, or_right, and-true}
use Rattle.bit_bdd.specs.Diagrams.{Diagrams, Extends}
use Rattle.net_model.specs.declared.hardware.Netlist.{Netlist}
use Rattle.net_model.specs.declared.hardware.Net.{Net}
use Rattle.net_model.specs.declared.hardware.Gate.{Gate}
use Rattle.net_model.specs.declared.hardware.Gate.TheVariants.{Case, Bus}
use Rattle.net_model.specs.Widths.{DriversFit, GateFits, NetFits}
use Rattle.net_model.specs.Control.{AllPass, gate_enables, gate_selectors, is_selector, GateControlled}
use Rattle.net_model.specs.CheckedRules.{KeepsRules}
use Rattle.net_model.proofs.GateControls.{gate_controlled, is_bit}
use Rattle.net_model.proofs.KeptRules.{sound_of}
use Rattle.net_model.specs.Symbolic.{is_static}
use Rattle.ctl_bdd.specs.Controls.{IsControl, IsNetBits}
use Rattle.ctl_bdd.specs.Tables.{AreBits}
use Rattle.ctl_bdd.specs.Places.{is_placed, is_static_control, numbers_below, static_controls}
use Rattle.ctl_bdd.specs.declared.ControlBits.{ControlBits}
use Rattle.ctl_bdd.proofs.CallerLemmas.{enable_placed, number_there, selector_placed}
use Rattle.ctl_bdd.proofs.Filling.{bits_later}
use Rattle.ctl_bdd.proofs.Sets.{sets_later}
use Rattle.route_trace.specs.Inner.Tests.{HasBits, IsDecided, IsSelector, sets_in}

-- a net is among the static ones in control places exactly where it is one
listed : (netlist : Netlist) (m : ℕ) → m < length netlist.nets → is_placed netlist m ≡ true → list_any (nat_eq m) (static_controls netlist) ≡ is_static netlist m
listed netlist m lt at =
    any-filter_same (nat_eq m) (is_static_control netlist) (is_static netlist m)
    (λ k e. let same : m ≡ k = eqb-true m k e in subst (λ j. is_static_control netlist j ≡ is_static netlist m) same (by (is_static netlist m) (is_placed netlist m) at)) (numbers_below (length netlist.nets))
    ∙ ap (λ b. is_static netlist m && b) (number_there m (length netlist.nets) lt) ∙ and-true (is_static netlist m)
  where
    by : (a b : Bool) → b ≡ true → (a && b) ≡ a
    by true b e = e
    by false b e = refl

-- the sets of a net that is among these
found : (netlist : Netlist) (book : Diagrams) (nets : List (ℕ × List ℕ)) (m : ℕ) → AllByRecursion (IsNetBits netlist book) nets → list_any (nat_eq m) (map (λ (net : ℕ × List ℕ). net.0) nets) ≡ true
    → HasBits netlist book (sets_in nets m) m
found netlist book [] m h e = absurd (true≢false (sym e))
found netlist book (net ∷ nets) m h e = elim (cases_eq net.0 m) as (λ _. HasBits netlist book (sets_in (net ∷ nets) m) m) [
  | inl q ↦
      subst (λ s. HasBits netlist book s m) (sym (ap (λ b. if b then net.1 else sets_in nets m) (eq-eqb net.0 m q)))
      (h.0.sets, subst (λ k. AreBits netlist book k net.1) q h.0.number)
  | inr q ↦
      subst (λ s. HasBits netlist book s m) (sym (ap (λ b. if b then net.1 else sets_in nets m) (ne_eqb net.0 m q)))
      (found netlist book nets m h.1 (ap (λ b. b || list_any (nat_eq m) (map (λ (net : ℕ × List ℕ). net.0) nets)) (sym (ne_eqb m net.0 (λ e. q (sym e)))) ∙ e))
]

-- and none of another net
not_found : (nets : List (ℕ × List ℕ)) (m : ℕ) → list_any (nat_eq m) (map (λ (net : ℕ × List ℕ). net.0) nets) ≡ false → sets_in nets m ≡ []
not_found [] m e = refl
not_found (net ∷ nets) m e = elim (cases_eq net.0 m) as (λ _. sets_in (net ∷ nets) m ≡ []) [
  | inl q ↦ absurd (true≢false (sym (or_left (nat_eq m net.0) _ (eq-eqb m net.0 (sym q))) ∙ e))
  | inr q ↦
      ap (λ b. if b then net.1 else sets_in nets m) (ne_eqb net.0 m q)
      ∙ not_found nets m (ap (λ b. b || list_any (nat_eq m) (map (λ (net : ℕ × List ℕ). net.0) nets)) (sym (ne_eqb m net.0 (λ e. q (sym e)))) ∙ e)
]

module _ (netlist : Netlist) (order : List ℕ) (keeps : KeepsRules netlist order) (old book : Diagrams) (controls : ControlBits) (control : IsControl netlist old controls) (grows : Extends old book) where
  -- a static net in a control place has its bits
  has_bits : (m : ℕ) → m < length netlist.nets → is_placed netlist m ≡ true → is_static netlist m ≡ true → HasBits netlist book (sets_in controls.bits m) m
  has_bits m lt at static =
      let h = found netlist old controls.bits m control.bits (ap (list_any (nat_eq m)) control.nets ∙ listed netlist m lt at ∙ static) in
      (sets_later old book grows (sets_in controls.bits m) h.0, bits_later netlist old book grows m (sets_in controls.bits m) h.0 h.1)

  selector : (m : ℕ) → m < length netlist.nets → is_placed netlist m ≡ true → is_selector netlist m ≡ true → IsSelector netlist book (sets_in controls.bits m) m
  selector m lt at narrow = by (is_static netlist m) refl
    where
      by : (b : Bool) → is_static netlist m ≡ b → IsSelector netlist book (sets_in controls.bits m) m
      by true e = inl (e, has_bits m lt at e)
      by false e = inr (e, not_found controls.bits m (ap (list_any (nat_eq m)) control.nets ∙ listed netlist m lt at ∙ e), is_bit netlist m narrow e)

  enables : (drivers : List (ℕ × ℕ)) → ((m : ℕ) → list_any (nat_eq m) (map (λ (driver : ℕ × ℕ). driver.1) drivers) ≡ true → is_placed netlist m ≡ true) → (width : ℕ) → DriversFit netlist width drivers → AllPass (is_static netlist) (map (λ (driver : ℕ × ℕ). driver.1) drivers)
      → AllByRecursion (λ (driver : ℕ × ℕ). HasBits netlist book (sets_in controls.bits driver.1) driver.1) drivers
  enables [] at width f s = tt
  enables (driver ∷ drivers) at width f s = (
    has_bits driver.1 f.1.0 (at driver.1 (or_left (nat_eq driver.1 driver.1) _ (eq-eqb driver.1 driver.1 refl))) s.0,
    enables drivers (λ m e. at m (or_right (nat_eq m driver.1) _ e)) width f.2 s.1,
  )

  by_gate : (n : ℕ) (net : Net) → slice_get netlist.nets n ≡ Some net → (gate : Gate) → net.gate ≡ gate → GateFits netlist net.width gate → GateControlled netlist gate → IsDecided netlist book controls.bits gate
  by_gate n net at (Case sel rows rest) e f c =
      selector sel f.0 (selector_placed netlist sel n net at (ap (λ g. list_any (nat_eq sel) (gate_selectors g)) e ∙ or_left (nat_eq sel sel) false (eq-eqb sel sel refl))) c.selectors.0
  by_gate n net at (Bus drivers) e f c =
      enables drivers (λ m h. enable_placed netlist m n net at (ap (λ g. list_any (nat_eq m) (gate_enables g)) e ∙ h)) net.width f c.enables
  by_gate n net at _ e f c = tt

  pub decided : (n : ℕ) (net : Net) → slice_get netlist.nets n ≡ Some net → NetFits netlist (Some net) → IsDecided netlist book controls.bits net.gate
  decided n net at fits = by_gate n net at net.gate refl fits.2 (gate_controlled netlist (sound_of netlist order keeps).controlled n net at)
