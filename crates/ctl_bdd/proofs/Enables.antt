-- Enables are static nets in control places, so the table tells which buses clash.
use Rattle.std.proofs.Common.{◌≡◌, ℕ, ◌+◌, ◌<◌, ◌^◌, ◌==◌, ◌||◌, ◌↔◌, not, nat_eq, nat_lt, cond, Bool, true, false, List, [], ◌∷◌, None, Some, map, slice_get, refl, sym, ap, ◌∙◌, subst}
use Rattle.std.specs.List.{AllByRecursion, list_any, position_from}
use Rattle.std.proofs.lemmas.Bool.{eq-eqb}
use Rattle.std.proofs.lemmas.Iterator.Adapters.{position_from-zero}
use Rattle.net_model.specs.declared.hardware.Netlist.{Netlist}
use Rattle.net_model.specs.declared.hardware.Net.{Net}
use Rattle.net_model.specs.declared.hardware.Gate.{Gate}
use Rattle.net_model.specs.declared.hardware.Gate.TheVariants.{Bus}
use Rattle.net_model.specs.Widths.{GateFits, NetFits, DriversFit, IsTyped}
use Rattle.net_model.specs.Symbolic.{is_static, no_state}
use Rattle.net_model.specs.Value.{value_of}
use Rattle.net_model.specs.Clock.{enabled_count, gate_clashes}
use Rattle.net_model.specs.Control.{AllPass, gate_enables, GateControlled, IsControlled}
use Rattle.net_model.proofs.GateControls.{gate_controlled}
use Rattle.bit_bdd.specs.Diagrams.{Diagrams}
use Rattle.ctl_bdd.specs.Places.{is_placed}
use Rattle.ctl_bdd.specs.Tables.{AreBits, HasControls, numbers_at, sets_at}
use Rattle.ctl_bdd.specs.Inner.Tables.{HasEnable, HasEnables}
use Rattle.net_model.specs.Transfers.{clash_at}
use Rattle.rec_bits.proofs.Booleans.{or_left, or_right, and_from}
use Rattle.rec_bits.proofs.Lists.{all_by_place}
use Rattle.ctl_bdd.proofs.Placed.{enable_placed}

module _ (netlist : Netlist) (book : Diagrams) (table : List (List ℕ)) (h : HasControls netlist book table) where
  drivers_have : (width : ℕ) (drivers : List (ℕ × ℕ)) → DriversFit netlist width drivers → AllPass (is_static netlist) (map (λ (driver : ℕ × ℕ). driver.1) drivers)
      → ((n : ℕ) → list_any (nat_eq n) (map (λ (driver : ℕ × ℕ). driver.1) drivers) ≡ true → is_placed netlist n ≡ true)
      → AllByRecursion (λ (driver : ℕ × ℕ). HasEnable table driver × AreBits netlist book driver.1 (sets_at table driver.1)) drivers
  drivers_have width [] fits static places = tt
  drivers_have width (driver ∷ drivers) fits static places =
      let here : is_placed netlist driver.1 ≡ true = places driver.1 (or_left (nat_eq driver.1 driver.1) _ (eq-eqb driver.1 driver.1 refl)) in
      let bits : AreBits netlist book driver.1 (sets_at table driver.1) = h.bits driver.1 fits.1.0 (and_from (is_static netlist driver.1) (is_placed netlist driver.1) static.0 here) in
      ((bits.long ∙ fits.1.1, bits), drivers_have width drivers fits.2 static.1 (λ n e. places n (or_right (nat_eq n driver.1) _ e)))

  firsts : (drivers : List (ℕ × ℕ)) → AllByRecursion (λ (driver : ℕ × ℕ). HasEnable table driver × AreBits netlist book driver.1 (sets_at table driver.1)) drivers → AllByRecursion (HasEnable table) drivers
  firsts [] a = tt
  firsts (driver ∷ drivers) a = (a.0.0, firsts drivers a.1)

  same_count : (word : ℕ) → word < 2 ^ book.bits → (drivers : List (ℕ × ℕ)) → AllByRecursion (λ (driver : ℕ × ℕ). HasEnable table driver × AreBits netlist book driver.1 (sets_at table driver.1)) drivers → enabled_count (numbers_at book table word) drivers ≡ enabled_count (value_of netlist no_state word) drivers
  same_count word lt [] a = refl
  same_count word lt (driver ∷ drivers) a =
      let e : numbers_at book table word driver.1 ≡ value_of netlist no_state word driver.1 = a.0.1.number word lt in
      let f : enabled_count (numbers_at book table word) drivers ≡ enabled_count (value_of netlist no_state word) drivers = same_count word lt drivers a.1 in
      (λ j. cond (e j == 1) 1 0 + f j)

  module _ (t : IsTyped netlist) (control : IsControlled netlist) where
    bus_have : (k width : ℕ) (net : Net) (drivers : List (ℕ × ℕ)) → slice_get netlist.nets k ≡ Some net → net.gate ≡ Bus drivers → AllByRecursion (λ (driver : ℕ × ℕ). HasEnable table driver × AreBits netlist book driver.1 (sets_at table driver.1)) drivers
    bus_have k width net drivers there e =
        let fits : NetFits netlist (Some net) = subst (NetFits netlist) there (t.nets k) in
        let gate : GateFits netlist net.width (Bus drivers) = subst (GateFits netlist net.width) e fits.2 in
        let bus : GateControlled netlist (Bus drivers) = subst (GateControlled netlist) e (gate_controlled netlist control k net there) in
        drivers_have net.width drivers gate bus.enables (λ n a. enable_placed netlist n k net there (ap (λ g. list_any (nat_eq n) (gate_enables g)) e ∙ a))

    net_has : (k : ℕ) (net : Net) → slice_get netlist.nets k ≡ Some net → HasEnables table net.gate
    net_has k net there = by net.gate refl
      where
        by : (gate : Gate) → net.gate ≡ gate → HasEnables table gate
        by (Bus drivers) e = firsts drivers (bus_have k net.width net drivers there e)
        by _ e = tt

    pub all_have : AllByRecursion (λ (net : Net). HasEnables table net.gate) netlist.nets
    all_have = all_by_place (λ (net : Net). HasEnables table net.gate) netlist.nets net_has

    same_clash : (word : ℕ) → word < 2 ^ book.bits → (k : ℕ) (net : Net) → slice_get netlist.nets k ≡ Some net → gate_clashes (numbers_at book table word) net.gate ≡ gate_clashes (value_of netlist no_state word) net.gate
    same_clash word lt k net there = by net.gate refl
      where
        by : (gate : Gate) → net.gate ≡ gate → gate_clashes (numbers_at book table word) gate ≡ gate_clashes (value_of netlist no_state word) gate
        by (Bus drivers) e = ap (nat_lt 1) (same_count word lt drivers (bus_have k net.width net drivers there e))
        by _ e = refl

    any_same : {X : Type 0} (f g : X → Bool) (xs : List X) → AllByRecursion (λ x. f x ≡ g x) xs → list_any f xs ≡ list_any g xs
    any_same f g [] a = refl
    any_same f g (x ∷ xs) a = rw (a.0, any_same f g xs a.1) refl

    nowhere : {X : Type 0} (f : X → Bool) (i : ℕ) (xs : List X) → (not (list_any f xs) ≡ true) ↔ (position_from f i xs ≡ None)
    nowhere f i [] = (λ e. refl, λ e. refl)
    nowhere f i (x ∷ xs) = by (f x) (nowhere f (i + 1) xs)
      where
        by : (b : Bool) → ((not (list_any f xs) ≡ true) ↔ (position_from f (i + 1) xs ≡ None)) → (not (b || list_any f xs) ≡ true) ↔ (cond b (Some i) (position_from f (i + 1) xs) ≡ None)
        by true later = (λ e. cc, λ e. cc)
        by false later = later

    -- the words that the table tells to be without clash are those
    pub legal_is : (word : ℕ) → word < 2 ^ book.bits → (not (list_any (λ (net : Net). gate_clashes (numbers_at book table word) net.gate) netlist.nets) ≡ true) ↔ (clash_at netlist word ≡ None)
    legal_is word lt =
        let f : Net → Bool = λ net. gate_clashes (numbers_at book table word) net.gate in
        let g : Net → Bool = λ net. gate_clashes (value_of netlist no_state word) net.gate in
        let same : list_any f netlist.nets ≡ list_any g netlist.nets = any_same f g netlist.nets (all_by_place (λ (net : Net). f net ≡ g net) netlist.nets (same_clash word lt)) in
        let one : (not (list_any g netlist.nets) ≡ true) ↔ (position_from g 0 netlist.nets ≡ None) = nowhere g 0 netlist.nets in
        (λ e. position_from-zero g netlist.nets ∙ one.0 (ap not (sym same) ∙ e), λ e. ap not same ∙ one.1 (sym (position_from-zero g netlist.nets) ∙ e))
