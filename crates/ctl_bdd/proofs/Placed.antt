-- The nets that stand in control places.
use Rattle.std.proofs.Common.{◌≡◌, ℕ, ◌<◌, ◌&&◌, ◌||◌, nat_eq, cond, Bool, true, false, List, [], ◌∷◌, ◌++◌, Option, None, Some, map, length, slice_get, refl, sym, ap, ◌∙◌, subst, zero, suc, not, option_to_list}
use Rattle.std.specs.Prelude.{filter}
use Rattle.std.specs.List.{AllByRecursion, list_any}
use Rattle.std.proofs.lemmas.Bool.{eqb-true}
use Rattle.rec_bits.proofs.Lists.{all_append, all_weaker, all_by_place}
use Rattle.rec_bits.specs.Faults.{gather}
use Rattle.net_model.specs.declared.hardware.Netlist.{Netlist}
use Rattle.net_model.specs.declared.hardware.Net.{Net}
use Rattle.net_model.specs.declared.hardware.Storage.{Storage}
use Rattle.net_model.specs.declared.hardware.Storage.TheVariants.{Register, Memory, File}
use Rattle.net_model.specs.declared.hardware.Gate.{Gate}
use Rattle.net_model.specs.declared.hardware.Gate.TheVariants.{Case, Bus}
use Rattle.net_model.specs.Widths.{GateFits, NetFits, StorageFits, WhenFits, DriversFit, IsTyped}
use Rattle.net_model.specs.Symbolic.{is_static}
use Rattle.net_model.specs.Control.{storage_enables, gate_enables, gate_selectors, write_enables, bus_enables, enables, selectors, control_places}
use Rattle.net_model.specs.CheckedRules.{is_control, is_plain, HasPlainControl}
use Rattle.net_model.proofs.Offsets.{all_gather}
use Rattle.ctl_bdd.specs.Places.{is_placed, is_static_control}
use Rattle.rec_bits.proofs.Booleans.{or_right}

-- ---- lists

pub all_filtered : (P : ℕ → Type 0) (f : ℕ → Bool) (xs : List ℕ) → AllByRecursion P xs → AllByRecursion P (filter f xs)
all_filtered P f [] h = tt
all_filtered P f (x ∷ xs) h = by (f x) (all_filtered P f xs h.1)
  where
    by : (b : Bool) → AllByRecursion P (filter f xs) → AllByRecursion P (cond b (x ∷ filter f xs) (filter f xs))
    by true later = (h.0, later)
    by false later = later

-- the filter keeps those that pass
pub all_passed : (P : ℕ → Type 0) (f : ℕ → Bool) (xs : List ℕ) → AllByRecursion (λ x. f x ≡ true → P x) xs → AllByRecursion P (filter f xs)
all_passed P f [] h = tt
all_passed P f (x ∷ xs) h = by (f x) refl (all_passed P f xs h.1)
  where
    by : (b : Bool) → f x ≡ b → AllByRecursion P (filter f xs) → AllByRecursion P (cond b (x ∷ filter f xs) (filter f xs))
    by true e later = (h.0 e, later)
    by false e later = later

any_cond : (b c : Bool) (n x : ℕ) (xs : List ℕ) → list_any (nat_eq n) (cond b (x ∷ xs) xs) ≡ ((b && nat_eq n x) || list_any (nat_eq n) xs)
any_cond true c n x xs = refl
any_cond false c n x xs = refl

pub any_filtered : (f : ℕ → Bool) (n : ℕ) (xs : List ℕ) → list_any (nat_eq n) (filter f xs) ≡ (f n && list_any (nat_eq n) xs)
any_filtered f n [] = by (f n)
  where
    by : (b : Bool) → false ≡ (b && false)
    by true = refl
    by false = refl
any_filtered f n (x ∷ xs) =
    any_cond (f x) true n x (filter f xs) ∙ ap (λ b. (f x && nat_eq n x) || b) (any_filtered f n xs) ∙ by (nat_eq n x) refl
  where
    spread : (b c : Bool) → ((b && true) || (b && c)) ≡ (b && true)
    spread true c = refl
    spread false c = refl

    none : (b c : Bool) → ((b && false) || c) ≡ c
    none true c = refl
    none false c = refl

    by : (b : Bool) → nat_eq n x ≡ b → ((f x && b) || (f n && list_any (nat_eq n) xs)) ≡ (f n && (b || list_any (nat_eq n) xs))
    by true e = ap (λ m. (f m && true) || (f n && list_any (nat_eq n) xs)) (sym (eqb-true n x e)) ∙ spread (f n) (list_any (nat_eq n) xs)
    by false e = none (f x) (f n && list_any (nat_eq n) xs)

pub any_append : (n : ℕ) (xs ys : List ℕ) → list_any (nat_eq n) ys ≡ true → list_any (nat_eq n) (xs ++ ys) ≡ true
any_append n [] ys e = e
any_append n (x ∷ xs) ys e = or_right (nat_eq n x) _ (any_append n xs ys e)

pub any_front : (n : ℕ) (xs ys : List ℕ) → list_any (nat_eq n) xs ≡ true → list_any (nat_eq n) (xs ++ ys) ≡ true
any_front n [] ys e = cc
any_front n (x ∷ xs) ys e = by (nat_eq n x) e (any_front n xs ys)
  where
    by : (b : Bool) → (b || list_any (nat_eq n) xs) ≡ true → (list_any (nat_eq n) xs ≡ true → list_any (nat_eq n) (xs ++ ys) ≡ true) → (b || list_any (nat_eq n) (xs ++ ys)) ≡ true
    by true e later = refl
    by false e later = later e

any_gathered : {X : Type 0} (f : X → List ℕ) (n k : ℕ) (xs : List X) (x : X) → slice_get xs k ≡ Some x → list_any (nat_eq n) (f x) ≡ true → list_any (nat_eq n) (gather f xs) ≡ true
any_gathered f n k [] x there e = cc
any_gathered f n zero (y ∷ xs) x there e =
    let same : x ≡ y = cc in
    any_front n (f y) (gather f xs) (rw same at e)
any_gathered f n (suc k) (y ∷ xs) x there e = any_append n (f y) _ (any_gathered f n k xs x there e)

implied : (a b : Bool) → (not a || b) ≡ true → a ≡ true → b ≡ true
implied true b e h = e
implied false b e h = cc

-- ---- control places

module _ (netlist : Netlist) where
  -- what a storage and the gate of a net put in a control place
  pub when_placed : (n k : ℕ) (storage : Storage) → slice_get netlist.storages k ≡ Some storage → list_any (nat_eq n) (storage_enables storage) ≡ true → is_placed netlist n ≡ true
  when_placed n k storage there e =
      any_front n (enables netlist) (selectors netlist) (any_front n (write_enables netlist) (bus_enables netlist) (any_gathered storage_enables n k netlist.storages storage there e))

  pub enable_placed : (n k : ℕ) (net : Net) → slice_get netlist.nets k ≡ Some net → list_any (nat_eq n) (gate_enables net.gate) ≡ true → is_placed netlist n ≡ true
  enable_placed n k net there e =
      any_front n (enables netlist) (selectors netlist)
      (any_append n (write_enables netlist) (bus_enables netlist) (any_gathered (λ (net : Net). gate_enables net.gate) n k netlist.nets net there e))

  pub selector_placed : (n k : ℕ) (net : Net) → slice_get netlist.nets k ≡ Some net → list_any (nat_eq n) (gate_selectors net.gate) ≡ true → is_placed netlist n ≡ true
  selector_placed n k net there e =
      any_append n (enables netlist) (selectors netlist) (any_gathered (λ (net : Net). gate_selectors net.gate) n k netlist.nets net there e)

  abbrev Inside : List ℕ → Type 0
  Inside ns = AllByRecursion (λ n. n < length netlist.nets) ns

  when_inside : (when : Option ℕ) → WhenFits netlist when → Inside (option_to_list when)
  when_inside None h = tt
  when_inside (Some when) h = (h.0, tt)

  storage_inside : (storage : Storage) → StorageFits netlist storage → Inside (storage_enables storage)
  storage_inside (Register name width input when) h = when_inside when h.1
  storage_inside (Memory cells) h = when_inside cells.when h.2
  storage_inside (File cells) h = when_inside cells.when h.2

  drivers_inside : (width : ℕ) (drivers : List (ℕ × ℕ)) → DriversFit netlist width drivers → Inside (map (λ (driver : ℕ × ℕ). driver.1) drivers)
  drivers_inside width [] h = tt
  drivers_inside width (driver ∷ drivers) h = (h.1.0, drivers_inside width drivers h.2)

  enables_inside : (width : ℕ) (gate : Gate) → GateFits netlist width gate → Inside (gate_enables gate)
  enables_inside width (Bus drivers) h = drivers_inside width drivers h
  enables_inside width _ h = tt

  selectors_inside : (width : ℕ) (gate : Gate) → GateFits netlist width gate → Inside (gate_selectors gate)
  selectors_inside width (Case sel rows rest) h = (h.0, tt)
  selectors_inside width _ h = tt

  gates_inside : (f : Gate → List ℕ) → ((width : ℕ) (gate : Gate) → GateFits netlist width gate → Inside (f gate)) → IsTyped netlist → Inside (gather (λ (net : Net). f net.gate) netlist.nets)
  gates_inside f inside t =
      all_gather (λ n. n < length netlist.nets) (λ (net : Net). f net.gate) netlist.nets (all_by_place (λ (net : Net). Inside (f net.gate)) netlist.nets
      (λ k net there. let fits : NetFits netlist (Some net) = subst (NetFits netlist) there (t.nets k) in inside net.width net.gate fits.2))

  pub places_inside : IsTyped netlist → Inside (control_places netlist)
  places_inside t =
      all_append (λ n. n < length netlist.nets) (enables netlist) (selectors netlist)
      (all_append (λ n. n < length netlist.nets) (write_enables netlist) (bus_enables netlist)
      (all_gather (λ n. n < length netlist.nets) storage_enables netlist.storages
      (all_weaker (StorageFits netlist) (λ storage. Inside (storage_enables storage)) storage_inside netlist.storages t.storages))
      (gates_inside gate_enables enables_inside t))
      (gates_inside gate_selectors selectors_inside t)

  -- the static ones among them
  pub static_inside : IsTyped netlist → Inside (filter (is_static netlist) (control_places netlist))
  static_inside t = all_filtered (λ n. n < length netlist.nets) (is_static netlist) (control_places netlist) (places_inside t)

  pub static_control : HasPlainControl netlist → AllByRecursion (λ n. is_control netlist n ≡ true) (filter (is_static netlist) (control_places netlist))
  static_control h =
      all_passed (λ n. is_control netlist n ≡ true) (is_static netlist) (control_places netlist)
      (all_weaker (λ n. is_plain netlist n ≡ true) (λ n. is_static netlist n ≡ true → is_control netlist n ≡ true)
      (λ n. implied (is_static netlist n) (is_control netlist n)) (control_places netlist) h)

  pub static_any : (n : ℕ) → list_any (nat_eq n) (filter (is_static netlist) (control_places netlist)) ≡ is_static_control netlist n
  static_any n = any_filtered (is_static netlist) n (control_places netlist)
