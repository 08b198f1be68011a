-- The value of a net is what its symbolic value means.
use Rattle.std.proofs.Common.{inl, inr, ◌≡◌, ℕ, ◌+◌, ◌-◌, ◌/◌, ◌%◌, ◌^◌, ◌<◌, ◌≤◌, ◌==◌, ◌&&◌, List, [], ◌∷◌, Option, Some, None, length, map, sym, ◌∙◌, ap, arith, subst, refl, Bool, true, false, cond, slice_get, slice_index, zero, suc, add-suc, add-zero}
use Rattle.std.proofs.Math.Pow.{mod-mod-pow}
use Rattle.std.proofs.lemmas.Nat.{field_of, shr-shr}
use Rattle.std.proofs.lemmas.Bool.{cases_eq, eq-eqb, ne_eqb, eqb-true}
use Rattle.std.proofs.Math.Nat.{mod-eq_of_lt}
use Rattle.rec_bits.proofs.Booleans.{both}
use Rattle.rec_bits.specs.Operators.{slice_of}
use Rattle.net_model.specs.Exprs.{ExprModel, slice, select, expr_width}
use Rattle.net_model.specs.Nets.{width_at, net_width, gate_nets, held, space_at}
use Rattle.net_model.specs.Value.{case_value, bus_value, gate_value, net_value, value_within, value_of}
use Rattle.net_model.specs.Widths.{RowsFit, RestFits, DriversFit, GateFits, NetFits, IsTyped, StateFits, WordFits}
use Rattle.net_model.specs.Symbolic.{sliced, reads_state, all_nets, gate_static, net_static, static_within, is_static, no_state, case_expr, bus_expr, gate_expr, net_expr, sym_within, sym_of}
use Rattle.net_model.specs.Meaning.{mean}
use Rattle.net_model.specs.Control.{AllPass, is_selector, GateControlled, IsControlled}
use Rattle.net_model.proofs.GateControls.{gate_controlled, is_bit}
use Rattle.rec_bits.specs.Operators.{result_width}
use Rattle.net_model.specs.declared.hardware.Netlist.{Netlist}
use Rattle.net_model.specs.declared.hardware.Net.{Net}
use Rattle.net_model.specs.declared.hardware.Gate.{Gate}
use Rattle.net_model.specs.declared.hardware.Gate.TheVariants.{Word, Reg, Read, Const, Wire, Un, Bin, Slice, Cat, Zext, Sext, Case, Bus}
use Rattle.net_model.specs.declared.states.State.{State}
use Rattle.net_model.proofs.Agree.{Agree, same_gate}
use Rattle.net_model.proofs.Fits.{value_fits}

-- ---- slices

whole : (hi lo w : ℕ) → ((lo == 0) && (hi + 1 == w)) ≡ true → (lo ≡ 0) × (hi + 1 ≡ w)
whole hi lo w e =
    let p : ((lo == 0) ≡ true) × ((hi + 1 == w) ≡ true) = both (lo == 0) (hi + 1 == w) e in
    (eqb-true lo 0 p.0, eqb-true (hi + 1) w p.1)

plain_width : (b : Bool) (a : ExprModel) (hi lo : ℕ) → (b ≡ true → expr_width a ≡ hi + 1 - lo) → expr_width (cond b a (slice a hi lo)) ≡ hi + 1 - lo
plain_width true a hi lo h = h refl
plain_width false a hi lo h = refl

whole_width : (a : ExprModel) (hi lo : ℕ) → expr_width (cond ((lo == 0) && (hi + 1 == expr_width a)) a (slice a hi lo)) ≡ hi + 1 - lo
whole_width a hi lo = plain_width ((lo == 0) && (hi + 1 == expr_width a)) a hi lo (λ e. omega (arith, whole hi lo (expr_width a) e))

width-sliced : (a : ExprModel) (hi lo : ℕ) → lo ≤ hi → hi < expr_width a → expr_width (sliced a hi lo) ≡ hi + 1 - lo
width-sliced (slice a h l) hi lo p q = omega arith
width-sliced a hi lo p q = whole_width a hi lo

slice_slice : (x h l hi lo : ℕ) → lo ≤ hi → hi < h + 1 - l → slice_of x (l + hi) (l + lo) ≡ slice_of (slice_of x h l) hi lo
slice_slice x h l hi lo p q =
    let y : ℕ = x / 2 ^ l in
    let m : l + hi + 1 - (l + lo) ≡ hi + 1 - lo = omega arith in
    let w : h + 1 - l ≡ (h + 1 - l - lo) + lo = omega arith in
    let j : h + 1 - l - lo ≡ (h + 1 - l - lo - (hi + 1 - lo)) + (hi + 1 - lo) = omega arith in
    let a : x / 2 ^ (l + lo) % 2 ^ (l + hi + 1 - (l + lo)) ≡ y / 2 ^ lo % 2 ^ (hi + 1 - lo) =
    ap (λ n. x / 2 ^ (l + lo) % 2 ^ n) m ∙ ap (λ n. n % 2 ^ (hi + 1 - lo)) (sym (shr-shr x l lo)) in
    let b : y / 2 ^ lo % 2 ^ (h + 1 - l - lo) % 2 ^ (hi + 1 - lo) ≡ y / 2 ^ lo % 2 ^ (hi + 1 - lo) =
    ap (λ n. y / 2 ^ lo % 2 ^ n % 2 ^ (hi + 1 - lo)) j ∙ mod-mod-pow (y / 2 ^ lo) (h + 1 - l - lo - (hi + 1 - lo)) (hi + 1 - lo) in
    let c : y % 2 ^ (h + 1 - l) / 2 ^ lo ≡ y / 2 ^ lo % 2 ^ (h + 1 - l - lo) =
    ap (λ n. y % 2 ^ n / 2 ^ lo) w ∙ field_of y (h + 1 - l - lo) lo in
    a ∙ sym b ∙ ap (λ n. n % 2 ^ (hi + 1 - lo)) (sym c)

slice_whole : (x hi lo w : ℕ) → x < 2 ^ w → (lo ≡ 0) × (hi + 1 ≡ w) → x ≡ slice_of x hi lo
slice_whole x hi lo w h e =
    let p : x / 2 ^ 0 ≡ x = omega arith in
    let w0 : w ≡ hi + 1 - 0 = omega (arith, e.1) in
    let lt : x < 2 ^ (hi + 1 - 0) = subst (λ n. x < 2 ^ n) w0 h in
    subst (λ l. x ≡ slice_of x hi l) (sym e.0) (sym (ap (λ n. n % 2 ^ (hi + 1 - 0)) p ∙ mod-eq_of_lt lt))

plain_mean : (b : Bool) (a : ExprModel) (hi lo : ℕ) (s : State) (i : ℕ) → (b ≡ true → mean a s i ≡ slice_of (mean a s i) hi lo) → mean (cond b a (slice a hi lo)) s i ≡ slice_of (mean a s i) hi lo
plain_mean true a hi lo s i h = h refl
plain_mean false a hi lo s i h = refl

whole_mean : (a : ExprModel) (hi lo : ℕ) (s : State) (i : ℕ) → mean a s i < 2 ^ expr_width a → mean (cond ((lo == 0) && (hi + 1 == expr_width a)) a (slice a hi lo)) s i ≡ slice_of (mean a s i) hi lo
whole_mean a hi lo s i h =
    plain_mean ((lo == 0) && (hi + 1 == expr_width a)) a hi lo s i (λ e. slice_whole (mean a s i) hi lo (expr_width a) h (whole hi lo (expr_width a) e))

pub mean-sliced : (a : ExprModel) (hi lo : ℕ) (s : State) (i : ℕ) → lo ≤ hi → hi < expr_width a → mean a s i < 2 ^ expr_width a → mean (sliced a hi lo) s i ≡ slice_of (mean a s i) hi lo
mean-sliced (slice a h l) hi lo s i p q k = slice_slice (mean a s i) h l hi lo p q
mean-sliced a hi lo s i p q k = whole_mean a hi lo s i k

-- ---- widths

pick_width : (b : Bool) (a c : ExprModel) (width : ℕ) → expr_width a ≡ width → expr_width c ≡ width → expr_width (cond b a c) ≡ width
pick_width true a c width h k = h
pick_width false a c width h k = k

module _ (netlist : Netlist) (t : ℕ → ExprModel) (u : ℕ → ℕ) (f : ℕ → Bool) (h : (m : ℕ) → expr_width (t m) ≡ width_at netlist m) where
  case_width : (width sel key : ℕ) (rows : List (ℕ × ℕ)) (rest : Option ℕ) → RowsFit netlist sel width rows → RestFits netlist width rest → expr_width (case_expr t width key rows rest) ≡ width
  case_width width sel key [] None p q = refl
  case_width width sel key [] (Some n) p q = h n ∙ q.1
  case_width width sel key (row ∷ rows) rest p q = pick_width (row.0 == key) _ _ width (h row.1 ∙ p.1.1) (case_width width sel key rows rest p.2 q)

  bus_width : (width : ℕ) (drivers : List (ℕ × ℕ)) → DriversFit netlist width drivers → expr_width (bus_expr t u width drivers) ≡ width
  bus_width width [] p = refl
  bus_width width (driver ∷ drivers) p = pick_width (u driver.1 == 1) _ _ width (h driver.0 ∙ p.0.1) (bus_width width drivers p.2)

  gate_width : (width : ℕ) (gate : Gate) → GateFits netlist width gate → expr_width (gate_expr t u f netlist width gate) ≡ width
  gate_width width (Word code) g = refl
  gate_width width (Reg id) g = refl
  gate_width width (Read memory addr) g = refl
  gate_width width (Const c) g = refl
  gate_width width (Wire a) g = h a ∙ g.1
  gate_width width (Un op a) g = h a ∙ g.1
  gate_width width (Bin op a b) g = ap (result_width op) (h a) ∙ g.2
  gate_width width (Slice of hi lo) g = width-sliced (t of) hi lo g.1 (omega (arith, g.2, h of)) ∙ g.3
  gate_width width (Cat a b) g = omega (arith, h a, h b, g.2)
  gate_width width (Zext a) g = refl
  gate_width width (Sext a) g = refl
  gate_width width (Case sel rows rest) g =
      pick_width (f sel) _ _ width (case_width width (width_at netlist sel) (u sel) rows rest g.1 g.2) (case_width width (width_at netlist sel) 1 rows rest g.1 g.2)
  gate_width width (Bus drivers) g = bus_width width drivers g

  net_tree_width : (net : Option Net) → NetFits netlist net → expr_width (net_expr t u f netlist net) ≡ net_width net
  net_tree_width None p = refl
  net_tree_width (Some net) p = gate_width net.width net.gate p.2

pub width_is : (netlist : Netlist) (i : ℕ) → IsTyped netlist → (k n : ℕ) → expr_width (sym_within k netlist i n) ≡ width_at netlist n
width_is netlist i t zero n = refl
width_is netlist i t (suc k) n =
    net_tree_width netlist (sym_within k netlist i) (value_within k netlist no_state i) (is_static netlist) (width_is netlist i t k) (slice_get netlist.nets n) (t.nets n)

-- ---- static nets

module _ (f : ℕ → Bool) (v w : ℕ → ℕ) (h : (m : ℕ) → f m ≡ true → v m ≡ w m) where
  all_agree : (ms : List ℕ) → all_nets f ms ≡ true → Agree v w ms
  all_agree [] e = tt
  all_agree (m ∷ ms) e = let p : (f m ≡ true) × (all_nets f ms ≡ true) = both (f m) (all_nets f ms) e in (h m p.0, all_agree ms p.1)

  static_gate : (netlist : Netlist) (s r : State) (i width : ℕ) (gate : Gate) → gate_static f gate ≡ true → gate_value v netlist s i width gate ≡ gate_value w netlist r i width gate
  static_gate netlist s r i width (Reg id) e = cc
  static_gate netlist s r i width (Read memory addr) e = cc
  static_gate netlist s r i width gate e = same_gate v w netlist s i width gate (all_agree (gate_nets gate) e)

  static_net : (netlist : Netlist) (s r : State) (i : ℕ) (net : Option Net) → net_static f net ≡ true → net_value v netlist s i net ≡ net_value w netlist r i net
  static_net netlist s r i None e = refl
  static_net netlist s r i (Some net) e = static_gate netlist s r i net.width net.gate e

pub static_value : (netlist : Netlist) (s r : State) (i k n : ℕ) → static_within k netlist n ≡ true → value_within k netlist s i n ≡ value_within k netlist r i n
static_value netlist s r i zero n e = refl
static_value netlist s r i (suc k) n e =
    static_net (static_within k netlist) (value_within k netlist s i) (value_within k netlist r i) (static_value netlist s r i k) netlist s r i (slice_get netlist.nets n) e

module _ (f g : ℕ → Bool) (h : (m : ℕ) → f m ≡ true → g m ≡ true) where
  all_of_weaker : (ms : List ℕ) → all_nets f ms ≡ true → all_nets g ms ≡ true
  all_of_weaker [] e = refl
  all_of_weaker (m ∷ ms) e =
      let p : (f m ≡ true) × (all_nets f ms ≡ true) = both (f m) (all_nets f ms) e in
      rw (h m p.0) (all_of_weaker ms p.1)

  static_weaker : (net : Option Net) → net_static f net ≡ true → net_static g net ≡ true
  static_weaker None e = refl
  static_weaker (Some net) e = by_reads (reads_state net.gate) e
    where
      by_reads : (b : Bool) → cond b false (all_nets f (gate_nets net.gate)) ≡ true → cond b false (all_nets g (gate_nets net.gate)) ≡ true
      by_reads true e = e
      by_reads false e = all_of_weaker (gate_nets net.gate) e

static_less : (netlist : Netlist) (k n : ℕ) → static_within (suc k) netlist n ≡ true → static_within k netlist n ≡ true
static_less netlist zero n e = refl
static_less netlist (suc k) n e = static_weaker (static_within (suc k) netlist) (static_within k netlist) (static_less netlist k) (slice_get netlist.nets n) e

static_far : (netlist : Netlist) (d k n : ℕ) → static_within (k + d) netlist n ≡ true → static_within k netlist n ≡ true
static_far netlist zero k n e = subst (λ j. static_within j netlist n ≡ true) (add-zero k) e
static_far netlist (suc d) k n e = static_far netlist d k n (static_less netlist (k + d) n (subst (λ j. static_within j netlist n ≡ true) (add-suc k d) e))

-- ---- the law

pick_mean : (b : Bool) (a c : ExprModel) (s : State) (i x y : ℕ) → mean a s i ≡ x → mean c s i ≡ y → mean (cond b a c) s i ≡ cond b x y
pick_mean true a c s i x y h k = h
pick_mean false a c s i x y h k = k

module _ (netlist : Netlist) (s : State) (i : ℕ) (t : ℕ → ExprModel) (u v : ℕ → ℕ) (h : (m : ℕ) → mean (t m) s i ≡ v m) (hw : (m : ℕ) → expr_width (t m) ≡ width_at netlist m) (hu : (m : ℕ) → is_static netlist m ≡ true → u m ≡ v m) (hv : (m : ℕ) → v m < 2 ^ width_at netlist m) where
  case_law : (width key : ℕ) (rows : List (ℕ × ℕ)) (rest : Option ℕ) → mean (case_expr t width key rows rest) s i ≡ case_value v key rows rest
  case_law width key [] None = refl
  case_law width key [] (Some n) = h n
  case_law width key (row ∷ rows) rest = pick_mean (row.0 == key) _ _ s i _ _ (h row.1) (case_law width key rows rest)

  bus_law : (width : ℕ) (drivers : List (ℕ × ℕ)) → AllPass (is_static netlist) (map (λ (driver : ℕ × ℕ). driver.1) drivers) → mean (bus_expr t u width drivers) s i ≡ bus_value v drivers
  bus_law width [] e = refl
  bus_law width (driver ∷ drivers) e =
      pick_mean (u driver.1 == 1) _ _ s i _ _ (h driver.0) (bus_law width drivers e.1)
      ∙ ap (λ n. cond (n == 1) (v driver.0) (bus_value v drivers)) (hu driver.1 e.0)

  -- a selector of one bit is 1 or 0
  bit_law : (width sel : ℕ) (rows : List (ℕ × ℕ)) (rest : Option ℕ) → v sel < 2 → mean (select (t sel) (case_expr t width 1 rows rest) (case_expr t width 0 rows rest)) s i ≡ case_value v (v sel) rows rest
  bit_law width sel rows rest lt =
      elim (cases_eq (v sel) 1) as (λ _. mean (select (t sel) (case_expr t width 1 rows rest) (case_expr t width 0 rows rest)) s i ≡ case_value v (v sel) rows rest) [
        | inl e ↦
            ap (λ b. cond b (mean (case_expr t width 1 rows rest) s i) (mean (case_expr t width 0 rows rest) s i)) (eq-eqb (mean (t sel) s i) 1 (h sel ∙ e))
            ∙ case_law width 1 rows rest ∙ ap (λ n. case_value v n rows rest) (sym e)
        | inr n ↦
            let e : v sel ≡ 0 = omega (arith, lt, n) in
            ap (λ b. cond b (mean (case_expr t width 1 rows rest) s i) (mean (case_expr t width 0 rows rest) s i)) (ne_eqb (mean (t sel) s i) 1 (λ q. n (sym (h sel) ∙ q)))
            ∙ case_law width 0 rows rest ∙ ap (λ n. case_value v n rows rest) (sym e)
      ]

  choice_law : (width sel : ℕ) (rows : List (ℕ × ℕ)) (rest : Option ℕ) (b : Bool) → is_static netlist sel ≡ b → is_selector netlist sel ≡ true → mean (cond b (case_expr t width (u sel) rows rest) (select (t sel) (case_expr t width 1 rows rest) (case_expr t width 0 rows rest))) s i ≡ case_value v (v sel) rows rest
  choice_law width sel rows rest true e c = case_law width (u sel) rows rest ∙ ap (λ n. case_value v n rows rest) (hu sel e)
  choice_law width sel rows rest false e c = bit_law width sel rows rest (subst (λ n. v sel < 2 ^ n) (is_bit netlist sel c e) (hv sel))

  gate_law : (width : ℕ) (gate : Gate) → GateFits netlist width gate → GateControlled netlist gate → mean (gate_expr t u (is_static netlist) netlist width gate) s i ≡ gate_value v netlist s i width gate
  gate_law width (Word code) g c = refl
  gate_law width (Reg id) g c = refl
  gate_law width (Read memory addr) g c = ap (slice_index (held s (space_at netlist memory))) (h addr)
  gate_law width (Const k) g c = refl
  gate_law width (Wire a) g c = h a
  gate_law width (Un op a) g c = rw (h a, hw a, g.1) refl
  gate_law width (Bin op a b) g c = rw (h a, h b, hw a) refl
  gate_law width (Slice of hi lo) g c =
      mean-sliced (t of) hi lo s i g.1 (omega (arith, g.2, hw of)) (rw (h of, hw of) (hv of)) ∙ ap (λ n. slice_of n hi lo) (h of)
  gate_law width (Cat a b) g c = rw (h a, h b, hw b) refl
  gate_law width (Zext a) g c = h a
  gate_law width (Sext a) g c = rw (h a, hw a) refl
  gate_law width (Case sel rows rest) g c = choice_law width sel rows rest (is_static netlist sel) refl c.selectors.0
  gate_law width (Bus drivers) g c = bus_law width drivers c.enables

  net_law : (net : Option Net) → NetFits netlist net → ((x : Net) → net ≡ Some x → GateControlled netlist x.gate) → mean (net_expr t u (is_static netlist) netlist net) s i ≡ net_value v netlist s i net
  net_law None p c = refl
  net_law (Some net) p c = gate_law net.width net.gate p.2 (c net refl)

pub law_within : (netlist : Netlist) (s : State) (i : ℕ) → IsTyped netlist → IsControlled netlist → StateFits netlist s → WordFits netlist i → (k d : ℕ) → k + d ≡ length netlist.nets → (n : ℕ) → mean (sym_within k netlist i n) s i ≡ value_within k netlist s i n
law_within netlist s i t c f w zero d e n = refl
law_within netlist s i t c f w (suc k) d e n =
    net_law netlist s i (sym_within k netlist i) (value_within k netlist no_state i) (value_within k netlist s i)
    (law_within netlist s i t c f w k (suc d) (omega arith))
    (width_is netlist i t k)
    (λ m q. static_value netlist no_state s i k m (static_far netlist (suc d) k m (subst (λ j. static_within j netlist m ≡ true) (let z : length netlist.nets ≡ k + suc d = omega arith in z) q)))
    (value_fits netlist s i t f w k)
    (slice_get netlist.nets n) (t.nets n) (gate_controlled netlist c n)

-- the law of a net's value
pub value_is_mean : (netlist : Netlist) (s : State) (i : ℕ) → IsTyped netlist → IsControlled netlist → StateFits netlist s → WordFits netlist i → (n : ℕ) → mean (sym_of netlist i n) s i ≡ value_of netlist s i n
value_is_mean netlist s i t c f w n = law_within netlist s i t c f w (length netlist.nets) 0 (add-zero (length netlist.nets)) n
