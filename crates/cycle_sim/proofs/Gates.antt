-- A decoded gate gives over places what the gate gives over the values of nets.
use Rattle.std.proofs.Common.{◌≡◌, ℕ, ◌+◌, ◌-◌, ◌*◌, ◌/◌, ◌%◌, ◌^◌, ◌<◌, ◌≤◌, ◌==◌, zero, suc, List, [], ◌∷◌, ◌++◌, Option, Some, None, length, sym, ◌∙◌, ap, subst, refl, arith, Bool, true, false, cond, bit_and, get_or, slice_index, inl, inr}
use Rattle.std.specs.Prelude.{nat_le}
use Rattle.std.specs.List.{AllByRecursion}
use Rattle.std.proofs.lemmas.Nat.{and_mask}
use Rattle.std.proofs.Math.Nat.{mod-eq_of_lt}
use Rattle.std.proofs.lemmas.List.{length-append, get_or_append_left}
use Rattle.std.proofs.Math.Seq.{get_or-append_seam}
use Rattle.std.proofs.lemmas.Bool.{cases_eq}
use Rattle.rec_bits.specs.declared.operator.Op2.{Op2}
use Rattle.rec_bits.specs.declared.operator.Op2.TheVariants.{Add, Sub, Mul, And, Or, Xor, Shl, Shr, Sar, Eq, Ltu, Lts}
use Rattle.rec_bits.specs.Operators.{apply1_of, apply2_of, result_width, sext_of}
use Rattle.rec_bits.proofs.Masks.{low_of_64, low_of_sub, shl_of_small, cat_fits}
use Rattle.rec_bits.proofs.Fits.{room_above}
use Rattle.net_model.specs.declared.hardware.Netlist.{Netlist}
use Rattle.net_model.specs.declared.hardware.Gate.{Gate}
use Rattle.net_model.specs.declared.hardware.Gate.TheVariants.{Word, Reg, Read, Const, Wire, Un, Bin, Slice, Cat, Zext, Sext, Case, Bus}
use Rattle.net_model.specs.declared.states.State.{State}
use Rattle.net_model.specs.Nets.{width_at, row_nets, driver_nets, gate_nets, held, space_at}
use Rattle.net_model.specs.Value.{bus_value, case_value, gate_value}
use Rattle.net_model.specs.Widths.{GateFits, IsTyped}
use Rattle.net_model.proofs.Fits.{typed_width}
use Rattle.cycle_sim.specs.declared.operation.Operation.{Operation}
use Rattle.cycle_sim.specs.declared.operation.Operation.TheVariants.{Table, Search}
use Rattle.cycle_sim.specs.Inner.Operations.{HasOperands, operation_value}
use Rattle.cycle_sim.specs.Inner.Decoding.{binary_of, choice_of, chosen, decoded, drivers_by, optional, rows_by, table_of}
use Rattle.cycle_sim.specs.Inner.Programs.{StandsGate, IsPlainGate}

-- ---- numbers

-- the low bits of a number that fits
low_same : (x y w : ℕ) → x ≡ y → y < 2 ^ w → x % 2 ^ w ≡ y
low_same x y w e h = ap (λ n. n % 2 ^ w) e ∙ mod-eq_of_lt h

masked : (n w : ℕ) → w ≤ 64 → bit_and (n % 2 ^ 64) (2 ^ w - 1) ≡ n % 2 ^ w
masked n w h = and_mask (n % 2 ^ 64) w ∙ low_of_64 n w h

paired : (a k b : ℕ) → k ≤ 64 → a < 2 ^ (64 - k) → b < 2 ^ k → (a * 2 ^ k % 2 ^ 64 + b) % 2 ^ 64 ≡ a * 2 ^ k + b
paired a k b h la lb =
    ap (λ n. (n + b) % 2 ^ 64) (shl_of_small a k h la) ∙ mod-eq_of_lt (cat_fits a k b h la lb)

-- ---- operators

module _ (v : ℕ → ℕ) (s : State) (p q a b : ℕ) (ea : v p ≡ a) (eb : v q ≡ b) where
  pub binary_gives : (op : Op2) (from width : ℕ) → a < 2 ^ from → b < 2 ^ from → result_width op from ≡ width → width ≤ 64 → operation_value v s (binary_of op from width p q) ≡ apply2_of op from a b
  binary_gives Add from width ha hb e h =
      rw (ea, eb, ← e) (masked (a + b) from (subst (λ n. n ≤ 64) (sym e) h))
  binary_gives Sub from width ha hb e h =
      rw (ea, eb, ← e) (and_mask ((a + (2 ^ 64 - b)) % 2 ^ 64) from ∙ low_of_sub a b from (subst (λ n. n ≤ 64) (sym e) h) hb)
  binary_gives Mul from width ha hb e h =
      rw (ea, eb, ← e) (masked (a * b) from (subst (λ n. n ≤ 64) (sym e) h))
  binary_gives And from width ha hb e h = rw (ea, eb) refl
  binary_gives Or from width ha hb e h = rw (ea, eb) refl
  binary_gives Xor from width ha hb e h = rw (ea, eb) refl
  binary_gives Eq from width ha hb e h = rw (ea, eb) refl
  binary_gives Ltu from width ha hb e h = rw (ea, eb) refl
  binary_gives op from width ha hb e h =
      ap (λ n. apply2_of op from n (v q % 2 ^ from)) (low_same (v p) a from ea ha)
      ∙ ap (apply2_of op from a) (low_same (v q) b from eb hb)

-- ---- cases and buses

-- two values that agree at these nets, one of them read by places
abbrev pub Stands : (ℕ → ℕ) → (ℕ → ℕ) → (ℕ → ℕ) → List ℕ → Type 0
Stands v f w ms = AllByRecursion (λ m. v (f m) ≡ w m) ms

at_front : (f : ℕ → ℕ) (rows : List (ℕ × ℕ)) (rest : Option ℕ) (n : ℕ) → length (table_of f rows rest n) ≡ n
at_front f rows rest zero = refl
at_front f rows rest (suc n) = simp length-append (omega (arith, at_front f rows rest n))

table_at : (f : ℕ → ℕ) (rows : List (ℕ × ℕ)) (rest : Option ℕ) (n k d : ℕ) → k < n → get_or (table_of f rows rest n) k d ≡ chosen f k rows rest
table_at f rows rest zero k d h = absurd (omega arith)
table_at f rows rest (suc n) k d h =
    elim (cases_eq k n) as (λ _. get_or (table_of f rows rest (suc n)) k d ≡ chosen f k rows rest) [
      | inl e ↦
          rw e (subst (λ i. get_or (table_of f rows rest n ++ chosen f n rows rest ∷ []) i d ≡ chosen f n rows rest) (at_front f rows rest n)
          (get_or-append_seam (table_of f rows rest n) (chosen f n rows rest) [] d))
      | inr e ↦
          let lt : k < n = omega arith in
          get_or_append_left (table_of f rows rest n) (chosen f n rows rest ∷ []) d k (omega (arith, at_front f rows rest n)) ∙ table_at f rows rest n k d lt
    ]

module _ (v f w : ℕ → ℕ) (nowhere : v 4294967295 ≡ 0) where
  chosen_gives : (key : ℕ) (rows : List (ℕ × ℕ)) (rest : Option ℕ) → Stands v f w (row_nets rows rest) → v (chosen f key rows rest) ≡ case_value w key rows rest
  chosen_gives key [] None h = nowhere
  chosen_gives key [] (Some rest) h = h.0
  chosen_gives key (row ∷ rows) rest h = pick (row.0 == key) h.0 (chosen_gives key rows rest h.1)
    where
      pick : (t : Bool) {a b x y : ℕ} → v a ≡ x → v b ≡ y → v (cond t a b) ≡ cond t x y
      pick true e g = e
      pick false e g = g

  search_gives : (key : ℕ) (rows : List (ℕ × ℕ)) (rest : Option ℕ) → Stands v f w (row_nets rows rest) → case_value v key (rows_by f rows) (optional f rest) ≡ case_value w key rows rest
  search_gives key [] None h = refl
  search_gives key [] (Some rest) h = h.0
  search_gives key (row ∷ rows) rest h = rw (h.0, search_gives key rows rest h.1) refl

  choice_gives : (s : State) (bits sel : ℕ) (rows : List (ℕ × ℕ)) (rest : Option ℕ) → w sel < 2 ^ bits → v (f sel) ≡ w sel → Stands v f w (row_nets rows rest) → operation_value v s (choice_of f bits sel rows rest) ≡ case_value w (w sel) rows rest
  choice_gives s bits sel rows rest lt e h = by_case (nat_le bits 8)
    where
      by_case : (t : Bool) → operation_value v s (cond t (Table (f sel) (table_of f rows rest (2 ^ bits))) (Search (f sel) (rows_by f rows) (optional f rest))) ≡ case_value w (w sel) rows rest
      by_case true = rw e (ap v (table_at f rows rest (2 ^ bits) (w sel) 4294967295 lt) ∙ chosen_gives (w sel) rows rest h)
      by_case false = rw e (search_gives (w sel) rows rest h)

pub bus_gives : (v f w : ℕ → ℕ) (drivers : List (ℕ × ℕ)) → Stands v f w (driver_nets drivers) → bus_value v (drivers_by f drivers) ≡ bus_value w drivers
bus_gives v f w [] h = refl
bus_gives v f w (driver ∷ drivers) h = rw (h.0, h.1.0, bus_gives v f w drivers h.1.1) refl

-- ---- gates

-- an operation gives the gate's value; a gate without one that has a place of its own has its value
-- standing there
abbrev pub Gives : (v w : ℕ → ℕ) (netlist : Netlist) (s : State) (word width : ℕ) → Gate → Option Operation → Type 0
Gives v w netlist s word width gate None =
    IsPlainGate gate → (x : ℕ) → StandsGate s word gate x → x ≡ gate_value w netlist s word width gate
Gives v w netlist s word width gate (Some operation) =
    operation_value v s operation ≡ gate_value w netlist s word width gate

module _ (netlist : Netlist) (typed : IsTyped netlist) (f : ℕ → ℕ) where
  pub gives : (v w : ℕ → ℕ) (s : State) (word width : ℕ) (gate : Gate) → v 4294967295 ≡ 0 → ((m : ℕ) → w m < 2 ^ width_at netlist m) → GateFits netlist width gate → width ≤ 64 → Stands v f w (gate_nets gate) → Gives v w netlist s word width gate (decoded netlist f width gate)
  gives v w s word width (Word code) z fits g high h = λ p x e. e
  gives v w s word width (Reg id) z fits g high h = λ p x e. e
  gives v w s word width (Read memory addr) z fits g high h = ap (slice_index (held s (space_at netlist memory))) h.0
  gives v w s word width (Const c) z fits g high h = λ p x e. e
  gives v w s word width (Wire a) z fits g high h = λ p x e. absurd p
  gives v w s word width (Un op a) z fits g high h =
      ap (apply1_of op width) (low_same (v (f a)) (w a) width h.0 (subst (λ n. w a < 2 ^ n) g.1 (fits a)))
  gives v w s word width (Bin op a b) z fits g high h =
      binary_gives v s (f a) (f b) (w a) (w b) h.0 h.1.0 op (width_at netlist a) width (fits a) (subst (λ n. w b < 2 ^ n) g.1.1 (fits b)) g.2 high
  gives v w s word width (Slice of hi lo) z fits g high h =
      ap (λ n. bit_and (n / 2 ^ lo) (2 ^ width - 1)) h.0
      ∙ and_mask (w of / 2 ^ lo) width
      ∙ ap (λ n. w of / 2 ^ lo % 2 ^ n) (sym g.3)
  gives v w s word width (Cat a b) z fits g high h =
      rw (h.0, h.1.0)
      (paired (w a) (width_at netlist b) (w b) (omega (arith, g.2, high)) (room_above (w a) (width_at netlist a) (width_at netlist b) (fits a) (omega (arith, g.2, high))) (fits b))
  gives v w s word width (Zext a) z fits g high h = λ p x e. absurd p
  gives v w s word width (Sext a) z fits g high h =
      ap (λ n. sext_of n (width_at netlist a) width) (low_same (v (f a)) (w a) (width_at netlist a) h.0 (fits a))
  gives v w s word width (Case sel rows rest) z fits g high h =
      choice_gives v f w z s (width_at netlist sel) sel rows rest (fits sel) h.0 h.1
  gives v w s word width (Bus drivers) z fits g high h = bus_gives v f w drivers h

  -- ---- the places and the widths of an operation

  module _ (n : ℕ) (within : (m : ℕ) → m < length netlist.nets → f m < n) where
    binary_ready : (op : Op2) (from width p q : ℕ) → p < n → q < n → 1 ≤ from → from ≤ 64 → HasOperands n (binary_of op from width p q)
    binary_ready Shl from width p q hp hq low high = (hp, hq, low, high)
    binary_ready Shr from width p q hp hq low high = (hp, hq, low, high)
    binary_ready Sar from width p q hp hq low high = (hp, hq, low, high)
    binary_ready Lts from width p q hp hq low high = (hp, hq, low, high)
    binary_ready op from width p q hp hq low high = (hp, hq)

    choice_ready : (t : Bool) (x y : Operation) → HasOperands n x → HasOperands n y → HasOperands n (cond t x y)
    choice_ready true x y h k = h
    choice_ready false x y h k = k

    abbrev pub OptionReady : Option Operation → Type 0
    OptionReady None = Unit {0}
    OptionReady (Some operation) = HasOperands n operation

    pub decoded_ready : (width : ℕ) (gate : Gate) → GateFits netlist width gate → 1 ≤ width → width ≤ 64 → OptionReady (decoded netlist f width gate)
    decoded_ready width (Word code) g low high = tt
    decoded_ready width (Reg id) g low high = tt
    decoded_ready width (Read memory addr) g low high = within addr g.0
    decoded_ready width (Const c) g low high = tt
    decoded_ready width (Wire a) g low high = tt
    decoded_ready width (Un op a) g low high = (within a g.0, low, high)
    decoded_ready width (Bin op a b) g low high =
        let t = typed_width netlist a typed g.0 in
        binary_ready op (width_at netlist a) width (f a) (f b) (within a g.0) (within b g.1.0) t.0 t.1
    decoded_ready width (Slice of hi lo) g low high =
        let t = typed_width netlist of typed g.0 in
        (within of g.0, omega (arith, g.1, g.2, t.1))
    decoded_ready width (Cat a b) g low high =
        let t = typed_width netlist a typed g.0 in
        (within a g.0, within b g.1, omega (arith, g.2, t.0, high))
    decoded_ready width (Zext a) g low high = tt
    decoded_ready width (Sext a) g low high =
        let t = typed_width netlist a typed g.0 in
        (within a g.0, t.0, omega (arith, g.1), high)
    decoded_ready width (Case sel rows rest) g low high =
        choice_ready (nat_le (width_at netlist sel) 8) _ _ (within sel g.0) (within sel g.0)
    decoded_ready width (Bus drivers) g low high = tt
