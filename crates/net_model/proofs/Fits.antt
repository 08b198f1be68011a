-- The values of a typed netlist fit their widths.
use Rattle.std.proofs.Common.{lit<, inl, inr, ◌≡◌, ℕ, ◌+◌, ◌-◌, ◌^◌, ◌<◌, ◌≤◌, ◌==◌, List, [], ◌∷◌, Option, Some, None, length, sym, arith, subst, slice_get, slice_index, zero, suc, replicate}
use Rattle.std.proofs.lemmas.Nat.{pow_pos, mod_below}
use Rattle.std.proofs.Math.Nat.{pow-le-pow_right}
use Rattle.std.proofs.lemmas.Option.{slice_get_cases}
use Rattle.rec_bits.specs.Operators.{apply2_of, slice_of, cat_of}
use Rattle.rec_bits.proofs.Fits.{cond_below, apply1_fits, apply2_fits, cat_below, sext_below}
use Rattle.rec_bits.proofs.Lists.{zeros_at}
use Rattle.net_model.specs.declared.hardware.Netlist.{Netlist}
use Rattle.net_model.specs.declared.hardware.Net.{Net}
use Rattle.net_model.specs.declared.hardware.Gate.{Gate}
use Rattle.net_model.specs.declared.hardware.Gate.TheVariants.{Word, Reg, Read, Const, Wire, Un, Bin, Slice, Cat, Zext, Sext, Case, Bus}
use Rattle.net_model.specs.declared.states.State.{State}
use Rattle.net_model.specs.Nets.{width_at, net_width, space_at, held}
use Rattle.net_model.specs.Value.{case_value, bus_value, gate_value, net_value, value_within}
use Rattle.net_model.specs.Widths.{RowsFit, RestFits, DriversFit, GateFits, NetFits, IsTyped, StateFits, WordFits, ValuesFit}

module _ (netlist : Netlist) (s : State) (word : ℕ) (v : ℕ → ℕ) (fits : (m : ℕ) → v m < 2 ^ width_at netlist m) where
  at_width : (m width : ℕ) → width_at netlist m ≡ width → v m < 2 ^ width
  at_width m width e = subst (λ w. v m < 2 ^ w) e (fits m)

  pub case_fits : (width sel key : ℕ) (rows : List (ℕ × ℕ)) (rest : Option ℕ) → RowsFit netlist sel width rows → RestFits netlist width rest → case_value v key rows rest < 2 ^ width
  case_fits width sel key [] None h r = pow_pos width
  case_fits width sel key [] (Some n) h r = at_width n width r.1
  case_fits width sel key (row ∷ rows) rest h r =
      cond_below (row.0 == key) _ _ (2 ^ width) (at_width row.1 width h.1.1) (case_fits width sel key rows rest h.2 r)

  pub bus_fits : (width : ℕ) (drivers : List (ℕ × ℕ)) → DriversFit netlist width drivers → bus_value v drivers < 2 ^ width
  bus_fits width [] h = pow_pos width
  bus_fits width (driver ∷ drivers) h =
      cond_below (v driver.1 == 1) _ _ (2 ^ width) (at_width driver.0 width h.0.1) (bus_fits width drivers h.2)

  pub gate_fits : StateFits netlist s → WordFits netlist word → (width : ℕ) (gate : Gate) → 1 ≤ width → GateFits netlist width gate → gate_value v netlist s word width gate < 2 ^ width
  gate_fits f w width (Word code) p g = subst (λ n. word < 2 ^ n) g (w.fits code (omega (arith, g, p)))
  gate_fits f w width (Reg id) p g = subst (λ n. slice_index s.regs id < 2 ^ n) g (f.regs id)
  gate_fits f w width (Read memory addr) p g = subst (λ n. slice_index (held s (space_at netlist memory)) (v addr) < 2 ^ n) g.1 (f.cells (space_at netlist memory) (v addr))
  gate_fits f w width (Const c) p g = g
  gate_fits f w width (Wire a) p g = at_width a width g.1
  gate_fits f w width (Un op a) p g = apply1_fits op width (v a)
  gate_fits f w width (Bin op a b) p g =
      subst (λ n. apply2_of op (width_at netlist a) (v a) (v b) < 2 ^ n) g.2 (apply2_fits op (width_at netlist a) (v a) (v b) (fits a) (at_width b _ g.1.1))
  gate_fits f w width (Slice of hi lo) p g = subst (λ n. slice_of (v of) hi lo < 2 ^ n) g.3 (mod_below _ _ (pow_pos (hi + 1 - lo)))
  gate_fits f w width (Cat a b) p g = subst (λ n. cat_of (v a) (v b) (width_at netlist b) < 2 ^ n) g.2 (cat_below (v a) (v b) _ _ (fits a) (fits b))
  gate_fits f w width (Zext a) p g =
      let q : 2 ^ width_at netlist a ≤ 2 ^ width = pow-le-pow_right (lit< tt) (omega (arith, g.1)) in
      omega (arith, q, fits a)
  gate_fits f w width (Sext a) p g = sext_below (v a) (width_at netlist a) width (omega (arith, g.1)) (fits a)
  gate_fits f w width (Case sel rows rest) p g = case_fits width (width_at netlist sel) (v sel) rows rest g.1 g.2
  gate_fits f w width (Bus drivers) p g = bus_fits width drivers g

  pub net_fits : StateFits netlist s → WordFits netlist word → (net : Option Net) → NetFits netlist net → net_value v netlist s word net < 2 ^ net_width net
  net_fits f w None t = pow_pos 0
  net_fits f w (Some net) t = gate_fits f w net.width net.gate t.0 t.2

pub value_fits : (netlist : Netlist) (s : State) (word : ℕ) → IsTyped netlist → StateFits netlist s → WordFits netlist word → (k n : ℕ) → value_within k netlist s word n < 2 ^ width_at netlist n
value_fits netlist s word t f w zero n = pow_pos (width_at netlist n)
value_fits netlist s word t f w (suc k) n =
    net_fits netlist s word (value_within k netlist s word) (value_fits netlist s word t f w k) f w (slice_get netlist.nets n) (t.nets n)

typed_at : (netlist : Netlist) (net : Option Net) (x : Net) → net ≡ Some x → NetFits netlist net → (1 ≤ net_width net) × (net_width net ≤ 64)
typed_at netlist net x e t =
    let u : NetFits netlist (Some x) = subst (λ o. NetFits netlist o) e t in
    subst (λ o. (1 ≤ net_width o) × (net_width o ≤ 64)) (sym e) (u.0, u.1)

-- the width of a net that is there
pub typed_width : (netlist : Netlist) (n : ℕ) → IsTyped netlist → n < length netlist.nets → (1 ≤ width_at netlist n) × (width_at netlist n ≤ 64)
typed_width netlist n t h =
    elim (slice_get_cases netlist.nets n).1 as (λ _. (1 ≤ width_at netlist n) × (width_at netlist n ≤ 64)) [
      | inl w ↦ typed_at netlist (slice_get netlist.nets n) w.0 w.2 (t.nets n)
      | inr w ↦ absurd (omega (arith, w.0))
    ]

-- ---- values of 0

pub zeros_fit : (netlist : Netlist) (n : ℕ) → ValuesFit netlist (slice_index (replicate n 0))
zeros_fit netlist n = record { fits = λ m. rw zeros_at (pow_pos (width_at netlist m)) }
