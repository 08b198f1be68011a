-- No expression of a netlist reads a register past its storages.
use Rattle.std.proofs.Common.{◌≡◌, ℕ, zero, suc, ◌+◌, ◌≤◌, ◌==◌, ◌&&◌, Bool, true, false, cond, List, [], ◌∷◌, ◌<◌, length, slice_get, Option, Some, None, refl, arith}
use Rattle.std.proofs.lemmas.Bool.{or_from, ne_eqb}
use Rattle.net_model.specs.declared.hardware.Netlist.{Netlist}
use Rattle.net_model.specs.declared.hardware.Net.{Net}
use Rattle.net_model.specs.declared.hardware.Gate.{Gate}
use Rattle.net_model.specs.declared.hardware.Gate.TheVariants.{Word, Reg, Read, Const, Wire, Un, Bin, Slice, Cat, Zext, Sext, Case, Bus}
use Rattle.net_model.specs.declared.hardware.Storage.{Storage}
use Rattle.net_model.specs.declared.hardware.Storage.TheVariants.{Register, Memory, File}
use Rattle.net_model.specs.declared.hardware.Cells.{Cells}
use Rattle.net_model.specs.Nets.{storage_bits}
use Rattle.net_model.specs.Widths.{GateFits, NetFits, IsTyped}
use Rattle.net_model.specs.Exprs.{ExprModel, word, reg, const, read, un, bin, slice, cat, zext, sext, select, expr_width, TransferModel, keep, write, write_at}
use Rattle.net_model.specs.Value.{value_within, value_of}
use Rattle.net_model.specs.Symbolic.{sliced, no_state, is_static, case_expr, bus_expr, gate_expr, net_expr, sym_within, sym_of}
use Rattle.net_model.specs.Clock.{is_enabled}
use Rattle.net_model.specs.Transfers.{same_reg, array_transfer, storage_transfer, transfer_of, transfer_at}
use Rattle.net_model.specs.Occurs.{occurs, transfer_occurs}

-- a storage of some width is one of the netlist's
pub wide_within : (storages : List Storage) (id : ℕ) → 1 ≤ storage_bits (slice_get storages id) → id < length storages
wide_within [] id h = absurd (omega (arith, h))
wide_within (s ∷ storages) zero h = omega arith
wide_within (s ∷ storages) (suc id) h = omega (arith, wide_within storages id h)

module _ (r : ℕ) where
  pick : (b : Bool) (a c : ExprModel) → occurs r a ≡ false → occurs r c ≡ false → occurs r (cond b a c) ≡ false
  pick true a c h k = h
  pick false a c h k = k

  sliced_far : (a : ExprModel) (hi lo : ℕ) → occurs r a ≡ false → occurs r (sliced a hi lo) ≡ false
  sliced_far (slice a h l) hi lo f = f
  sliced_far (word w) hi lo f = pick ((lo == 0) && (hi + 1 == w)) (word w) (slice (word w) hi lo) f f
  sliced_far (reg q w) hi lo f = pick ((lo == 0) && (hi + 1 == w)) (reg q w) (slice (reg q w) hi lo) f f
  sliced_far (const w v) hi lo f = pick ((lo == 0) && (hi + 1 == w)) (const w v) (slice (const w v) hi lo) f f
  sliced_far (read space a w) hi lo f = pick ((lo == 0) && (hi + 1 == w)) (read space a w) (slice (read space a w) hi lo) f f
  sliced_far (un o a) hi lo f = pick ((lo == 0) && (hi + 1 == expr_width (un o a))) (un o a) (slice (un o a) hi lo) f f
  sliced_far (bin o a b) hi lo f = pick ((lo == 0) && (hi + 1 == expr_width (bin o a b))) (bin o a b) (slice (bin o a b) hi lo) f f
  sliced_far (cat a b) hi lo f = pick ((lo == 0) && (hi + 1 == expr_width (cat a b))) (cat a b) (slice (cat a b) hi lo) f f
  sliced_far (zext a w) hi lo f = pick ((lo == 0) && (hi + 1 == w)) (zext a w) (slice (zext a w) hi lo) f f
  sliced_far (sext a w) hi lo f = pick ((lo == 0) && (hi + 1 == w)) (sext a w) (slice (sext a w) hi lo) f f
  sliced_far (select c a b) hi lo f = pick ((lo == 0) && (hi + 1 == expr_width (select c a b))) (select c a b) (slice (select c a b) hi lo) f f

  module _ (netlist : Netlist) (far : length netlist.storages ≤ r) where
    module _ (t : ℕ → ExprModel) (u : ℕ → ℕ) (f : ℕ → Bool) (h : (m : ℕ) → occurs r (t m) ≡ false) where
      case_far : (width key : ℕ) (rows : List (ℕ × ℕ)) (rest : Option ℕ) → occurs r (case_expr t width key rows rest) ≡ false
      case_far width key [] None = refl
      case_far width key [] (Some n) = h n
      case_far width key (row ∷ rows) rest = pick (row.0 == key) (t row.1) (case_expr t width key rows rest) (h row.1) (case_far width key rows rest)

      bus_far : (width : ℕ) (drivers : List (ℕ × ℕ)) → occurs r (bus_expr t u width drivers) ≡ false
      bus_far width [] = refl
      bus_far width (driver ∷ drivers) = pick (u driver.1 == 1) (t driver.0) (bus_expr t u width drivers) (h driver.0) (bus_far width drivers)

      gate_far : (width : ℕ) (gate : Gate) → 1 ≤ width → GateFits netlist width gate → occurs r (gate_expr t u f netlist width gate) ≡ false
      gate_far width (Word code) p g = refl
      gate_far width (Reg id) p g = ne_eqb id r (λ e. absurd (omega (arith, wide_within netlist.storages id (omega (arith, p, g)), far, e)))
      gate_far width (Read memory addr) p g = h addr
      gate_far width (Const c) p g = refl
      gate_far width (Wire a) p g = h a
      gate_far width (Un op a) p g = h a
      gate_far width (Bin op a b) p g = or_from _ _ (h a) (h b)
      gate_far width (Slice of hi lo) p g = sliced_far (t of) hi lo (h of)
      gate_far width (Cat a b) p g = or_from _ _ (h a) (h b)
      gate_far width (Zext a) p g = h a
      gate_far width (Sext a) p g = h a
      gate_far width (Case sel rows rest) p g =
          pick (f sel) (case_expr t width (u sel) rows rest) (select (t sel) (case_expr t width 1 rows rest) (case_expr t width 0 rows rest))
          (case_far width (u sel) rows rest) (or_from _ _ (h sel) (or_from _ _ (case_far width 1 rows rest) (case_far width 0 rows rest)))
      gate_far width (Bus drivers) p g = bus_far width drivers

      net_far : (net : Option Net) → NetFits netlist net → occurs r (net_expr t u f netlist net) ≡ false
      net_far None p = refl
      net_far (Some net) p = gate_far net.width net.gate p.0 p.2

    sym_far : (i : ℕ) → ((n : ℕ) → NetFits netlist (slice_get netlist.nets n)) → (k n : ℕ) → occurs r (sym_within k netlist i n) ≡ false
    sym_far i nets zero n = refl
    sym_far i nets (suc k) n =
        net_far (sym_within k netlist i) (value_within k netlist no_state i) (is_static netlist) (sym_far i nets k) (slice_get netlist.nets n) (nets n)

    choose : (b : Bool) (m n : TransferModel) → transfer_occurs r m ≡ false → transfer_occurs r n ≡ false → transfer_occurs r (cond b m n) ≡ false
    choose true m n h k = h
    choose false m n h k = k

    array_far : (t : ℕ → ExprModel) (u : ℕ → ℕ) → ((m : ℕ) → occurs r (t m) ≡ false) → (cells : Cells) → transfer_occurs r (array_transfer t u cells) ≡ false
    array_far t u h cells =
        choose (is_enabled u cells.when) (write_at (t cells.addr) (t cells.value)) keep (or_from _ _ (h cells.addr) (h cells.value)) refl

    storage_far : (t : ℕ → ExprModel) (u : ℕ → ℕ) (id : ℕ) → ((m : ℕ) → occurs r (t m) ≡ false) → (storage : Storage) → transfer_occurs r (storage_transfer t u id storage) ≡ false
    storage_far t u id h (Register name width input when) =
        choose (is_enabled u when) (cond (same_reg (t input) id) keep (write (t input))) keep (choose (same_reg (t input) id) keep (write (t input)) refl (h input)) refl
    storage_far t u id h (Memory cells) = array_far t u h cells
    storage_far t u id h (File cells) = array_far t u h cells

    -- a transfer reads no register past the storages
    pub reads_far : IsTyped netlist → (i id : ℕ) → transfer_occurs r (transfer_at netlist i id) ≡ false
    reads_far typed i id = by (slice_get netlist.storages id)
      where
        by : (o : Option Storage) → transfer_occurs r (transfer_of netlist i id o) ≡ false
        by None = refl
        by (Some storage) = storage_far (sym_of netlist i) (value_of netlist no_state i) id (sym_far i typed.nets (length netlist.nets)) storage
