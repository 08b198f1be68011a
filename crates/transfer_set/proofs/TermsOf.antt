-- The symbolic values of a netlist's nets are its expressions, and so are those of its transfers.
use Rattle.std.proofs.Common.{◌≡◌, ℕ, zero, suc, ◌+◌, ◌^◌, ◌<◌, ◌≤◌, ◌==◌, ◌&&◌, inl, inr, Bool, true, false, cond, List, [], ◌∷◌, length, Option, Some, None, slice_get, sym, ap, arith}
use Rattle.std.proofs.lemmas.Option.{slice_get_cases, slice_get_past}
use Rattle.rec_bits.proofs.Bits.{below_64}
use Rattle.net_model.proofs.Storages.{wide_place}
use Rattle.net_model.specs.declared.hardware.Netlist.{Netlist}
use Rattle.net_model.specs.declared.hardware.Net.{Net}
use Rattle.net_model.specs.declared.hardware.Gate.{Gate}
use Rattle.net_model.specs.declared.hardware.Gate.TheVariants.{Word, Reg, Read, Const, Wire, Un, Bin, Slice, Cat, Zext, Sext, Case, Bus}
use Rattle.net_model.specs.declared.hardware.Storage.{Storage}
use Rattle.net_model.specs.declared.hardware.Storage.TheVariants.{Register, Memory, File}
use Rattle.net_model.specs.declared.hardware.Cells.{Cells}
use Rattle.net_model.specs.CheckedRules.{KeepsRules}
use Rattle.net_model.specs.Nets.{code_bits, net_width, storage_bits, width_at, word_width, space_at}
use Rattle.net_model.specs.Symbolic.{no_state, bus_expr, case_expr, gate_expr, is_static, net_expr, sliced, sym_of, sym_within}
use Rattle.net_model.specs.Exprs.{ExprModel, reg, slice, expr_width, TransferModel, keep, write, write_at}
use Rattle.net_model.specs.Clock.{is_enabled}
use Rattle.net_model.specs.Transfers.{transfer_at, same_reg, array_transfer, storage_transfer, transfer_of}
use Rattle.net_model.specs.Value.{value_of, value_within}
use Rattle.net_model.specs.Widths.{GateFits, IsTyped, NetFits}
use Rattle.net_model.proofs.KeptRules.{typed_of}
use Rattle.net_model.proofs.Meanings.{width_is}
use Rattle.transfer_set.specs.TextMarks.{IsTransferOf, IsExprOf}

-- ---- numbers

small : (w : ℕ) → w ≤ 64 → w < 2 ^ 64
small w h = omega arith

-- a net has at most 64 bits, and none where there is no net
pub narrow : (netlist : Netlist) (net : Option Net) → NetFits netlist net → net_width net ≤ 64
narrow netlist None p = omega arith
narrow netlist (Some net) p = p.1

module _ (netlist : Netlist) where
  pick : (b : Bool) (a c : ExprModel) → IsExprOf netlist a → IsExprOf netlist c → IsExprOf netlist (cond b a c)
  pick true a c h k = h
  pick false a c h k = k

  -- ---- slices

  plain_slice : (a : ExprModel) (hi lo : ℕ) → IsExprOf netlist a → expr_width a ≤ 64 → lo ≤ hi → hi < expr_width a
      → IsExprOf netlist (cond ((lo == 0) && (hi + 1 == expr_width a)) a (slice a hi lo))
  plain_slice a hi lo f w p q =
      pick ((lo == 0) && (hi + 1 == expr_width a)) a (slice a hi lo) f (f, small hi (omega (arith, w, q)), small lo (omega (arith, w, p, q)))

  -- the ends of a slice of a slice lie between those of the inner one
  slice_of : (a : ExprModel) (hi lo : ℕ) → IsExprOf netlist a → expr_width a ≤ 64 → lo ≤ hi → hi < expr_width a → IsExprOf netlist (sliced a hi lo)
  slice_of (slice a h l) hi lo f w p q = (f.0, omega (arith, f.1, q), omega (arith, f.1, p, q))
  slice_of a hi lo f w p q = plain_slice a hi lo f w p q

module _ (netlist : Netlist) (typed : IsTyped netlist) (one : length netlist.codes ≡ 1) where
  narrow_at : (n : ℕ) → width_at netlist n ≤ 64
  narrow_at n = narrow netlist (slice_get netlist.nets n) (typed.nets n)

  -- ---- leaves

  word_of : (code width : ℕ) → 1 ≤ width → code_bits (slice_get netlist.codes code) ≡ width → width ≡ word_width netlist
  word_of zero width p g = sym g
  word_of (suc code) width p g =
      let e : code_bits (slice_get netlist.codes (suc code)) ≡ 0 = ap code_bits (slice_get_past netlist.codes (suc code) (omega (arith, one))) in
      absurd (omega (arith, e, g, p))

  reg_of : (id width : ℕ) → 1 ≤ width → storage_bits (slice_get netlist.storages id) ≡ width → IsExprOf netlist (reg id width)
  reg_of id width p g =
      elim (slice_get_cases netlist.storages id).1 as (λ _. IsExprOf netlist (reg id width)) [
        | inl w ↦ (w.1, sym g)
        | inr w ↦ (let e : storage_bits (slice_get netlist.storages id) ≡ 0 = ap storage_bits w.1 in absurd (omega (arith, e, g, p)))
      ]

  -- ---- gates

  module _ (t : ℕ → ExprModel) (u : ℕ → ℕ) (f : ℕ → Bool) (h : (m : ℕ) → IsExprOf netlist (t m)) (wide : (m : ℕ) → expr_width (t m) ≡ width_at netlist m) where
    case_of : (width key : ℕ) (rows : List (ℕ × ℕ)) (rest : Option ℕ) → width ≤ 64 → IsExprOf netlist (case_expr t width key rows rest)
    case_of width key [] None p = (small width p, small 0 (omega arith))
    case_of width key [] (Some n) p = h n
    case_of width key (row ∷ rows) rest p = pick netlist (row.0 == key) _ _ (h row.1) (case_of width key rows rest p)

    bus_of : (width : ℕ) (drivers : List (ℕ × ℕ)) → width ≤ 64 → IsExprOf netlist (bus_expr t u width drivers)
    bus_of width [] p = (small width p, small 0 (omega arith))
    bus_of width (driver ∷ drivers) p = pick netlist (u driver.1 == 1) _ _ (h driver.0) (bus_of width drivers p)

    gate_of : (width : ℕ) (gate : Gate) → 1 ≤ width → width ≤ 64 → GateFits netlist width gate → IsExprOf netlist (gate_expr t u f netlist width gate)
    gate_of width (Word code) p q g = word_of code width p g
    gate_of width (Reg id) p q g = reg_of id width p g
    gate_of width (Read memory addr) p q g = (h addr, sym g.1, wide_place (space_at netlist memory) netlist.storages (omega (arith, p, g.1)))
    gate_of width (Const c) p q g = (small width q, below_64 c width q g)
    gate_of width (Wire a) p q g = h a
    gate_of width (Un op a) p q g = h a
    gate_of width (Bin op a b) p q g = (h a, h b)
    gate_of width (Slice of hi lo) p q g = slice_of netlist (t of) hi lo (h of) (omega (arith, wide of, narrow_at of)) g.1 (omega (arith, g.2, wide of))
    gate_of width (Cat a b) p q g = (h a, h b)
    gate_of width (Zext a) p q g = (h a, small width q)
    gate_of width (Sext a) p q g = (h a, small width q)
    gate_of width (Case sel rows rest) p q g =
        pick netlist (f sel) _ _ (case_of width (u sel) rows rest q) ((h sel, case_of width 1 rows rest q, case_of width 0 rows rest q))
    gate_of width (Bus drivers) p q g = bus_of width drivers q

    net_of : (net : Option Net) → NetFits netlist net → IsExprOf netlist (net_expr t u f netlist net)
    net_of None p = (small 0 (omega arith), small 0 (omega arith))
    net_of (Some net) p = gate_of net.width net.gate p.0 p.1 p.2

  within : (i k n : ℕ) → IsExprOf netlist (sym_within k netlist i n)
  within i zero n = (small (width_at netlist n) (narrow_at n), small 0 (omega arith))
  within i (suc k) n =
      net_of (sym_within k netlist i) (value_within k netlist no_state i) (is_static netlist) (within i k) (width_is netlist i typed k) (slice_get netlist.nets n) (typed.nets n)

-- the symbolic value of each net under each word; where there is no net it is a constant of no bits
sym_exprs : (netlist : Netlist) (order : List ℕ) → KeepsRules netlist order → (i n : ℕ) → IsExprOf netlist (sym_of netlist i n)
sym_exprs netlist order k i n = within netlist (typed_of netlist k.formed k.roles) k.roles.code i (length netlist.nets) n

-- ---- transfers

choose : (netlist : Netlist) (b : Bool) (m n : TransferModel) → IsTransferOf netlist m → IsTransferOf netlist n → IsTransferOf netlist (cond b m n)
choose netlist true m n h k = h
choose netlist false m n h k = k

array_of_exprs : (netlist : Netlist) (t : ℕ → ExprModel) (u : ℕ → ℕ) → ((m : ℕ) → IsExprOf netlist (t m)) → (cells : Cells) → IsTransferOf netlist (array_transfer t u cells)
array_of_exprs netlist t u h cells =
    choose netlist (is_enabled u cells.when) (write_at (t cells.addr) (t cells.value)) keep (h cells.addr, h cells.value) tt

storage_of : (netlist : Netlist) (t : ℕ → ExprModel) (u : ℕ → ℕ) (id : ℕ) → ((m : ℕ) → IsExprOf netlist (t m)) → (storage : Storage) → IsTransferOf netlist (storage_transfer t u id storage)
storage_of netlist t u id h (Register name width input when) =
    choose netlist (is_enabled u when) _ keep (choose netlist (same_reg (t input) id) keep (write (t input)) tt (h input)) tt
storage_of netlist t u id h (Memory cells) = array_of_exprs netlist t u h cells
storage_of netlist t u id h (File cells) = array_of_exprs netlist t u h cells

-- what each storage does under each word
pub move_exprs : (netlist : Netlist) (order : List ℕ) → KeepsRules netlist order → (i id : ℕ) → IsTransferOf netlist (transfer_at netlist i id)
move_exprs netlist order k i id = by (slice_get netlist.storages id)
  where
    by : (o : Option Storage) → IsTransferOf netlist (transfer_of netlist i id o)
    by None = tt
    by (Some storage) = storage_of netlist (sym_of netlist i) (value_of netlist no_state i) id (sym_exprs netlist order k i) storage
