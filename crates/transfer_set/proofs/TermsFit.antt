-- The operators in a netlist's expressions get operands of the widths that they ask for, and so do
-- those in its transfers.
use Rattle.std.proofs.Common.{◌≡◌, ℕ, zero, suc, ◌+◌, ◌<◌, ◌≤◌, ◌==◌, ◌&&◌, Bool, true, false, cond, List, [], ◌∷◌, length, Option, Some, None, slice_get, refl, sym, ◌∙◌, ap, subst, arith}
use Rattle.std.specs.List.{AllByRecursion}
use Rattle.std.proofs.lemmas.Nat.{pow_pos}
use Rattle.rec_bits.proofs.Lists.{there}
use Rattle.net_model.specs.declared.hardware.Netlist.{Netlist}
use Rattle.net_model.specs.declared.hardware.Gate.{Gate}
use Rattle.net_model.specs.declared.hardware.Gate.TheVariants.{Word, Reg, Read, Const, Wire, Un, Bin, Slice, Cat, Zext, Sext, Case, Bus}
use Rattle.net_model.specs.declared.hardware.Cells.{Cells}
use Rattle.net_model.specs.declared.hardware.Storage.{Storage}
use Rattle.net_model.specs.declared.hardware.Storage.TheVariants.{Register, Memory, File}
use Rattle.net_model.specs.Clock.{is_enabled}
use Rattle.net_model.specs.Control.{GateControlled, IsSound}
use Rattle.net_model.specs.Nets.{net_width, width_at}
use Rattle.net_model.specs.Symbolic.{no_state, bus_expr, case_expr, gate_expr, is_static, net_expr, sliced, sym_of, sym_within}
use Rattle.net_model.specs.Exprs.{ExprModel, word, reg, const, read, un, bin, slice, cat, zext, sext, select, expr_width, keep, write, write_at}
use Rattle.net_model.specs.Transfers.{array_transfer, transfer_at, same_reg, storage_transfer, transfer_of}
use Rattle.net_model.specs.Value.{value_of, value_within}
use Rattle.net_model.specs.Widths.{ArrayFits, DriversFit, GateFits, HasWidth, NetFits, RestFits, RowsFit, StorageFits}
use Rattle.net_model.proofs.GateControls.{gate_controlled, is_bit}
use Rattle.net_model.proofs.Meanings.{width_is}
use Rattle.sym_expr.specs.Pools.{ExprFits}
use Rattle.transfer_set.specs.Inner.Widths.{TransferFits}

-- ---- slices

pick : {X : Type 0} (P : X → Type 0) (b : Bool) (x y : X) → P x → P y → P (cond b x y)
pick P true x y h k = h
pick P false x y h k = k

sliced_fits : (a : ExprModel) (hi lo : ℕ) → ExprFits a → lo ≤ hi → hi < expr_width a → ExprFits (sliced a hi lo)
sliced_fits (slice a h l) hi lo f p q = (f.0, (let c = f.1.0 in let d = f.1.1 in (omega (arith, p), omega (arith, q, c, d))))
sliced_fits (word w) hi lo f p q = pick ExprFits ((lo == 0) && (hi + 1 == expr_width (word w))) (word w) (slice (word w) hi lo) f (f, (p, q))
sliced_fits (reg r w) hi lo f p q = pick ExprFits ((lo == 0) && (hi + 1 == expr_width (reg r w))) (reg r w) (slice (reg r w) hi lo) f (f, (p, q))
sliced_fits (const w v) hi lo f p q = pick ExprFits ((lo == 0) && (hi + 1 == expr_width (const w v))) (const w v) (slice (const w v) hi lo) f (f, (p, q))
sliced_fits (read space a w) hi lo f p q = pick ExprFits ((lo == 0) && (hi + 1 == expr_width (read space a w))) (read space a w) (slice (read space a w) hi lo) f (f, (p, q))
sliced_fits (un o a) hi lo f p q = pick ExprFits ((lo == 0) && (hi + 1 == expr_width (un o a))) (un o a) (slice (un o a) hi lo) f (f, (p, q))
sliced_fits (bin o a b) hi lo f p q = pick ExprFits ((lo == 0) && (hi + 1 == expr_width (bin o a b))) (bin o a b) (slice (bin o a b) hi lo) f (f, (p, q))
sliced_fits (cat a b) hi lo f p q = pick ExprFits ((lo == 0) && (hi + 1 == expr_width (cat a b))) (cat a b) (slice (cat a b) hi lo) f (f, (p, q))
sliced_fits (zext a w) hi lo f p q = pick ExprFits ((lo == 0) && (hi + 1 == expr_width (zext a w))) (zext a w) (slice (zext a w) hi lo) f (f, (p, q))
sliced_fits (sext a w) hi lo f p q = pick ExprFits ((lo == 0) && (hi + 1 == expr_width (sext a w))) (sext a w) (slice (sext a w) hi lo) f (f, (p, q))
sliced_fits (select c a b) hi lo f p q = pick ExprFits ((lo == 0) && (hi + 1 == expr_width (select c a b))) (select c a b) (slice (select c a b) hi lo) f (f, (p, q))

-- ---- gates

module _ (netlist : Netlist) (sound : IsSound netlist) where
  module _ (t : ℕ → ExprModel) (u : ℕ → ℕ) (h : (m : ℕ) → m < length netlist.nets → ExprFits (t m)) (wide : (m : ℕ) → expr_width (t m) ≡ width_at netlist m) where
    -- a row of a case has the case's width
    record Row (width : ℕ) (e : ExprModel) : Type 0 where
      fits : ExprFits e
      same : expr_width e ≡ width

    row_of : (width n : ℕ) → HasWidth netlist n width → Row width (t n)
    row_of width n g = record { fits = h n g.0; same = wide n ∙ g.1 }

    none_of : (width : ℕ) → 1 ≤ width → width ≤ 64 → Row width (const width 0)
    none_of width p q = record { fits = (p, q, pow_pos width); same = refl }

    case_of : (width sel key : ℕ) (rows : List (ℕ × ℕ)) (rest : Option ℕ) → 1 ≤ width → width ≤ 64 → RowsFit netlist sel width rows → RestFits netlist width rest → Row width (case_expr t width key rows rest)
    case_of width sel key [] None p q r s = none_of width p q
    case_of width sel key [] (Some n) p q r s = row_of width n s
    case_of width sel key (row ∷ rows) rest p q r s = pick (Row width) (row.0 == key) _ _ (row_of width row.1 r.1) (case_of width sel key rows rest p q r.2 s)

    bus_of : (width : ℕ) (drivers : List (ℕ × ℕ)) → 1 ≤ width → width ≤ 64 → DriversFit netlist width drivers → ExprFits (bus_expr t u width drivers)
    bus_of width [] p q g = (none_of width p q).fits
    bus_of width (driver ∷ drivers) p q g = pick ExprFits (u driver.1 == 1) _ _ (h driver.0 g.0.0) (bus_of width drivers p q g.2)

    gate_of : (width : ℕ) (gate : Gate) → 1 ≤ width → width ≤ 64 → GateFits netlist width gate → GateControlled netlist gate → ExprFits (gate_expr t u (is_static netlist) netlist width gate)
    gate_of width (Word code) p q g c = (p, q)
    gate_of width (Reg id) p q g c = (p, q)
    gate_of width (Read memory addr) p q g c = (h addr g.0, (p, q))
    gate_of width (Const v) p q g c = (p, q, g)
    gate_of width (Wire a) p q g c = h a g.0
    gate_of width (Un op a) p q g c = h a g.0
    gate_of width (Bin op a b) p q g c = (h a g.0, h b g.1.0, wide b ∙ g.1.1 ∙ sym (wide a))
    gate_of width (Slice of hi lo) p q g c = sliced_fits (t of) hi lo (h of g.0) g.1 (let e = wide of in let l = g.2 in omega (arith, e, l))
    gate_of width (Cat a b) p q g c = (h a g.0, h b g.1, (let d = wide a in let e = wide b in let l = g.2 in omega (arith, d, e, l, q)))
    gate_of width (Zext a) p q g c = (h a g.0, ((let e = wide a in let l = g.1 in omega (arith, e, l)), q))
    gate_of width (Sext a) p q g c = (h a g.0, ((let e = wide a in let l = g.1 in omega (arith, e, l)), q))
    gate_of width (Case sel rows rest) p q g c = by (is_static netlist sel) refl
      where
        row : (key : ℕ) → Row width (case_expr t width key rows rest)
        row key = case_of width (width_at netlist sel) key rows rest p q g.1 g.2

        by : (b : Bool) → is_static netlist sel ≡ b → ExprFits (cond b (case_expr t width (u sel) rows rest) (select (t sel) (case_expr t width 1 rows rest) (case_expr t width 0 rows rest)))
        by true e = (row (u sel)).fits
        by false e = (h sel g.0, (row 1).fits, (row 0).fits, (wide sel ∙ is_bit netlist sel c.selectors.0 e, (row 0).same ∙ sym (row 1).same))
    gate_of width (Bus drivers) p q g c = bus_of width drivers p q g

  within_fits : (i k n : ℕ) → n < length netlist.nets → ExprFits (sym_within k netlist i n)
  within_fits i zero n lt =
      let net = there netlist.nets n lt in
      let w : width_at netlist n ≡ net.0.width = ap net_width net.1 in
      let f : NetFits netlist (Some net.0) = subst (NetFits netlist) net.1 (sound.typed.nets n) in
      let some = f.0 in
      let few = f.1 in
      (omega (arith, w, some), omega (arith, w, few), pow_pos (width_at netlist n))
  within_fits i (suc k) n lt =
      let net = there netlist.nets n lt in
      let f : NetFits netlist (Some net.0) = subst (NetFits netlist) net.1 (sound.typed.nets n) in
      subst (λ o. ExprFits (net_expr (sym_within k netlist i) (value_within k netlist no_state i) (is_static netlist) netlist o)) (sym net.1)
      (gate_of (sym_within k netlist i) (value_within k netlist no_state i) (within_fits i k) (width_is netlist i sound.typed k) net.0.width net.0.gate f.0 f.1 f.2
      (gate_controlled netlist sound.controlled n net.0 net.1))

  sym_fits : (i n : ℕ) → n < length netlist.nets → ExprFits (sym_of netlist i n)
  sym_fits i n lt = within_fits i (length netlist.nets) n lt

  -- ---- transfers

  array_of : (i : ℕ) (cells : Cells) → ArrayFits netlist cells → TransferFits (array_transfer (sym_of netlist i) (value_of netlist no_state i) cells)
  array_of i cells f =
      pick TransferFits (is_enabled (value_of netlist no_state i) cells.when) (write_at (sym_of netlist i cells.addr) (sym_of netlist i cells.value)) keep
      (sym_fits i cells.addr f.1.0, sym_fits i cells.value f.0.0) tt

  storage_of : (i id : ℕ) (storage : Storage) → StorageFits netlist storage → TransferFits (storage_transfer (sym_of netlist i) (value_of netlist no_state i) id storage)
  storage_of i id (Register name width input when) f =
      pick TransferFits (is_enabled (value_of netlist no_state i) when) _ keep
      (pick TransferFits (same_reg (sym_of netlist i input) id) keep (write (sym_of netlist i input)) tt (sym_fits i input f.0.0)) tt
  storage_of i id (Memory cells) f = array_of i cells f
  storage_of i id (File cells) f = array_of i cells f

  storages_of : (i id : ℕ) (storages : List Storage) (k : ℕ) → AllByRecursion (StorageFits netlist) storages → TransferFits (transfer_of netlist i id (slice_get storages k))
  storages_of i id [] k f = tt
  storages_of i id (storage ∷ storages) zero f = storage_of i id storage f.0
  storages_of i id (storage ∷ storages) (suc k) f = storages_of i id storages k f.1

  -- what a storage does under a word
  pub move_fits : (i id : ℕ) → TransferFits (transfer_at netlist i id)
  move_fits i id = storages_of i id netlist.storages id sound.typed.storages
