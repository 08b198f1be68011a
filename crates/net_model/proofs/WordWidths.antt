-- The words of symbolic values have the width of the code.
use Rattle.std.proofs.Common.{◌≡◌, ℕ, zero, suc, ◌+◌, ◌<◌, ◌≤◌, ◌^◌, ◌==◌, ◌&&◌, Bool, true, false, cond, List, [], ◌∷◌, length, slice_get, Option, Some, None, refl, ap, subst, arith}
use Rattle.std.specs.List.{AllByRecursion}
use Rattle.net_model.specs.declared.hardware.Netlist.{Netlist}
use Rattle.net_model.specs.declared.hardware.Net.{Net}
use Rattle.net_model.specs.declared.hardware.Code.{Code}
use Rattle.net_model.specs.declared.hardware.Gate.{Gate}
use Rattle.net_model.specs.declared.hardware.Gate.TheVariants.{Word, Reg, Read, Const, Wire, Un, Bin, Slice, Cat, Zext, Sext, Case, Bus}
use Rattle.net_model.specs.declared.hardware.Storage.{Storage}
use Rattle.net_model.specs.declared.hardware.Storage.TheVariants.{Register, Memory, File}
use Rattle.net_model.specs.declared.hardware.Cells.{Cells}
use Rattle.net_model.specs.Exprs.{ExprModel, word, reg, const, read, un, bin, slice, cat, zext, sext, select, expr_width, TransferModel, keep, write, write_at}
use Rattle.net_model.specs.Nets.{code_bits, word_width}
use Rattle.net_model.specs.Value.{value_within, value_of}
use Rattle.net_model.specs.CheckedRules.{CodeKeeps, KeepsRules}
use Rattle.net_model.specs.Widths.{GateFits, NetFits, IsTyped, WordFits}
use Rattle.net_model.specs.Symbolic.{sliced, no_state, is_static, case_expr, bus_expr, gate_expr, net_expr, sym_within, sym_of}
use Rattle.net_model.specs.Clock.{is_enabled}
use Rattle.net_model.specs.Transfers.{IsClean, same_reg, array_transfer, storage_transfer, transfer_of, transfer_at}
use Rattle.net_model.specs.Fields.{WordFitsExpr, WordFitsTransfer}

pick : (b : Bool) (a c : ExprModel) (i : ℕ) → WordFitsExpr a i → WordFitsExpr c i → WordFitsExpr (cond b a c) i
pick true a c i h k = h
pick false a c i h k = k

sliced_fits : (a : ExprModel) (hi lo i : ℕ) → WordFitsExpr a i → WordFitsExpr (sliced a hi lo) i
sliced_fits (slice a h l) hi lo i f = f
sliced_fits (word w) hi lo i f = pick ((lo == 0) && (hi + 1 == w)) (word w) (slice (word w) hi lo) i f f
sliced_fits (reg r w) hi lo i f = pick ((lo == 0) && (hi + 1 == w)) (reg r w) (slice (reg r w) hi lo) i f f
sliced_fits (const w v) hi lo i f = pick ((lo == 0) && (hi + 1 == w)) (const w v) (slice (const w v) hi lo) i f f
sliced_fits (read space a w) hi lo i f = pick ((lo == 0) && (hi + 1 == w)) (read space a w) (slice (read space a w) hi lo) i f f
sliced_fits (un o a) hi lo i f = pick ((lo == 0) && (hi + 1 == expr_width (un o a))) (un o a) (slice (un o a) hi lo) i f f
sliced_fits (bin o a b) hi lo i f = pick ((lo == 0) && (hi + 1 == expr_width (bin o a b))) (bin o a b) (slice (bin o a b) hi lo) i f f
sliced_fits (cat a b) hi lo i f = pick ((lo == 0) && (hi + 1 == expr_width (cat a b))) (cat a b) (slice (cat a b) hi lo) i f f
sliced_fits (zext a w) hi lo i f = pick ((lo == 0) && (hi + 1 == w)) (zext a w) (slice (zext a w) hi lo) i f f
sliced_fits (sext a w) hi lo i f = pick ((lo == 0) && (hi + 1 == w)) (sext a w) (slice (sext a w) hi lo) i f f
sliced_fits (select c a b) hi lo i f = pick ((lo == 0) && (hi + 1 == expr_width (select c a b))) (select c a b) (slice (select c a b) hi lo) i f f

module _ (netlist : Netlist) (i : ℕ) (fits : WordFits netlist i) (t : ℕ → ExprModel) (u : ℕ → ℕ) (f : ℕ → Bool) (h : (m : ℕ) → WordFitsExpr (t m) i) where
  case_fits : (width key : ℕ) (rows : List (ℕ × ℕ)) (rest : Option ℕ) → WordFitsExpr (case_expr t width key rows rest) i
  case_fits width key [] None = tt
  case_fits width key [] (Some n) = h n
  case_fits width key (row ∷ rows) rest = pick (row.0 == key) _ _ i (h row.1) (case_fits width key rows rest)

  bus_fits : (width : ℕ) (drivers : List (ℕ × ℕ)) → WordFitsExpr (bus_expr t u width drivers) i
  bus_fits width [] = tt
  bus_fits width (driver ∷ drivers) = pick (u driver.1 == 1) _ _ i (h driver.0) (bus_fits width drivers)

  gate_fits : (width : ℕ) (gate : Gate) → 1 ≤ width → GateFits netlist width gate → WordFitsExpr (gate_expr t u f netlist width gate) i
  gate_fits width (Word code) p g = subst (λ n. i < 2 ^ n) g (fits.fits code (omega (arith, g, p)))
  gate_fits width (Reg id) p g = tt
  gate_fits width (Read memory addr) p g = h addr
  gate_fits width (Const c) p g = tt
  gate_fits width (Wire a) p g = h a
  gate_fits width (Un op a) p g = h a
  gate_fits width (Bin op a b) p g = (h a, h b)
  gate_fits width (Slice of hi lo) p g = sliced_fits (t of) hi lo i (h of)
  gate_fits width (Cat a b) p g = (h a, h b)
  gate_fits width (Zext a) p g = h a
  gate_fits width (Sext a) p g = h a
  gate_fits width (Case sel rows rest) p g =
      pick (f sel) _ _ i (case_fits width (u sel) rows rest) ((h sel, case_fits width 1 rows rest, case_fits width 0 rows rest))
  gate_fits width (Bus drivers) p g = bus_fits width drivers

  net_fits : (net : Option Net) → NetFits netlist net → WordFitsExpr (net_expr t u f netlist net) i
  net_fits None p = tt
  net_fits (Some net) p = gate_fits net.width net.gate p.0 p.2

-- and so does a symbolic value
pub sym_fits : (netlist : Netlist) (i : ℕ) → WordFits netlist i → IsTyped netlist → (k n : ℕ) → WordFitsExpr (sym_within k netlist i n) i
sym_fits netlist i w t zero n = tt
sym_fits netlist i w t (suc k) n =
    net_fits netlist i w (sym_within k netlist i) (value_within k netlist no_state i) (is_static netlist) (sym_fits netlist i w t k) (slice_get netlist.nets n) (t.nets n)

-- ---- transfers

choose : (b : Bool) (m n : TransferModel) (i : ℕ) → WordFitsTransfer m i → WordFitsTransfer n i → WordFitsTransfer (cond b m n) i
choose true m n i h k = h
choose false m n i h k = k

array_fits : (t : ℕ → ExprModel) (u : ℕ → ℕ) (i : ℕ) → ((m : ℕ) → WordFitsExpr (t m) i) → (cells : Cells) → WordFitsTransfer (array_transfer t u cells) i
array_fits t u i h cells =
    choose (is_enabled u cells.when) (write_at (t cells.addr) (t cells.value)) keep i (h cells.addr, h cells.value) tt

storage_fits : (t : ℕ → ExprModel) (u : ℕ → ℕ) (i id : ℕ) → ((m : ℕ) → WordFitsExpr (t m) i) → (storage : Storage) → WordFitsTransfer (storage_transfer t u id storage) i
storage_fits t u i id h (Register name width input when) =
    choose (is_enabled u when) _ keep i (choose (same_reg (t input) id) keep (write (t input)) i tt (h input)) tt
storage_fits t u i id h (Memory cells) = array_fits t u i h cells
storage_fits t u i id h (File cells) = array_fits t u i h cells

-- a transfer of a netlist of these widths names the word with its width
pub move_fits : (netlist : Netlist) (i : ℕ) → WordFits netlist i → IsTyped netlist → (id : ℕ) → WordFitsTransfer (transfer_at netlist i id) i
move_fits netlist i w t id = by (slice_get netlist.storages id)
  where
    by : (o : Option Storage) → WordFitsTransfer (transfer_of netlist i id o) i
    by None = tt
    by (Some storage) = storage_fits (sym_of netlist i) (value_of netlist no_state i) i id (sym_fits netlist i w t (length netlist.nets)) storage

-- ---- words of a lone code

past_none : (codes : List Code) (code : ℕ) → length codes ≤ code → slice_get codes code ≡ None
past_none [] code h = refl
past_none (x ∷ xs) zero h = absurd (omega arith)
past_none (x ∷ xs) (suc code) h = past_none xs code (omega arith)

-- a word of the one code's width fits the netlist
pub word_fits : (netlist : Netlist) (i : ℕ) → length netlist.codes ≡ 1 → i < 2 ^ word_width netlist → WordFits netlist i
word_fits netlist i one h = record { fits = by }
  where
    by : (code : ℕ) → 0 < code_bits (slice_get netlist.codes code) → i < 2 ^ code_bits (slice_get netlist.codes code)
    by zero p = h
    by (suc code) p =
        let e : code_bits (slice_get netlist.codes (suc code)) ≡ 0 = ap code_bits (past_none netlist.codes (suc code) (omega (arith, one))) in
        absurd (omega (arith, e, p))

-- the code of a checked netlist has some bits, and a word without clash is one of its words
some_bits : (netlist : Netlist) (codes : List Code) → length codes ≡ 1 → AllByRecursion (CodeKeeps netlist) codes → 0 < code_bits (slice_get codes 0)
some_bits netlist [] e h = absurd (omega (arith, e))
some_bits netlist (code ∷ codes) e h = omega (arith, h.0.0.0)

pub has_bits : (netlist : Netlist) (order : List ℕ) → KeepsRules netlist order → 0 < word_width netlist
has_bits netlist order kept = some_bits netlist netlist.codes kept.roles.code kept.formed.codes

pub clean_below : (netlist : Netlist) (order : List ℕ) → KeepsRules netlist order → (i : ℕ) → IsClean netlist i → i < 2 ^ word_width netlist
clean_below netlist order kept i clean = clean.fits.fits 0 (has_bits netlist order kept)

-- ---- smaller words

pub less_fits : (t : ExprModel) (i j : ℕ) → j ≤ i → WordFitsExpr t i → WordFitsExpr t j
less_fits (word w) i j h f = omega (arith, h, f)
less_fits (reg r w) i j h f = tt
less_fits (const w v) i j h f = tt
less_fits (read space a w) i j h f = less_fits a i j h f
less_fits (un o a) i j h f = less_fits a i j h f
less_fits (bin o a b) i j h f = (less_fits a i j h f.0, less_fits b i j h f.1)
less_fits (slice a hi lo) i j h f = less_fits a i j h f
less_fits (cat a b) i j h f = (less_fits a i j h f.0, less_fits b i j h f.1)
less_fits (zext a w) i j h f = less_fits a i j h f
less_fits (sext a w) i j h f = less_fits a i j h f
less_fits (select c a b) i j h f = (less_fits c i j h f.0, less_fits a i j h f.1, less_fits b i j h f.2)

pub less_fits_transfer : (move : TransferModel) (i j : ℕ) → j ≤ i → WordFitsTransfer move i → WordFitsTransfer move j
less_fits_transfer keep i j h f = tt
less_fits_transfer (write e) i j h f = less_fits e i j h f
less_fits_transfer (write_at a e) i j h f = (less_fits a i j h f.0, less_fits e i j h f.1)
