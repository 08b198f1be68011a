-- Jumps reach no further than the program counter counts.
use Rattle.std.proofs.Common.{◌≡◌, ℕ, suc, ◌≤◌, ◌<◌, ◌+◌, ◌-◌, ◌*◌, ◌%◌, ◌^◌, ◌==◌, nat_le, Bool, true, false, if◌then◌else◌, List, [], length, Option, Some, None, slice_get, refl, sym, ap, subst, ◌∙◌, arith}
use Rattle.net_model.specs.declared.hardware.Netlist.{Netlist}
use Rattle.net_model.specs.declared.hardware.Cells.{Cells}
use Rattle.net_model.specs.declared.hardware.Storage.{Storage}
use Rattle.net_model.specs.declared.hardware.Storage.TheVariants.{Register, Memory, File}
use Rattle.net_model.specs.CheckedRules.{KeepsRules}
use Rattle.net_model.specs.Nets.{counter_of, counter_width, storage_bits}
use Rattle.net_model.specs.Patterns.{IsPattern, Pattern}
use Rattle.net_model.specs.Symbolic.{no_state, sym_of}
use Rattle.net_model.specs.Value.{value_of}
use Rattle.net_model.specs.Clock.{is_enabled}
use Rattle.std.proofs.Math.Pow.{pow_mono}
use Rattle.std.proofs.lemmas.Nat.{pow_pos}
use Rattle.net_model.specs.Exprs.{ExprModel, word, reg, const, read, un, bin, slice, cat, zext, sext, select, keep, expr_width, write, write_at}
use Rattle.net_model.specs.Transfers.{array_transfer, transfer_at, same_reg, transfer_of}
use Rattle.net_model.specs.Widths.{StorageFits}
use Rattle.net_model.proofs.KeptRules.{sound_of}
use Rattle.net_model.proofs.Meanings.{width_is}
use Rattle.rec_bits.specs.declared.operator.Op2.TheVariants.{Add}
use Rattle.rec_bits.proofs.Lists.{all_at}
use Rattle.form_model.specs.Shapes.{ShapeFits, Sum, SummandFits, moved_reach, reach_of, sum_reach, sum_with, summands}
use Rattle.form_model.proofs.SumNumbers.{IsSumWith, sum_is_with}
use Rattle.std.proofs.Math.Nat.{pow-suc}

-- ---- a field shape shows no more than its width has room for

moved_within : (bits c : ℕ) (t : ExprModel) → SummandFits bits t → c < 2 ^ expr_width t → moved_reach c t ≤ 2 ^ expr_width t
moved_within bits c (const w v) fits lt = by ((c + v) % 2 ^ w == 0)
  where
    by : (b : Bool) → (if b then 1 else 0) ≤ 2 ^ w
    by true = let p = pow_pos w in omega (arith, p)
    by false = omega arith
moved_within bits c (sext a w) fits lt =
    let p : 2 ^ (expr_width a - 1) ≤ 2 ^ (w - 1) = pow_mono (let f = fits.2 in omega (arith, f)) in
    let q : 2 ^ w ≡ 2 ^ (w - 1) * 2 = ap (λ n. 2 ^ n) (let z : w ≡ suc (w - 1) = (let f = fits.2 in omega (arith, f)) in z) ∙ pow-suc 2 (w - 1) in
    by (nat_le c (2 ^ (expr_width a - 1))) refl p q
  where
    by : (b : Bool) → nat_le c (2 ^ (expr_width a - 1)) ≡ b → 2 ^ (expr_width a - 1) ≤ 2 ^ (w - 1) → 2 ^ w ≡ 2 ^ (w - 1) * 2
        → (if b then 2 ^ (expr_width a - 1) + c else 2 ^ (expr_width a - 1) + c - 2 ^ w) ≤ 2 ^ w
    by true e p q = grind (arith, e, p, q, lt)
    by false e p q = omega (arith, p, q, lt)
moved_within bits c (zext a w) fits lt = by (c == 0) (pow_mono (let f = fits.1 in omega (arith, f)))
  where
    by : (b : Bool) → 2 ^ expr_width a ≤ 2 ^ w → (if b then 2 ^ expr_width a else 2 ^ expr_width a + c - 2 ^ w) ≤ 2 ^ w
    by true p = p
    by false p = omega (arith, p, lt)
moved_within bits c (word w) fits lt = omega arith
moved_within bits c (reg r w) fits lt = omega arith
moved_within bits c (read space a w) fits lt = omega arith
moved_within bits c (un o a) fits lt = omega arith
moved_within bits c (bin o a b) fits lt = omega arith
moved_within bits c (slice a hi lo) fits lt = omega arith
moved_within bits c (cat a b) fits lt = omega arith
moved_within bits c (select d a b) fits lt = omega arith

sum_within : (bits w c : ℕ) (t : ExprModel) → SummandFits bits t → sum_reach (sum_with w c t) ≤ 2 ^ w
sum_within bits w c t fits = by (sum_with w c t) refl
  where
    by : (o : Option Sum) → sum_with w c t ≡ o → sum_reach o ≤ 2 ^ w
    by None e = omega arith
    by (Some z) e =
        let h : IsSumWith w c t z = sum_is_with w c t z e in
        subst (λ (y : Sum). sum_reach (Some y) ≤ 2 ^ w) h.is
        (subst (λ n. moved_reach c t ≤ 2 ^ n) h.wide (moved_within bits c t fits (subst (λ n. c < 2 ^ n) (sym h.wide) h.small)))

summands_within : (bits : ℕ) (x y : ExprModel) → ShapeFits bits (bin Add x y) → sum_reach (summands x y) ≤ 2 ^ expr_width x
summands_within bits (const w c) y fits = sum_within bits w c y fits.2
summands_within bits x (const w c) fits = subst (λ n. sum_reach (sum_with w c x) ≤ 2 ^ n) (sym fits.0) (sum_within bits w c x fits.1)
summands_within bits x y fits = omega arith

reach_within : (bits : ℕ) (t : ExprModel) → ShapeFits bits t → reach_of t ≤ 2 ^ expr_width t
reach_within bits (word w) fits = omega arith
reach_within bits (reg r w) fits = omega arith
reach_within bits (const w v) fits = by (v == 0)
  where
    by : (b : Bool) → (if b then 1 else 0) ≤ 2 ^ w
    by true = let p = pow_pos w in omega (arith, p)
    by false = omega arith
reach_within bits (read space a w) fits = omega arith
reach_within bits (un o a) fits = omega arith
reach_within bits (bin Add a b) fits = summands_within bits a b fits
reach_within bits (bin o a b) fits = omega arith
reach_within bits (slice a hi lo) fits = omega arith
reach_within bits (cat a b) fits = omega arith
reach_within bits (zext a w) fits = pow_mono (let f = fits.1 in omega (arith, f))
reach_within bits (sext a w) fits = pow_mono (let f = fits.2 in omega (arith, f))
reach_within bits (select c a b) fits = omega arith

-- ---- what a register takes has its width

abbrev FitsThere : Netlist → Option Storage → Type 0
FitsThere netlist None = Unit {0}
FitsThere netlist (Some storage) = StorageFits netlist storage

written_one : (a b : ExprModel) → write a ≡ write b → a ≡ b
written_one a b e = cc

module _ (netlist : Netlist) (order : List ℕ) (keeps : KeepsRules netlist order) where
  there : (o : Option Storage) (id : ℕ) → slice_get netlist.storages id ≡ o → FitsThere netlist o
  there None id e = tt
  there (Some storage) id e = all_at (StorageFits netlist) netlist.storages id storage (sound_of netlist order keeps).typed.storages e

  -- cells are written at addresses
  no_write : (i : ℕ) (cells : Cells) (e : ExprModel) → array_transfer (sym_of netlist i) (value_of netlist no_state i) cells ≡ write e → ⊥
  no_write i cells e is = by (is_enabled (value_of netlist no_state i) cells.when) is
    where
      by : (on : Bool) → (if on then write_at (sym_of netlist i cells.addr) (sym_of netlist i cells.value) else keep) ≡ write e → ⊥
      by true p = absurd (cc)
      by false p = absurd (cc)

  taken_width : (i id : ℕ) (e : ExprModel) (o : Option Storage) → FitsThere netlist o → transfer_of netlist i id o ≡ write e → expr_width e ≡ storage_bits o
  taken_width i id e None f is = absurd (cc)
  taken_width i id e (Some (Register name width input when)) f is =
      by (is_enabled (value_of netlist no_state i) when) (same_reg (sym_of netlist i input) id) is
    where
      by : (on same : Bool) → (if on then (if same then keep else write (sym_of netlist i input)) else keep) ≡ write e → expr_width e ≡ width
      by true true p = absurd (cc)
      by true false p =
          ap expr_width (sym (written_one (sym_of netlist i input) e p)) ∙ width_is netlist i (sound_of netlist order keeps).typed (length netlist.nets) input ∙ f.0.1
      by false same p = absurd (cc)
  taken_width i id e (Some (Memory cells)) f is = absurd (no_write i cells e is)
  taken_width i id e (Some (File cells)) f is = absurd (no_write i cells e is)

  -- a target that the program counter takes
  pub target_width : (p : Pattern) → IsPattern netlist p → p.storage ≡ counter_of netlist.codes → (e : ExprModel) → p.move ≡ write e → expr_width e ≡ counter_width netlist
  target_width p is storage e move =
      taken_width is.word (counter_of netlist.codes) e (slice_get netlist.storages (counter_of netlist.codes)) (there (slice_get netlist.storages (counter_of netlist.codes)) (counter_of netlist.codes) refl)
      (ap (transfer_at netlist is.word) (sym storage) ∙ is.given.gives ∙ move)

  -- a jump reaches no further than the program counter counts
  pub jump_within : (bits : ℕ) (p : Pattern) → IsPattern netlist p → p.storage ≡ counter_of netlist.codes → (e : ExprModel) → p.move ≡ write e → ShapeFits bits e → reach_of e ≤ 2 ^ counter_width netlist
  jump_within bits p is storage e move fits = subst (λ w. reach_of e ≤ 2 ^ w) (target_width p is storage e move) (reach_within bits e fits)
