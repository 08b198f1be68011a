-- Words that are alike in the slices of an expression give it one meaning.
use Rattle.std.proofs.Common.{◌≡◌, ◌==◌, ◌&&◌, ℕ, zero, suc, ◌+◌, ◌-◌, ◌/◌, ◌%◌, ◌^◌, ◌<◌, Bool, true, false, cond, not, List, [], ◌∷◌, ◌++◌, slice_index, refl, sym, ap, subst, ◌∙◌, arith}
use Rattle.std.proofs.Math.Nat.{mod-eq_of_lt}
use Rattle.std.proofs.lemmas.Bool.{eqb-true}
use Rattle.std.specs.List.{AllByRecursion, filter}
use Rattle.rec_bits.specs.Operators.{apply1_of, slice_of, sext_of}
use Rattle.net_model.specs.Nets.{held}
use Rattle.net_model.specs.declared.states.State.{State}
use Rattle.net_model.specs.Fields.{WordFitsTransfer, WordFitsExpr}
use Rattle.net_model.specs.Meaning.{mean}
use Rattle.net_model.specs.Exprs.{ExprModel, word, reg, const, read, un, bin, slice, cat, zext, sext, select, expr_width, TransferModel, keep, write, write_at}
use Rattle.net_model.specs.Transfers.{cells_moved, reg_moved}
use Rattle.asm_words.specs.Slices.{is_other, transfer_slices, once, slices}
use Rattle.asm_words.specs.declared.slices.Slice.{Slice}

-- two words have the same bits in a slice
abbrev pub Alike : ℕ → ℕ → Slice → Type 0
Alike i j s = slice_of i s.hi s.lo ≡ slice_of j s.hi s.lo

abbrev pub AllAlike : ℕ → ℕ → List Slice → Type 0
AllAlike i j ss = AllByRecursion (Alike i j) ss

pub all_left : (i j : ℕ) (xs ys : List Slice) → AllAlike i j (xs ++ ys) → AllAlike i j xs
all_left i j [] ys h = tt
all_left i j (x ∷ xs) ys h = (h.0, all_left i j xs ys h.1)

pub all_right : (i j : ℕ) (xs ys : List Slice) → AllAlike i j (xs ++ ys) → AllAlike i j ys
all_right i j [] ys h = h
all_right i j (x ∷ xs) ys h = all_right i j xs ys h.1

-- ---- expressions

whole_slice : (i w : ℕ) → 0 < w → i < 2 ^ w → slice_of i (w - 1) 0 ≡ i
whole_slice i w some h =
    let e : w - 1 + 1 - 0 ≡ w = omega arith in
    let p : i / 2 ^ 0 ≡ i = omega arith in
    ap (λ n. i / 2 ^ 0 % 2 ^ n) e ∙ ap (λ n. n % 2 ^ w) p ∙ mod-eq_of_lt h

same_word : (i j w : ℕ) → i < 2 ^ w → j < 2 ^ w → slice_of i (w - 1) 0 ≡ slice_of j (w - 1) 0 → i ≡ j
same_word i j zero f g e = omega arith
same_word i j (suc w) f g e = sym (whole_slice i (suc w) (omega arith) f) ∙ e ∙ whole_slice j (suc w) (omega arith) g

pub mean_alike : (t : ExprModel) (s : State) (i j : ℕ) → WordFitsExpr t i → WordFitsExpr t j → AllAlike i j (slices t) → mean t s i ≡ mean t s j
mean_alike (word w) s i j f g h = same_word i j w f g h.0
mean_alike (reg r w) s i j f g h = refl
mean_alike (const w v) s i j f g h = refl
mean_alike (read space a w) s i j f g h = ap (λ k. slice_index (held s space) k) (mean_alike a s i j f g h)
mean_alike (un o a) s i j f g h = ap (λ x. apply1_of o (expr_width a) x) (mean_alike a s i j f g h)
mean_alike (bin o a b) s i j f g h =
    cc (mean_alike a s i j f.0 g.0 (all_left i j (slices a) (slices b) h), mean_alike b s i j f.1 g.1 (all_right i j (slices a) (slices b) h))
mean_alike (slice (word w) hi lo) s i j f g h = h.0
mean_alike (slice (reg r w) hi lo) s i j f g h = refl
mean_alike (slice (const w v) hi lo) s i j f g h = refl
mean_alike (slice (read space a w) hi lo) s i j f g h = ap (λ x. slice_of x hi lo) (mean_alike (read space a w) s i j f g h)
mean_alike (slice (un o a) hi lo) s i j f g h = ap (λ x. slice_of x hi lo) (mean_alike (un o a) s i j f g h)
mean_alike (slice (bin o a b) hi lo) s i j f g h = ap (λ x. slice_of x hi lo) (mean_alike (bin o a b) s i j f g h)
mean_alike (slice (slice a k l) hi lo) s i j f g h = ap (λ x. slice_of x hi lo) (mean_alike (slice a k l) s i j f g h)
mean_alike (slice (cat a b) hi lo) s i j f g h = ap (λ x. slice_of x hi lo) (mean_alike (cat a b) s i j f g h)
mean_alike (slice (zext a w) hi lo) s i j f g h = ap (λ x. slice_of x hi lo) (mean_alike (zext a w) s i j f g h)
mean_alike (slice (sext a w) hi lo) s i j f g h = ap (λ x. slice_of x hi lo) (mean_alike (sext a w) s i j f g h)
mean_alike (slice (select c a b) hi lo) s i j f g h = ap (λ x. slice_of x hi lo) (mean_alike (select c a b) s i j f g h)
mean_alike (cat a b) s i j f g h =
    cc (mean_alike a s i j f.0 g.0 (all_left i j (slices a) (slices b) h), mean_alike b s i j f.1 g.1 (all_right i j (slices a) (slices b) h))
mean_alike (zext a w) s i j f g h = mean_alike a s i j f g h
mean_alike (sext a w) s i j f g h = ap (λ x. sext_of x (expr_width a) w) (mean_alike a s i j f g h)
mean_alike (select c a b) s i j f g h =
    let r : AllAlike i j (slices a ++ slices b) = all_right i j (slices c) (slices a ++ slices b) h in
    cc (mean_alike c s i j f.0 g.0 (all_left i j (slices c) (slices a ++ slices b) h), mean_alike a s i j f.1 g.1 (all_left i j (slices a) (slices b) r), mean_alike b s i j f.2 g.2 (all_right i j (slices a) (slices b) r))

-- ---- transfers

pub reg_alike : (m : TransferModel) (s : State) (i j id : ℕ) → WordFitsTransfer m i → WordFitsTransfer m j → AllAlike i j (transfer_slices m) → reg_moved m s i id ≡ reg_moved m s j id
reg_alike keep s i j id f g h = refl
reg_alike (write e) s i j id f g h = mean_alike e s i j f g h
reg_alike (write_at a e) s i j id f g h = refl

pub cells_alike : (m : TransferModel) (s : State) (i j : ℕ) (olds : List ℕ) → WordFitsTransfer m i → WordFitsTransfer m j → AllAlike i j (transfer_slices m) → cells_moved m s i olds ≡ cells_moved m s j olds
cells_alike keep s i j olds f g h = refl
cells_alike (write e) s i j olds f g h = refl
cells_alike (write_at a e) s i j olds f g h =
    cc (mean_alike a s i j f.0 g.0 (all_left i j (slices a) (slices e) h), mean_alike e s i j f.1 g.1 (all_right i j (slices a) (slices e) h))

-- ---- each slice once is enough

module _ (i j : ℕ) where
  kept : (x : Slice) (ys : List Slice) → Alike i j x → AllAlike i j (filter (is_other x) ys) → AllAlike i j ys
  kept x [] p h = tt
  kept x (y ∷ ys) p h = step (x.hi == y.hi) (x.lo == y.lo) refl refl h (λ k. kept x ys p k)
    where
      step : (a b : Bool) → (x.hi == y.hi) ≡ a → (x.lo == y.lo) ≡ b → AllAlike i j (cond (not (a && b)) (y ∷ filter (is_other x) ys) (filter (is_other x) ys)) → (AllAlike i j (filter (is_other x) ys) → AllAlike i j ys) → AllAlike i j (y ∷ ys)
      step true true u v h ih =
          let same_hi : x.hi ≡ y.hi = eqb-true x.hi y.hi u in
          let same_lo : x.lo ≡ y.lo = eqb-true x.lo y.lo v in
          (subst (λ l. slice_of i y.hi l ≡ slice_of j y.hi l) same_lo (subst (λ k. slice_of i k x.lo ≡ slice_of j k x.lo) same_hi p), ih h)
      step true false u v h ih = (h.0, ih h.1)
      step false b u v h ih = (h.0, ih h.1)

  pub once_enough : (xs : List Slice) → AllAlike i j (once xs) → AllAlike i j xs
  once_enough [] h = tt
  once_enough (x ∷ xs) h = (h.0, once_enough xs (kept x (once xs) h.0 h.1))
