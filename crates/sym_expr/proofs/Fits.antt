-- Expressions whose operators get what they ask for.
use Rattle.std.proofs.Common.{lit<, ◌≡◌, ℕ, ◌+◌, ◌-◌, ◌^◌, ◌<◌, ◌≤◌, ◌==◌, List, [], ◌∷◌, refl, sym, subst, arith}
use Rattle.std.proofs.lemmas.Nat.{pow_pos, mod_below}
use Rattle.std.proofs.Math.Nat.{pow-le-pow_right}
use Rattle.rec_bits.specs.declared.operator.Op2.{Op2}
use Rattle.rec_bits.specs.declared.operator.Op2.TheVariants.{Add, Sub, Mul, And, Or, Xor, Shl, Shr, Sar, Eq, Ltu, Lts}
use Rattle.net_model.specs.Exprs.{ExprModel, expr_width, word, reg, const, read, un, bin, slice, cat, zext, sext, select}
use Rattle.net_model.specs.declared.states.State.{State}
use Rattle.rec_bits.specs.Operators.{result_width}
use Rattle.rec_bits.proofs.Fits.{apply1_fits, apply2_fits, cat_below, sext_below, room_above}
use Rattle.rec_bits.proofs.Booleans.{cond_below}
use Rattle.net_model.specs.Meaning.{mean}
use Rattle.sym_expr.specs.declared.pool.Node.{Node}
use Rattle.sym_expr.specs.declared.pool.Node.TheVariants.{Word, Reg, Const, Read, Cell, Un, Bin, Slice, Cat, Zext, Sext, Select}
use Rattle.sym_expr.specs.Pools.{node_expr, children_of, AllBelow, HeadFits, ExprFits, Suits}

pub AllFit : (ℕ → ExprModel) → List ℕ → Type 0
AllFit t [] = Unit {0}
AllFit t (i ∷ is) = ExprFits (t i) × AllFit t is

pub all_fit : (t : ℕ → ExprModel) (n : ℕ) → ((i : ℕ) → i < n → ExprFits (t i)) → (is : List ℕ) → AllBelow n is → AllFit t is
unfolding AllFit
all_fit t n h [] b = tt
all_fit t n h (i ∷ is) b = (h i b.0, all_fit t n h is b.1)

pub whole_fits : (node : Node) (t : ℕ → ExprModel) → HeadFits (node_expr node t) → AllFit t (children_of node) → ExprFits (node_expr node t)
unfolding AllFit
whole_fits (Word w) t h a = h
whole_fits (Reg r w) t h a = h
whole_fits (Const w v) t h a = h
whole_fits (Read i w) t h a = (a.0, h)
whole_fits (Cell i w) t h a = (a.0, h)
whole_fits (Un o i) t h a = a.0
whole_fits (Bin o i j) t h a = (a.0, a.1.0, h)
whole_fits (Slice i u l) t h a = (a.0, h)
whole_fits (Cat i j) t h a = (a.0, a.1.0, h)
whole_fits (Zext i w) t h a = (a.0, h)
whole_fits (Sext i w) t h a = (a.0, h)
whole_fits (Select c i j) t h a = (a.0, a.1.0, a.1.1.0, h)

op_width : (o : Op2) (w : ℕ) → (1 ≤ w) × (w ≤ 64) → (1 ≤ result_width o w) × (result_width o w ≤ 64)
op_width Eq w h = (omega arith, omega arith)
op_width Ltu w h = (omega arith, omega arith)
op_width Lts w h = (omega arith, omega arith)
op_width Add w h = h
op_width Sub w h = h
op_width Mul w h = h
op_width And w h = h
op_width Or w h = h
op_width Xor w h = h
op_width Shl w h = h
op_width Shr w h = h
op_width Sar w h = h

pub width_fits : (t : ExprModel) → ExprFits t → (1 ≤ expr_width t) × (expr_width t ≤ 64)
width_fits (word w) h = h
width_fits (reg r w) h = h
width_fits (const w v) h = (h.0, h.1)
width_fits (read space a w) h = h.1
width_fits (un o a) h = width_fits a h
width_fits (bin o a b) h = op_width o (expr_width a) (width_fits a h.0)
width_fits (slice a u l) h = let p = width_fits a h.0 in (omega (arith, h.1.0, h.1.1), omega (arith, h.1.0, h.1.1, p.1))
width_fits (cat a b) h = let p = width_fits a h.0 in (omega (arith, p.0), h.2)
width_fits (zext a w) h = (omega (arith, h.1.0), h.1.1)
width_fits (sext a w) h = (omega (arith, h.1.0), h.1.1)
width_fits (select c a b) h = width_fits a h.1

mean_fits : (t : ExprModel) (s : State) (i : ℕ) → ExprFits t → Suits t s i → mean t s i < 2 ^ expr_width t
mean_fits (word w) s i h u = u
mean_fits (reg r w) s i h u = u
mean_fits (const w v) s i h u = h.2
mean_fits (read space a w) s i h u = u.1
mean_fits (un o a) s i h u = apply1_fits o (expr_width a) (mean a s i)
mean_fits (bin o a b) s i h u =
    apply2_fits o (expr_width a) (mean a s i) (mean b s i) (mean_fits a s i h.0 u.0) (subst (λ w. mean b s i < 2 ^ w) h.2 (mean_fits b s i h.1 u.1))
mean_fits (slice a hi lo) s i h u = mod_below _ _ (pow_pos (hi + 1 - lo))
mean_fits (cat a b) s i h u = cat_below (mean a s i) (mean b s i) (expr_width a) (expr_width b) (mean_fits a s i h.0 u.0) (mean_fits b s i h.1 u.1)
mean_fits (zext a w) s i h u =
    let q : 2 ^ expr_width a ≤ 2 ^ w = pow-le-pow_right (lit< tt) (omega (arith, h.1.0)) in
    omega (arith, q, mean_fits a s i h.0 u)
mean_fits (sext a w) s i h u = sext_below (mean a s i) (expr_width a) w (omega (arith, h.1.0)) (mean_fits a s i h.0 u)
mean_fits (select c a b) s i h u =
    cond_below (mean c s i == 1) _ _ (2 ^ expr_width a) (mean_fits a s i h.1 u.1) (subst (λ w. mean b s i < 2 ^ w) h.3.1 (mean_fits b s i h.2 u.2))

-- for values and widths that were computed
pub value_below : (t : ExprModel) (s : State) (i x w : ℕ) → x ≡ mean t s i → w ≡ expr_width t → ExprFits t → Suits t s i → x < 2 ^ w
value_below t s i x w ex ew h u = subst (λ (p : ℕ × ℕ). p.0 < 2 ^ p.1) (λ j. (sym ex j, sym ew j)) (mean_fits t s i h u)

pub width_low : (t : ExprModel) (w : ℕ) → w ≡ expr_width t → ExprFits t → 1 ≤ w
width_low t w e h = let p = width_fits t h in omega (arith, e, p.0)

pub width_high : (t : ExprModel) (w : ℕ) → w ≡ expr_width t → ExprFits t → w ≤ 64
width_high t w e h = let p = width_fits t h in omega (arith, e, p.1)

pub slice_high : (t : ExprModel) (hi lo : ℕ) → ExprFits (slice t hi lo) → hi ≤ 63
slice_high t hi lo h = let p = width_fits t h.0 in omega (arith, p.1, h.1.1)

pub cat_room : (a b : ExprModel) (s : State) (i x w : ℕ) → x ≡ mean a s i → w ≡ expr_width b → ExprFits (cat a b) → Suits (cat a b) s i → x < 2 ^ (64 - w)
cat_room a b s i x w ex ew h u = room_above x (expr_width a) w (value_below a s i x (expr_width a) ex refl h.0 u.0) (omega (arith, ew, h.2))
