-- Expressions without registers and reads have one value in all states.
use Rattle.std.proofs.Common.{ℕ, ◌≡◌, ◌&&◌, true, refl, ◌∙◌}
use Rattle.rec_bits.proofs.Booleans.{both}
use Rattle.net_model.specs.declared.states.State.{State}
use Rattle.net_model.specs.Exprs.{ExprModel, word, reg, const, read, un, bin, slice, cat, zext, sext, select}
use Rattle.net_model.specs.Symbolic.{no_state}
use Rattle.net_model.specs.Meaning.{mean}
use Rattle.code_model.specs.Words.{is_fixed, IsFixedAt}

pub fixed_mean : (e : ExprModel) (s r : State) (i : ℕ) → is_fixed e ≡ true → mean e s i ≡ mean e r i
fixed_mean (word w) s r i f = refl
fixed_mean (reg n w) s r i f = cc
fixed_mean (const w v) s r i f = refl
fixed_mean (read space a w) s r i f = cc
fixed_mean (un o a) s r i f = rw (fixed_mean a s r i f) refl
fixed_mean (bin o a b) s r i f = let p : (is_fixed a ≡ true) × (is_fixed b ≡ true) = both (is_fixed a) (is_fixed b) f in rw (fixed_mean a s r i p.0, fixed_mean b s r i p.1) refl
fixed_mean (slice a hi lo) s r i f = rw (fixed_mean a s r i f) refl
fixed_mean (cat a b) s r i f = let p : (is_fixed a ≡ true) × (is_fixed b ≡ true) = both (is_fixed a) (is_fixed b) f in rw (fixed_mean a s r i p.0, fixed_mean b s r i p.1) refl
fixed_mean (zext a w) s r i f = fixed_mean a s r i f
fixed_mean (sext a w) s r i f = rw (fixed_mean a s r i f) refl
fixed_mean (select c a b) s r i f =
    let p : (is_fixed c ≡ true) × ((is_fixed a && is_fixed b) ≡ true) = both (is_fixed c) (is_fixed a && is_fixed b) f in
    let q : (is_fixed a ≡ true) × (is_fixed b ≡ true) = both (is_fixed a) (is_fixed b) p.1 in
    rw (fixed_mean c s r i p.0, fixed_mean a s r i q.0, fixed_mean b s r i q.1) refl

pub fixed_is : (e : ExprModel) (i value : ℕ) (s : State) → IsFixedAt i e value → mean e s i ≡ value
fixed_is e i value s f = fixed_mean e s no_state i f.fixed ∙ f.is
