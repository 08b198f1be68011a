-- An expression depends on no other instruction bits than its own, and on no registers but those
-- that occur in it.
use Rattle.std.proofs.Common.{◌≡◌, ℕ, ◌||◌, true, Bool, slice_index, bit_and, bit_or, refl, ap}
use Rattle.std.proofs.lemmas.Bool.{eq-eqb, or_left, or_right}
use Rattle.rec_bits.specs.Operators.{apply1_of, slice_of, sext_of}
use Rattle.net_model.specs.declared.states.State.{State}
use Rattle.net_model.specs.Nets.{held}
use Rattle.net_model.specs.Exprs.{ExprModel, word, reg, const, read, un, bin, slice, cat, zext, sext, select, expr_width}
use Rattle.net_model.specs.Fields.{fields, WordFitsExpr}
use Rattle.net_model.specs.Meaning.{mean}
use Rattle.net_model.specs.Occurs.{occurs, has_read, AgreeOn}
use Rattle.net_model.proofs.Masks.{same_low, same_slice, both_left, both_right}

-- ---- words that agree on the bits of an expression give it one meaning

pub mean_fields : (t : ExprModel) (s : State) (i j : ℕ) → WordFitsExpr t i → WordFitsExpr t j → bit_and i (fields t) ≡ bit_and j (fields t) → mean t s i ≡ mean t s j
mean_fields (word w) s i j f g e = same_low i j w f g e
mean_fields (reg r w) s i j f g e = refl
mean_fields (const w v) s i j f g e = refl
mean_fields (read space a w) s i j f g e = ap (λ k. slice_index (held s space) k) (mean_fields a s i j f g e)
mean_fields (un o a) s i j f g e = ap (λ x. apply1_of o (expr_width a) x) (mean_fields a s i j f g e)
mean_fields (bin o a b) s i j f g e =
    cc (mean_fields a s i j f.0 g.0 (both_left i j (fields a) (fields b) e), mean_fields b s i j f.1 g.1 (both_right i j (fields a) (fields b) e))
mean_fields (slice (word w) hi lo) s i j f g e = same_slice i j hi lo e
mean_fields (slice (reg r w) hi lo) s i j f g e = refl
mean_fields (slice (const w v) hi lo) s i j f g e = refl
mean_fields (slice (read space a w) hi lo) s i j f g e = ap (λ x. slice_of x hi lo) (mean_fields (read space a w) s i j f g e)
mean_fields (slice (un o a) hi lo) s i j f g e = ap (λ x. slice_of x hi lo) (mean_fields (un o a) s i j f g e)
mean_fields (slice (bin o a b) hi lo) s i j f g e = ap (λ x. slice_of x hi lo) (mean_fields (bin o a b) s i j f g e)
mean_fields (slice (slice a h l) hi lo) s i j f g e = ap (λ x. slice_of x hi lo) (mean_fields (slice a h l) s i j f g e)
mean_fields (slice (cat a b) hi lo) s i j f g e = ap (λ x. slice_of x hi lo) (mean_fields (cat a b) s i j f g e)
mean_fields (slice (zext a w) hi lo) s i j f g e = ap (λ x. slice_of x hi lo) (mean_fields (zext a w) s i j f g e)
mean_fields (slice (sext a w) hi lo) s i j f g e = ap (λ x. slice_of x hi lo) (mean_fields (sext a w) s i j f g e)
mean_fields (slice (select c a b) hi lo) s i j f g e = ap (λ x. slice_of x hi lo) (mean_fields (select c a b) s i j f g e)
mean_fields (cat a b) s i j f g e =
    cc (mean_fields a s i j f.0 g.0 (both_left i j (fields a) (fields b) e), mean_fields b s i j f.1 g.1 (both_right i j (fields a) (fields b) e))
mean_fields (zext a w) s i j f g e = mean_fields a s i j f g e
mean_fields (sext a w) s i j f g e = ap (λ x. sext_of x (expr_width a) w) (mean_fields a s i j f g e)
mean_fields (select c a b) s i j f g e =
    let p : bit_and i (bit_or (fields c) (fields a)) ≡ bit_and j (bit_or (fields c) (fields a)) = both_left i j (bit_or (fields c) (fields a)) (fields b) e in
    cc (mean_fields c s i j f.0 g.0 (both_left i j (fields c) (fields a) p), mean_fields a s i j f.1 g.1 (both_right i j (fields c) (fields a) p), mean_fields b s i j f.2 g.2 (both_right i j (bit_or (fields c) (fields a)) (fields b) e))

-- ---- states that agree on what occurs in an expression give it one meaning

pub agree_less : (reads more : ℕ → Bool) (memory larger : Bool) (s t : State) → ((r : ℕ) → reads r ≡ true → more r ≡ true) → (memory ≡ true → larger ≡ true) → AgreeOn more larger s t → AgreeOn reads memory s t
agree_less reads more memory larger s t h k a = record { regs = λ r e. a.regs r (h r e); cells = λ e space. a.cells (k e) space }

agree_left : (a b : ExprModel) (s t : State) → AgreeOn (λ r. occurs r a || occurs r b) (has_read a || has_read b) s t → AgreeOn (λ r. occurs r a) (has_read a) s t
agree_left a b s t = agree_less _ _ _ _ s t (λ r. or_left (occurs r a) (occurs r b)) (or_left (has_read a) (has_read b))

agree_right : (a b : ExprModel) (s t : State) → AgreeOn (λ r. occurs r a || occurs r b) (has_read a || has_read b) s t → AgreeOn (λ r. occurs r b) (has_read b) s t
agree_right a b s t = agree_less _ _ _ _ s t (λ r. or_right (occurs r a) (occurs r b)) (or_right (has_read a) (has_read b))

pub mean_alike : (e : ExprModel) (i : ℕ) (s t : State) → AgreeOn (λ r. occurs r e) (has_read e) s t → mean e s i ≡ mean e t i
mean_alike (word w) i s t h = refl
mean_alike (reg r w) i s t h = h.regs r (eq-eqb r r refl)
mean_alike (const w v) i s t h = refl
mean_alike (read space a w) i s t h =
    let e : mean a s i ≡ mean a t i = mean_alike a i s t (record { regs = h.regs; cells = λ k space. h.cells refl space }) in
    let c = h.cells refl space in
    (λ j. slice_index (c j) (e j))
mean_alike (un o a) i s t h = ap (apply1_of o (expr_width a)) (mean_alike a i s t h)
mean_alike (bin o a b) i s t h = cc (mean_alike a i s t (agree_left a b s t h), mean_alike b i s t (agree_right a b s t h))
mean_alike (slice a hi lo) i s t h = ap (λ n. slice_of n hi lo) (mean_alike a i s t h)
mean_alike (cat a b) i s t h = cc (mean_alike a i s t (agree_left a b s t h), mean_alike b i s t (agree_right a b s t h))
mean_alike (zext a w) i s t h = mean_alike a i s t h
mean_alike (sext a w) i s t h = ap (λ n. sext_of n (expr_width a) w) (mean_alike a i s t h)
mean_alike (select c a b) i s t h =
    let first : AgreeOn (λ r. occurs r c) (has_read c) s t = agree_less _ _ _ _ s t (λ r. or_left (occurs r c) (occurs r a || occurs r b)) (or_left (has_read c) (has_read a || has_read b)) h in
    let rest : AgreeOn (λ r. occurs r a || occurs r b) (has_read a || has_read b) s t = agree_less _ _ _ _ s t (λ r. or_right (occurs r c) (occurs r a || occurs r b)) (or_right (has_read c) (has_read a || has_read b)) h in
    cc (mean_alike c i s t first, mean_alike a i s t (agree_left a b s t rest), mean_alike b i s t (agree_right a b s t rest))
