-- The tied read of a transfer.
use Rattle.std.proofs.Common.{◌≡◌, ◌↔◌, ℕ, ◌+◌, ◌==◌, ◌&&◌, ◌||◌, nat_eq, if◌then◌else◌, true, true≢false, Option, Some, None, refl, sym, ap, ◌∙◌}
use Rattle.std.specs.Prelude.{is_some, option_map}
use Rattle.std.proofs.lemmas.Bool.{eqb-true, eq-eqb, and_from, and_parts}
use Rattle.rec_bits.proofs.Booleans.{same_truth}
use Rattle.rec_bits.proofs.Options.{some_given}
use Rattle.rec_bits.proofs.Equality.{op1_is, op2_is, op1_self, op2_self}
use Rattle.net_model.specs.Exprs.{ExprModel, word, reg, const, read, un, bin, slice, cat, zext, sext, select}
use Rattle.form_model.specs.Effects.{same_space}
use Rattle.form_model.specs.Matches.{same_op1, same_op2}
use Rattle.form_model.proofs.Spaces.{space_is, space_self}
use Rattle.form_set.specs.Targets.{first_of}
use Rattle.form_set.specs.Tied.{behind, same_expr, tied_place}

-- ---- two expressions are one

pub expr_is : (t u : ExprModel) → same_expr t u ≡ true → t ≡ u
expr_is (word w) (word x) h = ap word (eqb-true w x h)
expr_is (reg r w) (reg q x) h = (let p = and_parts (r == q) (w == x) h in (λ j. reg (eqb-true r q p.0 j) (eqb-true w x p.1 j)))
expr_is (const w v) (const x u) h = (let p = and_parts (w == x) (v == u) h in (λ j. const (eqb-true w x p.0 j) (eqb-true v u p.1 j)))
expr_is (read s a w) (read t b x) h =
    let p = and_parts (same_space s t) (same_expr a b && w == x) h in
    let q = and_parts (same_expr a b) (w == x) p.1 in
    (λ j. read (space_is s t p.0 j) (expr_is a b q.0 j) (eqb-true w x q.1 j))
expr_is (un o a) (un p b) h = (let q = and_parts (same_op1 o p) (same_expr a b) h in (λ j. un (op1_is o p q.0 j) (expr_is a b q.1 j)))
expr_is (bin o a b) (bin p c d) h =
    let q = and_parts (same_op2 o p) (same_expr a c && same_expr b d) h in
    let r = and_parts (same_expr a c) (same_expr b d) q.1 in
    (λ j. bin (op2_is o p q.0 j) (expr_is a c r.0 j) (expr_is b d r.1 j))
expr_is (slice a hi lo) (slice b top low) h =
    let q = and_parts (same_expr a b) (hi == top && lo == low) h in
    let r = and_parts (hi == top) (lo == low) q.1 in
    (λ j. slice (expr_is a b q.0 j) (eqb-true hi top r.0 j) (eqb-true lo low r.1 j))
expr_is (cat a b) (cat c d) h = (let q = and_parts (same_expr a c) (same_expr b d) h in (λ j. cat (expr_is a c q.0 j) (expr_is b d q.1 j)))
expr_is (zext a w) (zext b x) h = (let q = and_parts (same_expr a b) (w == x) h in (λ j. zext (expr_is a b q.0 j) (eqb-true w x q.1 j)))
expr_is (sext a w) (sext b x) h = (let q = and_parts (same_expr a b) (w == x) h in (λ j. sext (expr_is a b q.0 j) (eqb-true w x q.1 j)))
expr_is (select c a b) (select d e f) h =
    let q = and_parts (same_expr c d) (same_expr a e && same_expr b f) h in
    let r = and_parts (same_expr a e) (same_expr b f) q.1 in
    (λ j. select (expr_is c d q.0 j) (expr_is a e r.0 j) (expr_is b f r.1 j))
expr_is t u h = absurd (true≢false (sym h))

pub expr_self : (t : ExprModel) → same_expr t t ≡ true
expr_self (word w) = eq-eqb w w refl
expr_self (reg r w) = and_from _ _ (eq-eqb r r refl) (eq-eqb w w refl)
expr_self (const w v) = and_from _ _ (eq-eqb w w refl) (eq-eqb v v refl)
expr_self (read s a w) = and_from _ _ (space_self s) (and_from _ _ (expr_self a) (eq-eqb w w refl))
expr_self (un o a) = and_from _ _ (op1_self o) (expr_self a)
expr_self (bin o a b) = and_from _ _ (op2_self o) (and_from _ _ (expr_self a) (expr_self b))
expr_self (slice a hi lo) = and_from _ _ (expr_self a) (and_from _ _ (eq-eqb hi hi refl) (eq-eqb lo lo refl))
expr_self (cat a b) = and_from _ _ (expr_self a) (expr_self b)
expr_self (zext a w) = and_from _ _ (expr_self a) (eq-eqb w w refl)
expr_self (sext a w) = and_from _ _ (expr_self a) (eq-eqb w w refl)
expr_self (select c a b) = and_from _ _ (expr_self c) (and_from _ _ (expr_self a) (expr_self b))

-- ---- whether there is a tied read

-- a read of the file is the tied one where its address has the same id
pub cell_tied : (at x : ExprModel) (i j : ℕ) → (x ≡ at) ↔ (i ≡ j) → (i == j) ≡ is_some {T = ℕ} (if same_expr x at then Some 0 else None)
cell_tied at x i j h =
    same_truth (i == j) (same_expr x at)
    (λ e. ap (λ z. same_expr z at) (h.1 (eqb-true i j e)) ∙ expr_self at)
    (λ e. eq-eqb i j (h.0 (expr_is x at e)))
    ∙ sym (some_given (same_expr x at) 0)

pub either_tied : (a : ExprModel) (p q : Option ℕ) → is_some (first_of p (behind a q)) ≡ (is_some p || is_some q)
either_tied a (Some p) q = refl
either_tied a None None = refl
either_tied a None (Some q) = refl
