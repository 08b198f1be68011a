-- The trees of a match's leaves, and the registers that a form's expression reads.
use Rattle.std.proofs.Common.{◌≡◌, ℕ, ◌==◌, ◌||◌, ◌&&◌, ◌⊎◌, inl, inr, not, Bool, true, false, if◌then◌else◌, List, [], ◌∷◌, ◌++◌, Option, Some, None, refl, sym, ap, ◌∙◌, subst}
use Rattle.std.proofs.lemmas.Bool.{true≢false, eqb-true}
use Rattle.rec_bits.specs.declared.operator.Op1.{Op1}
use Rattle.rec_bits.specs.declared.operator.Op2.{Op2}
use Rattle.rec_bits.specs.declared.operator.Op2.TheVariants.{Add}
use Rattle.rec_bits.proofs.Booleans.{or_cases, or_from}
use Rattle.rec_bits.proofs.Options.{picked}
use Rattle.net_model.specs.declared.hardware.Space.TheVariants.{Memory as InMemory, File as InFile}
use Rattle.net_model.specs.declared.states.State.{State}
use Rattle.net_model.specs.Exprs.{ExprModel, word, reg, const, read, un, bin, slice, cat, zext, sext, select, expr_width}
use Rattle.form_model.specs.Trees.{is_number, is_cell}
use Rattle.form_model.specs.Shapes.{Sum, is_field, is_plain, is_plain_sum, is_shape, shows_below, summands}
use Rattle.form_model.specs.Matches.{in_register, in_file, LeafModel, operand, cut, MatchModel, open_if, both, shape_match, literal_match, cell_match, read_match, un_match, bin_match, slice_match, zext_match, sext_match, matched, same_op1, same_op2}
use Rattle.form_model.specs.Covers.{Operand, operands_of}
use Rattle.form_model.specs.Effects.{register, expr_reads}
use Rattle.form_model.proofs.SumNumbers.{sum_is_with}
use Rattle.form_model.proofs.Counts.{operands-append}
use Rattle.emit_seq.specs.Formed.{CellsShown}
use Rattle.emit_seq.specs.Leaves.{ReadsFrom}
use Rattle.emit_seq.proofs.Matched.{Joined, joined, Literal, literal, opened}

-- a register of an operand
abbrev pub IsIdOf : List Operand → ℕ → Type 0
IsIdOf [] r = ⊥
IsIdOf (o ∷ os) r = (o.home ≡ in_register r) ⊎ IsIdOf os r

pub id_left : (xs ys : List Operand) (r : ℕ) → IsIdOf xs r → IsIdOf (xs ++ ys) r
id_left [] ys r h = absurd h
id_left (x ∷ xs) ys r (inl e) = inl e
id_left (x ∷ xs) ys r (inr h) = inr (id_left xs ys r h)

pub id_right : (xs ys : List Operand) (r : ℕ) → IsIdOf ys r → IsIdOf (xs ++ ys) r
id_right [] ys r h = h
id_right (x ∷ xs) ys r h = inr (id_right xs ys r h)

-- ---- field shapes read no register

field_unread : (t : ExprModel) (i r : ℕ) → is_field t ≡ true → expr_reads i t (register r) ≡ false
field_unread (word w) i r h = refl
field_unread (slice (word w) hi lo) i r h = refl
field_unread t i r h = absurd (true≢false (sym h))

plain_unread : (t : ExprModel) (i r : ℕ) → is_plain t ≡ true → expr_reads i t (register r) ≡ false
plain_unread (const w v) i r h = refl
plain_unread (zext a w) i r h = field_unread a i r h
plain_unread (sext a w) i r h = field_unread a i r h
plain_unread (word w) i r h = refl
plain_unread (slice a hi lo) i r h = field_unread (slice a hi lo) i r h
plain_unread t i r h = absurd (true≢false (sym h))

-- a sum has a constant and a plain part
sum_unread : (a b : ExprModel) (s : Sum) (i r : ℕ) → summands a b ≡ Some s → is_plain s.to ≡ true → (expr_reads i a (register r) || expr_reads i b (register r)) ≡ false
sum_unread (const w c) b s i r e p =
    let same = (sum_is_with w c b s e).is in plain_unread b i r (ap (λ (z : Sum). is_plain z.to) same ∙ p)
sum_unread a (const w c) s i r e p =
    let same = (sum_is_with w c a s e).is in
    or_from (expr_reads i a (register r)) false (plain_unread a i r (ap (λ (z : Sum). is_plain z.to) same ∙ p)) refl
sum_unread a b s i r e p = absurd (cc)

pub shape_unread : (t : ExprModel) (i r : ℕ) → is_shape t ≡ true → expr_reads i t (register r) ≡ false
shape_unread (bin Add a b) i r h = by (summands a b) refl h
  where
    by : (o : Option Sum) → summands a b ≡ o → is_plain_sum o ≡ true → (expr_reads i a (register r) || expr_reads i b (register r)) ≡ false
    by None e p = absurd (true≢false (sym p))
    by (Some s) e p = sum_unread a b s i r e p
shape_unread (bin _ a b) i r h = absurd (true≢false (sym h))
shape_unread (const w v) i r h = refl
shape_unread (zext a w) i r h = field_unread a i r h
shape_unread (sext a w) i r h = field_unread a i r h
shape_unread (word w) i r h = refl
shape_unread (slice a hi lo) i r h = field_unread (slice a hi lo) i r h
shape_unread t i r h = absurd (true≢false (sym h))

chosen : (b : Bool) (x y : Option MatchModel) (f : MatchModel) → (if b then x else y) ≡ Some f → ((b ≡ true) × (x ≡ Some f)) ⊎ (y ≡ Some f)
chosen true x y f h = inl (refl, h)
chosen false x y f h = inr h

module _ (temps : ℕ) (before : State) where
  -- the trees of the leaves read nothing below the temporary cells
  abbrev pub LeavesRead : List LeafModel → Type 0
  LeavesRead [] = Unit {0}
  LeavesRead (operand id tree whole ∷ leaves) = ReadsFrom temps before tree × LeavesRead leaves
  LeavesRead (cut shape tree ∷ leaves) = ReadsFrom temps before tree × LeavesRead leaves

  pub read-append : (xs ys : List LeafModel) → LeavesRead xs → LeavesRead ys → LeavesRead (xs ++ ys)
  read-append [] ys h k = k
  read-append (operand id tree whole ∷ xs) ys h k = (h.0, read-append xs ys h.1 k)
  read-append (cut shape tree ∷ xs) ys h k = (h.0, read-append xs ys h.1 k)

  -- what a match of this expression takes: trees that read nothing below, and an operand for each
  -- register that the expression reads
  pub record IsTaken (e t : ExprModel) (f : MatchModel) : Type 0 where
    pub leaves : ReadsFrom temps before t → LeavesRead f.leaves
    pub given : (size : ℕ) → CellsShown size e → (i r : ℕ) → expr_reads i e (register r) ≡ true → IsIdOf (operands_of f.leaves) r

  abbrev Takes : ExprModel → Type 0
  Takes a = (t : ExprModel) (whole : Bool) (f : MatchModel) → matched temps a t whole ≡ Some f → IsTaken a t f

  shape_taken : (e t : ExprModel) (f : MatchModel) → ((i r : ℕ) → expr_reads i e (register r) ≡ false) → shape_match e t ≡ Some f → IsTaken e t f
  shape_taken e t f n h =
      let l : Literal e t f = literal e t f h in
      record {
        leaves = λ k. subst (λ (z : MatchModel). LeavesRead z.leaves) l.is tt;
        given = λ size q i r k. absurd (true≢false (sym k ∙ n i r));
      }

  reg_taken : (id w : ℕ) → Takes (reg id w)
  reg_taken id w t whole f h =
      let p : ((w == expr_width t) ≡ true) × (record { setting = 0; leaves = operand (in_register id) t whole ∷ [] } ≡ f) = opened _ _ _ h in
      record {
        leaves = λ k. subst (λ (z : MatchModel). LeavesRead z.leaves) p.1 (k, tt);
        given = λ size q i r k. subst (λ (z : MatchModel). IsIdOf (operands_of z.leaves) r) p.1 (inl (ap in_register (eq_id r id k)));
      }
    where
      eq_id : (r id : ℕ) → (r == id) ≡ true → id ≡ r
      eq_id r id k = sym (eqb-true r id k)

  -- a read of the file at a field shape reads no register
  file_taken : (a : ExprModel) (w : ℕ) → Takes (read InFile a w)
  file_taken a w t whole f h =
      let p : ((w == expr_width t) ≡ true) × (record { setting = 0; leaves = operand (in_file a) t whole ∷ [] } ≡ f) = opened _ _ _ h in
      record {
        leaves = λ k. subst (λ (z : MatchModel). LeavesRead z.leaves) p.1 (k, tt);
        given = λ size q i r k. absurd (true≢false (sym k ∙ shape_unread a i r q.0));
      }

  un_taken : (a : ExprModel) (op : Op1) → Takes a → (t : ExprModel) (f : MatchModel) → un_match (matched temps a) op t ≡ Some f → IsTaken (un op a) t f
  un_taken a op ih (un o b) f h =
      let p : (same_op1 o op ≡ true) × (matched temps a b false ≡ Some f) = picked _ _ _ h in
      let m : IsTaken a b f = ih b false f p.1 in
      record { leaves = m.leaves; given = m.given }
  un_taken a op ih t f h = absurd (cc)

  bin_taken : (a b : ExprModel) (op : Op2) → Takes a → Takes b → (t : ExprModel) (f : MatchModel) → bin_match (matched temps a) (matched temps b) op t ≡ Some f → IsTaken (bin op a b) t f
  bin_taken a b op iha ihb (bin o c d) f h =
      let p : (same_op2 o op ≡ true) × (both (matched temps a c false) (matched temps b d false) ≡ Some f) = picked _ _ _ h in
      let j : Joined (matched temps a c false) (matched temps b d false) f = joined _ _ _ p.1 in
      let m : IsTaken a c j.first = iha c false j.first j.is_first in
      let n : IsTaken b d j.second = ihb d false j.second j.is_second in
      record {
        leaves = λ k. subst (λ (z : MatchModel). LeavesRead z.leaves) j.is (read-append j.first.leaves j.second.leaves (m.leaves k.0) (n.leaves k.1));
        given = λ size q i r k. subst (λ (z : MatchModel). IsIdOf (operands_of z.leaves) r) j.is
            (subst (λ z. IsIdOf z r) (sym (operands-append j.first.leaves j.second.leaves))
            (elim (or_cases (expr_reads i a (register r)) (expr_reads i b (register r)) k) as (λ _. IsIdOf (operands_of j.first.leaves ++ operands_of j.second.leaves) r) [
              | inl u ↦ id_left _ _ r (m.given size q.0 i r u)
              | inr u ↦ id_right (operands_of j.first.leaves) _ r (n.given size q.1 i r u)
            ]));
      }
  bin_taken a b op iha ihb t f h = absurd (cc)

  read_taken : (a : ExprModel) (w : ℕ) → Takes a → (t : ExprModel) (f : MatchModel) → read_match (matched temps a) w t ≡ Some f → IsTaken (read InMemory a w) t f
  read_taken a w ih (read InMemory b v) f h =
      let p : ((v == w) ≡ true) × (matched temps a b (is_number b) ≡ Some f) = picked _ _ _ h in
      let m : IsTaken a b f = ih b (is_number b) f p.1 in
      record { leaves = λ k. m.leaves k.1; given = m.given }
  read_taken a w ih t f h = absurd (cc)

  number_taken : (a : ExprModel) (w : ℕ) (t : ExprModel) (f : MatchModel) → is_shape a ≡ true → literal_match a t ≡ Some f → IsTaken (read InMemory a w) t f
  number_taken a w (read InMemory b v) f e h =
      let m : IsTaken a b f = shape_taken a b f (λ i r. shape_unread a i r e) h in
      record { leaves = λ k. m.leaves k.1; given = m.given }
  number_taken a w t f e h = absurd (cc)

  cut_taken : (a : ExprModel) (w : ℕ) (t : ExprModel) (b : Bool) (f : MatchModel) → is_shape a ≡ true → open_if b (cut a t) ≡ Some f → IsTaken (read InMemory a w) t f
  cut_taken a w t b f e h =
      let p : (b ≡ true) × (record { setting = 0; leaves = cut a t ∷ [] } ≡ f) = opened _ _ _ h in
      record {
        leaves = λ k. subst (λ (z : MatchModel). LeavesRead z.leaves) p.1 (k, tt);
        given = λ size q i r k. absurd (true≢false (sym k ∙ shape_unread a i r e));
      }

  cell_taken : (a : ExprModel) (w : ℕ) (t : ExprModel) (whole : Bool) (f : MatchModel) → is_shape a ≡ true → cell_match temps a w t whole ≡ Some f → IsTaken (read InMemory a w) t f
  cell_taken a w t whole f e h =
      let p : ((w == expr_width t) ≡ true)
      × ((if is_cell t then literal_match a t else open_if (not whole && shows_below a temps) (cut a t)) ≡ Some f) = picked _ _ _ h in
      elim (chosen (is_cell t) (literal_match a t) (open_if (not whole && shows_below a temps) (cut a t)) f p.1)
      as (λ _. IsTaken (read InMemory a w) t f) [
        | inl l ↦ number_taken a w t f e l.1
        | inr l ↦ cut_taken a w t _ f e l
      ]

  slice_taken : (a : ExprModel) (hi lo : ℕ) → Takes a → (t : ExprModel) (f : MatchModel) → slice_match (matched temps a) (expr_width a) hi lo t ≡ Some f → IsTaken (slice a hi lo) t f
  slice_taken a hi lo ih (slice b h' l') f h =
      let p : (((expr_width b == expr_width a) && ((h' == hi) && (l' == lo))) ≡ true) × (matched temps a b false ≡ Some f) = picked _ _ _ h in
      let m : IsTaken a b f = ih b false f p.1 in
      record { leaves = m.leaves; given = m.given }
  slice_taken a hi lo ih t f h = absurd (cc)

  zext_taken : (a : ExprModel) (w : ℕ) → Takes a → (t : ExprModel) (f : MatchModel) → zext_match (matched temps a) (expr_width a) w t ≡ Some f → IsTaken (zext a w) t f
  zext_taken a w ih (zext b v) f h =
      let p : (((expr_width b == expr_width a) && (v == w)) ≡ true) × (matched temps a b false ≡ Some f) = picked _ _ _ h in
      let m : IsTaken a b f = ih b false f p.1 in
      record { leaves = m.leaves; given = m.given }
  zext_taken a w ih t f h = absurd (cc)

  sext_taken : (a : ExprModel) (w : ℕ) → Takes a → (t : ExprModel) (f : MatchModel) → sext_match (matched temps a) (expr_width a) w t ≡ Some f → IsTaken (sext a w) t f
  sext_taken a w ih (sext b v) f h =
      let p : (((expr_width b == expr_width a) && (v == w)) ≡ true) × (matched temps a b false ≡ Some f) = picked _ _ _ h in
      let m : IsTaken a b f = ih b false f p.1 in
      record { leaves = m.leaves; given = m.given }
  sext_taken a w ih t f h = absurd (cc)

  pub matched_taken : (e : ExprModel) → Takes e
  matched_taken (word w) t whole f h = shape_taken (word w) t f (λ i r. refl) h
  matched_taken (const w v) t whole f h = shape_taken (const w v) t f (λ i r. refl) h
  matched_taken (reg id w) t whole f h = reg_taken id w t whole f h
  matched_taken (read InFile a w) t whole f h = file_taken a w t whole f h
  matched_taken (read InMemory a w) t whole f h =
      elim (chosen (is_shape a) (cell_match temps a w t whole) (read_match (matched temps a) w t) f h) as (λ _. IsTaken (read InMemory a w) t f) [
        | inl l ↦ cell_taken a w t whole f l.0 l.1
        | inr l ↦ read_taken a w (matched_taken a) t f l
      ]
  matched_taken (un op a) t whole f h = un_taken a op (matched_taken a) t f h
  matched_taken (bin op a b) t whole f h =
      elim (chosen (is_shape (bin op a b)) (shape_match (bin op a b) t) (bin_match (matched temps a) (matched temps b) op t) f h) as (λ _. IsTaken (bin op a b) t f) [
        | inl l ↦ shape_taken (bin op a b) t f (λ i r. shape_unread (bin op a b) i r l.0) l.1
        | inr l ↦ bin_taken a b op (matched_taken a) (matched_taken b) t f l
      ]
  matched_taken (slice a hi lo) t whole f h =
      elim (chosen (is_shape (slice a hi lo)) (shape_match (slice a hi lo) t) (slice_match (matched temps a) (expr_width a) hi lo t) f h) as (λ _. IsTaken (slice a hi lo) t f) [
        | inl l ↦ shape_taken (slice a hi lo) t f (λ i r. shape_unread (slice a hi lo) i r l.0) l.1
        | inr l ↦ slice_taken a hi lo (matched_taken a) t f l
      ]
  matched_taken (zext a w) t whole f h =
      elim (chosen (is_shape (zext a w)) (shape_match (zext a w) t) (zext_match (matched temps a) (expr_width a) w t) f h) as (λ _. IsTaken (zext a w) t f) [
        | inl l ↦ shape_taken (zext a w) t f (λ i r. shape_unread (zext a w) i r l.0) l.1
        | inr l ↦ zext_taken a w (matched_taken a) t f l
      ]
  matched_taken (sext a w) t whole f h =
      elim (chosen (is_shape (sext a w)) (shape_match (sext a w) t) (sext_match (matched temps a) (expr_width a) w t) f h) as (λ _. IsTaken (sext a w) t f) [
        | inl l ↦ shape_taken (sext a w) t f (λ i r. shape_unread (sext a w) i r l.0) l.1
        | inr l ↦ sext_taken a w (matched_taken a) t f l
      ]
  matched_taken (cat a b) t whole f h = absurd (cc)
  matched_taken (select c a b) t whole f h = absurd (cc)
