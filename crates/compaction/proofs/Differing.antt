-- Destinations that differ.
use Rattle.std.proofs.Common.{◌≡◌, ℕ, ◌&&◌, ◌==◌, Bool, true, false, not, if◌then◌else◌, List, [], ◌∷◌, ◌++◌, refl, sym}
use Rattle.std.proofs.lemmas.Bool.{true≢false, eqb-false, ne_eqb, or_from, or_parts, and_from, and_parts, not_from_false}
use Rattle.rec_bits.proofs.Booleans.{not_true}
use Rattle.net_model.specs.declared.hardware.Space.{Space}
use Rattle.net_model.specs.declared.hardware.Space.TheVariants.{Memory as InMemory, File as InFile}
use Rattle.net_model.specs.Exprs.{ExprModel, TransferModel, keep, write, write_at}
use Rattle.net_model.specs.Symbolic.{no_state}
use Rattle.net_model.specs.Meaning.{mean}
use Rattle.form_model.specs.Shapes.{is_shape}
use Rattle.form_model.specs.Effects.{Operation, cell_at, some_cell, may_see, same_destination}
use Rattle.compaction.specs.Packing.{all_differ, shares_destination}

-- what two locations of cells may see of one another
abbrev seen : Space → Space → Bool → Bool → ℕ → ℕ → Bool
seen s t x y v w = may_see (if x then cell_at s v else some_cell s) (if y then cell_at t w else some_cell t)

seen_sym : (s : Space) (x y : Bool) (v w : ℕ) → seen s s x y v w ≡ false → seen s s y x w v ≡ false
seen_sym InMemory true true v w e = ne_eqb w v (λ k. eqb-false v w e (sym k))
seen_sym InMemory true false v w e = absurd (true≢false e)
seen_sym InMemory false true v w e = absurd (true≢false e)
seen_sym InMemory false false v w e = absurd (true≢false e)
seen_sym InFile true true v w e = ne_eqb w v (λ k. eqb-false v w e (sym k))
seen_sym InFile true false v w e = absurd (true≢false e)
seen_sym InFile false true v w e = absurd (true≢false e)
seen_sym InFile false false v w e = absurd (true≢false e)

unseen_other : (x y : Bool) (v w : ℕ) → seen InFile InMemory x y v w ≡ false
unseen_other true true v w = refl
unseen_other true false v w = refl
unseen_other false true v w = refl
unseen_other false false v w = refl

-- a step of these parts
abbrev pub step : ℕ → Space → TransferModel → ℕ → Operation
step storage space move setting = record { storage = storage; space = space; move = move; setting = setting }

stores_sym : (a b : ℕ) (s t : Space) (c v d w : ExprModel) (i j : ℕ) → same_destination (step a s (write_at c v) i) (step b t (write_at d w) j) ≡ false → same_destination (step b t (write_at d w) j) (step a s (write_at c v) i) ≡ false
stores_sym a b InMemory InMemory c v d w i j e = absurd (true≢false e)
stores_sym a b InMemory InFile c v d w i j e = unseen_other (is_shape d) (is_shape c) (mean d no_state j) (mean c no_state i)
stores_sym a b InFile InMemory c v d w i j e = refl
stores_sym a b InFile InFile c v d w i j e = seen_sym InFile (is_shape c) (is_shape d) (mean c no_state i) (mean d no_state j) e

transfer_sym : (a b : ℕ) (s t : Space) (p q : TransferModel) (i j : ℕ) → same_destination (step a s p i) (step b t q j) ≡ false → same_destination (step b t q j) (step a s p i) ≡ false
transfer_sym a b s t (write_at c v) (write_at d w) i j e = stores_sym a b s t c v d w i j e
transfer_sym a b s t (write_at c v) keep i j e = refl
transfer_sym a b s t (write_at c v) (write w) i j e = refl
transfer_sym a b s t keep (write_at d w) i j e = refl
transfer_sym a b s t (write v) (write_at d w) i j e = refl
transfer_sym a b s t keep keep i j e = ne_eqb b a (λ k. eqb-false a b e (sym k))
transfer_sym a b s t keep (write w) i j e = ne_eqb b a (λ k. eqb-false a b e (sym k))
transfer_sym a b s t (write v) keep i j e = ne_eqb b a (λ k. eqb-false a b e (sym k))
transfer_sym a b s t (write v) (write w) i j e = ne_eqb b a (λ k. eqb-false a b e (sym k))

same_destination_sym : (p q : Operation) → same_destination p q ≡ false → same_destination q p ≡ false
same_destination_sym p q e = transfer_sym p.storage q.storage p.space q.space p.move q.move p.setting q.setting e

module _ {A : Type 0} (m : A → Operation) where
  unshared_at : (p : Operation) (a b : List A) (x : A) → shares_destination m p (a ++ x ∷ b) ≡ false → same_destination p (m x) ≡ false
  unshared_at p [] b x e = (or_parts (same_destination p (m x)) (shares_destination m p b) e).0
  unshared_at p (y ∷ a) b x e = unshared_at p a b x (or_parts (same_destination p (m y)) (shares_destination m p (a ++ x ∷ b)) e).1

  unshared_less : (p : Operation) (a b : List A) (x : A) → shares_destination m p (a ++ x ∷ b) ≡ false → shares_destination m p (a ++ b) ≡ false
  unshared_less p [] b x e = (or_parts (same_destination p (m x)) (shares_destination m p b) e).1
  unshared_less p (y ∷ a) b x e =
      let w : (same_destination p (m y) ≡ false) × (shares_destination m p (a ++ x ∷ b) ≡ false) = or_parts _ _ e in
      or_from _ _ w.0 (unshared_less p a b x w.1)

  unshared_more : (p : Operation) (a : List A) (x : A) → shares_destination m p a ≡ false → same_destination p (m x) ≡ false → shares_destination m p (a ++ x ∷ []) ≡ false
  unshared_more p [] x e f = or_from _ _ f refl
  unshared_more p (y ∷ a) x e f =
      let w : (same_destination p (m y) ≡ false) × (shares_destination m p a ≡ false) = or_parts _ _ e in
      or_from _ _ w.0 (unshared_more p a x w.1 f)

  pub differ_parts : (y : A) (g : List A) → all_differ m (y ∷ g) ≡ true → (shares_destination m (m y) g ≡ false) × (all_differ m g ≡ true)
  differ_parts y g e =
      let w : (not (shares_destination m (m y) g) ≡ true) × (all_differ m g ≡ true) = and_parts _ _ e in
      (not_true _ w.0, w.1)

  -- the destinations before x differ from its own
  pub differ_at : (a b : List A) (x : A) → all_differ m (a ++ x ∷ b) ≡ true → shares_destination m (m x) a ≡ false
  differ_at [] b x e = refl
  differ_at (y ∷ a) b x e =
      let w : (shares_destination m (m y) (a ++ x ∷ b) ≡ false) × (all_differ m (a ++ x ∷ b) ≡ true) = differ_parts y (a ++ x ∷ b) e in
      or_from _ _ (same_destination_sym (m y) (m x) (unshared_at (m y) a b x w.0)) (differ_at a b x w.1)

  pub differ_less : (a b : List A) (x : A) → all_differ m (a ++ x ∷ b) ≡ true → all_differ m (a ++ b) ≡ true
  differ_less [] b x e = (differ_parts x b e).1
  differ_less (y ∷ a) b x e =
      let w : (shares_destination m (m y) (a ++ x ∷ b) ≡ false) × (all_differ m (a ++ x ∷ b) ≡ true) = differ_parts y (a ++ x ∷ b) e in
      and_from _ _ (not_from_false _ (unshared_less (m y) a b x w.0)) (differ_less a b x w.1)

  pub differ_more : (g : List A) (x : A) → all_differ m g ≡ true → shares_destination m (m x) g ≡ false → all_differ m (g ++ x ∷ []) ≡ true
  differ_more [] x e f = refl
  differ_more (y ∷ g) x e f =
      let w : (shares_destination m (m y) g ≡ false) × (all_differ m g ≡ true) = differ_parts y g e in
      let v : (same_destination (m x) (m y) ≡ false) × (shares_destination m (m x) g ≡ false) = or_parts _ _ f in
      and_from _ _ (not_from_false _ (unshared_more (m y) g x w.0 (same_destination_sym (m x) (m y) v.0))) (differ_more g x w.1 v.1)
