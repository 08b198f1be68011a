-- Live registers along a list of steps.
use Rattle.std.proofs.Common.{◌≡◌, ℕ, zero, suc, ◌||◌, ◌&&◌, ◌⊎◌, inl, inr, not, Bool, true, false, List, [], ◌∷◌, ◌++◌, refl, sym, ap, ◌∙◌}
use Rattle.std.specs.Prelude.{insert}
use Rattle.std.proofs.lemmas.Bool.{true≢false, cases_Bool}
use Rattle.rec_bits.proofs.Booleans.{or_left, or_right}
use Rattle.form_model.specs.declared.forms.Step.{Step}
use Rattle.form_model.specs.Matches.{LeafModel, operand, cut}
use Rattle.form_model.specs.Effects.{Operation, register, reads, writes}
use Rattle.form_model.specs.Live.{Regs, group_reads, group_writes, live_before, singles, AllSpare}
use Rattle.form_model.specs.Steps.{woven}
use Rattle.emit_seq.specs.Spares.{AreDefined, AreApart}
use Rattle.form_model.proofs.Zips.{Each}

pub singles-append : {A : Type 0} (xs ys : List A) → singles (xs ++ ys) ≡ singles xs ++ singles ys
singles-append [] ys = refl
singles-append {A} (x ∷ xs) ys = ap (λ (z : List (List A)). (x ∷ []) ∷ z) (singles-append xs ys)

module _ {A : Type 0} (m : A → Operation) (c : A → Regs) (pc : ℕ) where
  -- live before the first list where the second follows
  pub live-steps : (xs ys : List A) (after : Regs) → live_before m (singles (xs ++ ys)) after ≡ live_before m (singles xs) (live_before m (singles ys) after)
  live-steps [] ys after = refl
  live-steps (x ∷ xs) ys after = ap (λ (l : Regs). let f : Regs = λ r. group_reads m (x ∷ []) r || (l r && not (group_writes m (x ∷ []) r)) in f) (live-steps xs ys after)

  pub spare-append : (xs ys : List A) (after : Regs) → AllSpare m c xs (live_before m (singles ys) after) → AllSpare m c ys after → AllSpare m c (xs ++ ys) after
  spare-append [] ys after h k = k
  spare-append (x ∷ xs) ys after h k =
      ((λ r e f. ap (λ (l : Regs). l r) (live-steps xs ys after) ∙ h.0 r e f), spare-append xs ys after h.1 k)

  pub apart-append : (xs ys : List A) → AreApart m pc xs → AreApart m pc ys → AreApart m pc (xs ++ ys)
  apart-append [] ys h k = k
  apart-append (x ∷ xs) ys h k = (h.0, h.1, apart-append xs ys h.2 k)

  -- the steps spare what is live after them, and before them nothing else is live, and none of
  -- those that are gone
  pub record IsTidy (xs : List A) (after : Regs) (Gone : ℕ → Type 0) : Type 0 where
    pub spare : AllSpare m c xs after
    pub apart : AreApart m pc xs
    pub live : (r : ℕ) → live_before m (singles xs) after r ≡ true → after r ≡ true
    pub gone : (r : ℕ) → live_before m (singles xs) after r ≡ true → Gone r → ⊥

  pub tidy_none : (after : Regs) → IsTidy [] after (λ r. ⊥)
  tidy_none after = record { spare = tt; apart = tt; live = λ r h. h; gone = λ r h k. k }

  pub tidy_append : (xs ys : List A) (after : Regs) (F G H : ℕ → Type 0) → IsTidy xs (live_before m (singles ys) after) F → IsTidy ys after G
      → ((r : ℕ) → H r → F r ⊎ G r) → IsTidy (xs ++ ys) after H
  tidy_append xs ys after F G H x y f = record {
    spare = spare-append xs ys after x.spare y.spare;
    apart = apart-append xs ys x.apart y.apart;
    live = λ r h. y.live r (x.live r (first r h));
    gone = λ r h k. elim (f r k) as (λ _. ⊥) [ inl u ↦ x.gone r (first r h) u | inr u ↦ y.gone r (x.live r (first r h)) u ];
  }
    where
      first : (r : ℕ) → live_before m (singles (xs ++ ys)) after r ≡ true → live_before m (singles xs) (live_before m (singles ys) after) r ≡ true
      first r h = sym (ap (λ (l : Regs). l r) (live-steps xs ys after)) ∙ h

  -- steps that are tidy where nothing is live after them
  abbrev pub IsAlone : List A → Type 0
  IsAlone xs = (after : Regs) → ((r : ℕ) → after r ≡ true → ⊥) → IsTidy xs after (λ r. ⊥)

  pub alone_none : IsAlone []
  alone_none after h = tidy_none after

  pub alone_append : (xs ys : List A) → IsAlone xs → IsAlone ys → IsAlone (xs ++ ys)
  alone_append xs ys x y after h =
      let u : IsTidy ys after (λ r. ⊥) = y after h in
      tidy_append xs ys after (λ r. ⊥) (λ r. ⊥) (λ r. ⊥) (x (live_before m (singles ys) after) (λ r e. h r (u.live r e))) u (λ r k. inl k)

  pub each_in : {X : Type 0} (P : X → Type 0) (xs : List X) (i : ℕ) (x : X) → P x → Each P xs → Each P (insert xs i x)
  each_in P xs zero x p h = (p, h)
  each_in P [] (suc i) x p h = (p, tt)
  each_in P (y ∷ xs) (suc i) x p h = (h.0, each_in P xs i x p h.1)

  -- what is live at the start is known, so each read is given
  pub given_of : (xs : List A) (known after : Regs) → ((r : ℕ) → live_before m (singles xs) after r ≡ true → known r ≡ true) → AreDefined m known xs after
  given_of [] known after h = h
  given_of (x ∷ xs) known after h =
      ((λ r e. h r (read_live (reads (m x) (register r)) _ _ e)), given_of xs (λ r. known r || writes (m x) r) after (λ r e. later r e (cases_Bool (writes (m x) r))))
    where
      read_live : (a b d : Bool) → a ≡ true → ((a || b) || d) ≡ true
      read_live true b d e = refl
      read_live false b d e = absurd (true≢false (sym e))

      kept_live : (a b d : Bool) → b ≡ true → d ≡ false → ((a || false) || (b && not (d || false))) ≡ true
      kept_live true b d e f = refl
      kept_live false true false e f = refl
      kept_live false true true e f = absurd (true≢false f)
      kept_live false false d e f = absurd (true≢false (sym e))

      later : (r : ℕ) → live_before m (singles xs) after r ≡ true → (writes (m x) r ≡ true) ⊎ (writes (m x) r ≡ false) → (known r || writes (m x) r) ≡ true
      later r e (inl w) = or_right (known r) _ w
      later r e (inr w) = or_left _ (writes (m x) r) (h r (kept_live (reads (m x) (register r)) (live_before m (singles xs) after r) (writes (m x) r) e w))

module _ (m : Step → Operation) (c : Step → Regs) (pc : ℕ) where
  pub woven_alone : (leaves : List LeafModel) (xs ys : List (List Step)) → Each (IsAlone m c pc) xs → Each (IsAlone m c pc) ys → IsAlone m c pc (woven leaves xs ys)
  woven_alone [] xs ys h k = alone_none m c pc
  woven_alone (operand id tree whole ∷ leaves) [] ys h k = woven_alone leaves [] ys h k
  woven_alone (operand id tree whole ∷ leaves) (x ∷ xs) ys h k = alone_append m c pc x (woven leaves xs ys) h.0 (woven_alone leaves xs ys h.1 k)
  woven_alone (cut shape tree ∷ leaves) xs [] h k = woven_alone leaves xs [] h k
  woven_alone (cut shape tree ∷ leaves) xs (y ∷ ys) h k = alone_append m c pc y (woven leaves xs ys) k.0 (woven_alone leaves xs ys h k.1)
