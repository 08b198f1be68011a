-- There is one packing that is written.
use Rattle.std.proofs.Common.{◌≡◌, ℕ, ◌+◌, ◌-◌, ◌≤◌, inl, inr, suc, List, [], ◌∷◌, ◌++◌, length, length-append, Some, refl, sym, ◌∙◌, ap, arith, subst}
use Rattle.std.specs.List.{remove, slice_get}
use Rattle.std.proofs.lemmas.Bool.{cases_lt}
use Rattle.rec_bits.proofs.Lists.{get_seam, remove_seam}
use Rattle.form_model.specs.Effects.{Operation}
use Rattle.form_model.specs.Live.{Regs, live_before}
use Rattle.compaction.specs.Packing.{Mergeable, Movable}
use Rattle.compaction.specs.Chosen.{Packs, ends, merges, moves, stays}

-- the lists are split alike
record IsSplitAlike {X : Type 0} (f : List X) (x : X) (b g : List X) (y : X) (c : List X) : Type 0 where
  front : f ≡ g
  one : x ≡ y
  back : b ≡ c

module _ {X : Type 0} where
  split_alike : (f : List X) (x : X) (b g : List X) (y : X) (c : List X) → f ++ x ∷ b ≡ g ++ y ∷ c → length f ≡ length g → IsSplitAlike f x b g y c
  split_alike [] x b [] y c e n = record { front = refl; one = cc; back = cc }
  split_alike [] x b (z ∷ g) y c e n = absurd (omega arith)
  split_alike (z ∷ f) x b [] y c e n = absurd (omega arith)
  split_alike (z ∷ f) x b (w ∷ g) y c e n =
      let t : f ++ x ∷ b ≡ g ++ y ∷ c = cc in
      let h : z ≡ w = cc in
      let s : IsSplitAlike f x b g y c = split_alike f x b g y c t (omega arith) in
      record { front = ap (λ k. k ∷ f) h ∙ ap (λ k. w ∷ k) s.front; one = s.one; back = s.back }

-- the pair of a list at a place
record IsPair {A : Type 0} (gs : List (List A)) (pair : ℕ) (front : List (List A)) (g h : List A) (back : List (List A)) : Type 0 where
  split : gs ≡ front ++ g ∷ h ∷ back
  place : length front ≡ pair

record IsOnePair {A : Type 0} (f : List (List A)) (g h : List A) (b f1 : List (List A)) (g1 h1 : List A) (b1 : List (List A)) : Type 0 where
  front : f ≡ f1
  first : g ≡ g1
  second : h ≡ h1
  back : b ≡ b1

module _ {A : Type 0} (m : A → Operation) (fits : ℕ → List A → Regs → Type 0) (after : Regs) where
  one_pair : (gs : List (List A)) (pair : ℕ) (f : List (List A)) (g h : List A) (b f1 : List (List A)) (g1 h1 : List A) (b1 : List (List A)) → IsPair gs pair f g h b → IsPair gs pair f1 g1 h1 b1 → IsOnePair f g h b f1 g1 h1 b1
  one_pair gs pair f g h b f1 g1 h1 b1 p q =
      let s : IsSplitAlike f g (h ∷ b) f1 g1 (h1 ∷ b1) = split_alike f g (h ∷ b) f1 g1 (h1 ∷ b1) (sym p.split ∙ q.split) (p.place ∙ sym q.place) in
      let e : h ∷ b ≡ h1 ∷ b1 = s.back in
      record { front = s.front; first = s.one; second = cc; back = cc }

  no_end : (gs : List (List A)) (pair : ℕ) (f : List (List A)) (g h : List A) (b : List (List A)) → IsPair gs pair f g h b → length gs ≤ pair + 1 → ⊥
  no_end gs pair f g h b p n = absurd (omega (arith, ap (λ (z : List (List A)). length z) p.split, length-append f (g ∷ h ∷ b), p.place, n))

  -- what is told of one pair is told of the other
  merge_there : (g h : List A) (b : List (List A)) (g1 h1 : List A) (b1 : List (List A)) → g ≡ g1 → h ≡ h1 → b ≡ b1 → Mergeable m fits g h (live_before m b after) → Mergeable m fits g1 h1 (live_before m b1 after)
  merge_there g h b g1 h1 b1 eg eh eb w =
      subst (λ z. Mergeable m fits z h1 (live_before m b1 after)) eg
      (subst (λ z. Mergeable m fits g z (live_before m b1 after)) eh
      (subst (λ z. Mergeable m fits g h (live_before m z after)) eb w))

  -- a step that may move isn't one that may not
  move_not : (g a : List A) (x : A) (b : List A) (back : List (List A)) (g1 h1 : List A) (back1 : List (List A)) → g ≡ g1 → a ++ x ∷ b ≡ h1 → back ≡ back1 → Movable m fits g x (a ++ b) (live_before m back after)
      → ((y : A) → slice_get h1 (length a) ≡ Some y → Movable m fits g1 y (remove h1 (length a)) (live_before m back1 after) → ⊥) → ⊥
  move_not g a x b back g1 h1 back1 eg eh eb w u =
      u x (ap (λ z. slice_get z (length a)) (sym eh) ∙ get_seam a x b)
      (subst (λ z. Movable m fits z x (remove h1 (length a)) (live_before m back1 after)) eg
      (subst (λ z. Movable m fits g x z (live_before m back1 after)) (sym (remove_seam a x b) ∙ ap (λ z. remove z (length a)) eh)
      (subst (λ z. Movable m fits g x (a ++ b) (live_before m z after)) eb w)))

  -- two packings by this rule are one
  pub one_packing : (pair : ℕ) (gs r s : List (List A)) → Packs m fits after pair gs r → Packs m fits after pair gs s → r ≡ s
  one_packing pair gs r s (ends _ _ _ n e) (ends _ _ _ k f) = e ∙ sym f
  one_packing pair gs r s (ends _ _ _ n e) (merges _ _ _ f1 g1 h1 b1 e1 p1 c1 w1) = absurd (no_end gs pair f1 g1 h1 b1 (record { split = e1; place = p1 }) n)
  one_packing pair gs r s (ends _ _ _ n e) (moves _ _ _ f1 g1 a1 x1 y1 b1 e1 p1 u1 c1 v1 w1) = absurd (no_end gs pair f1 g1 (a1 ++ x1 ∷ y1) b1 (record { split = e1; place = p1 }) n)
  one_packing pair gs r s (ends _ _ _ n e) (stays _ _ _ f1 g1 h1 b1 e1 p1 c1 w1) = absurd (no_end gs pair f1 g1 h1 b1 (record { split = e1; place = p1 }) n)
  one_packing pair gs r s (merges _ _ _ f g h b e p c w) (ends _ _ _ n k) = absurd (no_end gs pair f g h b (record { split = e; place = p }) n)
  one_packing pair gs r s (merges _ _ _ f g h b e p c w) (merges _ _ _ f1 g1 h1 b1 e1 p1 c1 w1) =
      let o : IsOnePair f g h b f1 g1 h1 b1 = one_pair gs pair f g h b f1 g1 h1 b1 (record { split = e; place = p }) (record { split = e1; place = p1 }) in
      let same : f1 ++ (g1 ++ h1) ∷ b1 ≡ f ++ (g ++ h) ∷ b = cc (o.front, o.first, o.second, o.back) in
      one_packing (pair - 1) (f ++ (g ++ h) ∷ b) r s w (subst (λ z. Packs m fits after (pair - 1) z s) same w1)
  one_packing pair gs r s (merges _ _ _ f g h b e p c w) (moves _ _ _ f1 g1 a1 x1 y1 b1 e1 p1 u1 c1 v1 w1) =
      let o : IsOnePair f g h b f1 g1 (a1 ++ x1 ∷ y1) b1 = one_pair gs pair f g h b f1 g1 (a1 ++ x1 ∷ y1) b1 (record { split = e; place = p }) (record { split = e1; place = p1 }) in
      absurd (u1 (merge_there g h b g1 (a1 ++ x1 ∷ y1) b1 o.first o.second o.back c))
  one_packing pair gs r s (merges _ _ _ f g h b e p c w) (stays _ _ _ f1 g1 h1 b1 e1 p1 c1 w1) =
      let o : IsOnePair f g h b f1 g1 h1 b1 = one_pair gs pair f g h b f1 g1 h1 b1 (record { split = e; place = p }) (record { split = e1; place = p1 }) in
      absurd (c1.unmergeable (merge_there g h b g1 h1 b1 o.first o.second o.back c))
  one_packing pair gs r s (moves _ _ _ f g a x y b e p u c v w) (ends _ _ _ n k) = absurd (no_end gs pair f g (a ++ x ∷ y) b (record { split = e; place = p }) n)
  one_packing pair gs r s (moves _ _ _ f g a x y b e p u c v w) (merges _ _ _ f1 g1 h1 b1 e1 p1 c1 w1) =
      let o : IsOnePair f1 g1 h1 b1 f g (a ++ x ∷ y) b = one_pair gs pair f1 g1 h1 b1 f g (a ++ x ∷ y) b (record { split = e1; place = p1 }) (record { split = e; place = p }) in
      absurd (u (merge_there g1 h1 b1 g (a ++ x ∷ y) b o.first o.second o.back c1))
  one_packing pair gs r s (moves _ _ _ f g a x y b e p u c v w) (moves _ _ _ f1 g1 a1 x1 y1 b1 e1 p1 u1 c1 v1 w1) =
      let o : IsOnePair f g (a ++ x ∷ y) b f1 g1 (a1 ++ x1 ∷ y1) b1 = one_pair gs pair f g (a ++ x ∷ y) b f1 g1 (a1 ++ x1 ∷ y1) b1 (record { split = e; place = p }) (record { split = e1; place = p1 }) in
      elim (cases_lt (length a) (length a1)) as (λ _. r ≡ s) [
        | inl lt ↦ absurd (move_not g a x y b g1 (a1 ++ x1 ∷ y1) b1 o.first o.second o.back c (λ z k t. v1 (length a) lt z k t))
        | inr ge ↦ elim (cases_lt (length a1) (length a)) as (λ _. r ≡ s) [
          | inl lt ↦ absurd (move_not g1 a1 x1 y1 b1 g (a ++ x ∷ y) b (sym o.first) (sym o.second) (sym o.back) c1 (λ z k t. v (length a1) lt z k t))
          | inr le ↦
              (let q : IsSplitAlike a x y a1 x1 y1 = split_alike a x y a1 x1 y1 o.second (omega arith) in
              let same : f1 ++ (g1 ++ x1 ∷ []) ∷ (a1 ++ y1) ∷ b1 ≡ f ++ (g ++ x ∷ []) ∷ (a ++ y) ∷ b = cc (o.front, o.first, o.back, q.front, q.one, q.back) in
              one_packing (pair - 1) (f ++ (g ++ x ∷ []) ∷ (a ++ y) ∷ b) r s w (subst (λ z. Packs m fits after (pair - 1) z s) same w1))
        ]
      ]
  one_packing pair gs r s (moves _ _ _ f g a x y b e p u c v w) (stays _ _ _ f1 g1 h1 b1 e1 p1 c1 w1) =
      let o : IsOnePair f g (a ++ x ∷ y) b f1 g1 h1 b1 = one_pair gs pair f g (a ++ x ∷ y) b f1 g1 h1 b1 (record { split = e; place = p }) (record { split = e1; place = p1 }) in
      absurd (move_not g a x y b g1 h1 b1 o.first o.second o.back c (λ z k t. c1.unmovable (length a) z k t))
  one_packing pair gs r s (stays _ _ _ f g h b e p c w) (ends _ _ _ n k) = absurd (no_end gs pair f g h b (record { split = e; place = p }) n)
  one_packing pair gs r s (stays _ _ _ f g h b e p c w) (merges _ _ _ f1 g1 h1 b1 e1 p1 c1 w1) =
      let o : IsOnePair f1 g1 h1 b1 f g h b = one_pair gs pair f1 g1 h1 b1 f g h b (record { split = e1; place = p1 }) (record { split = e; place = p }) in
      absurd (c.unmergeable (merge_there g1 h1 b1 g h b o.first o.second o.back c1))
  one_packing pair gs r s (stays _ _ _ f g h b e p c w) (moves _ _ _ f1 g1 a1 x1 y1 b1 e1 p1 u1 c1 v1 w1) =
      let o : IsOnePair f1 g1 (a1 ++ x1 ∷ y1) b1 f g h b = one_pair gs pair f1 g1 (a1 ++ x1 ∷ y1) b1 f g h b (record { split = e1; place = p1 }) (record { split = e; place = p }) in
      absurd (move_not g1 a1 x1 y1 b1 g h b o.first o.second o.back c1 (λ z k t. c.unmovable (length a1) z k t))
  one_packing pair gs r s (stays _ _ _ f g h b e p c w) (stays _ _ _ f1 g1 h1 b1 e1 p1 c1 w1) = one_packing (suc pair) gs r s w w1
