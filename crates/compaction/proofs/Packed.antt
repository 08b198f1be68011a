-- What a turn of the packer keeps.
use Rattle.std.proofs.Common.{◌≡◌, ℕ, ◌+◌, ◌-◌, ◌<◌, ◌≤◌, zero, suc, List, [], ◌∷◌, ◌++◌, length, drop, refl, sym, ◌∙◌, ap, arith, subst, length-append, Some}
use Rattle.std.specs.List.{slice_get, remove}
use Rattle.std.specs.List.Sorted.{IsPermutation}
use Rattle.rec_bits.proofs.Options.{same_Some, none-some}
use Rattle.form_model.specs.Effects.{Operation}
use Rattle.form_model.specs.Live.{Regs, live_before, singles}
use Rattle.word_fit.specs.Groups.{AllHaveWords}
use Rattle.compaction.specs.Packing.{EachDiffers, IsPacked, IsSettled, Mergeable, Movable, all_steps}
use Rattle.compaction.specs.Chosen.{Packs, merges, moves}
use Rattle.compaction.specs.Inner.Turns.{AllSettled, FirstSettled, IsPackedTo, IsSame, IsTurn, SettledTo, size, weight}
use Rattle.compaction.proofs.Differing.{differ_at, differ_less, differ_more}
use Rattle.compaction.proofs.Lives.{live-append, same_before, same_behind, same_merged, same_moved, same_refl, same_trans}

module _ {A : Type 0} where
  size-append : (gs hs : List (List A)) → size (gs ++ hs) ≡ size gs + size hs
  size-append [] hs = omega arith
  size-append (g ∷ gs) hs = omega (arith, size-append gs hs)

  weight_less : (front tail new : List (List A)) → size new ≤ size tail → weight new < weight tail → weight (front ++ new) < weight (front ++ tail)
  weight_less [] tail new s w = w
  weight_less (g ∷ front) tail new s w = omega (arith, size-append front tail, size-append front new, weight_less front tail new s w)

module _ {A : Type 0} (m : A → Operation) (fits : ℕ → List A → Regs → Type 0) (after : Regs) where
  pub live_front : (front tail new : List (List A)) → live_before m tail after ≡ live_before m new after → live_before m (front ++ tail) after ≡ live_before m (front ++ new) after
  live_front front tail new e = live-append m front tail after ∙ ap (λ l. live_before m front l) e ∙ sym (live-append m front new after)

  words_tail : (front tail : List (List A)) → AllHaveWords m fits (front ++ tail) after → AllHaveWords m fits tail after
  words_tail [] tail h = h
  words_tail (g ∷ front) tail h = words_tail front tail h.1

  words_kept : (front tail new : List (List A)) → live_before m tail after ≡ live_before m new after → AllHaveWords m fits (front ++ tail) after → AllHaveWords m fits new after → AllHaveWords m fits (front ++ new) after
  words_kept [] tail new e h k = k
  words_kept (g ∷ front) tail new e h k =
      ((h.0.0, subst (λ l. fits h.0.0 g l) (live_front front tail new e) h.0.1), words_kept front tail new e h.1 k)

  pub differ_tail : (front tail : List (List A)) → EachDiffers m (front ++ tail) → EachDiffers m tail
  differ_tail [] tail h = h
  differ_tail (g ∷ front) tail h = differ_tail front tail h.1

  differ_kept : (front tail new : List (List A)) → EachDiffers m (front ++ tail) → EachDiffers m new → EachDiffers m (front ++ new)
  differ_kept [] tail new h k = k
  differ_kept (g ∷ front) tail new h k = (h.0, differ_kept front tail new h.1 k)

  settled_less : (k : ℕ) (gs : List (List A)) → SettledTo m fits after (suc k) gs → SettledTo m fits after k gs
  settled_less zero gs h = tt
  settled_less (suc k) [] h = tt
  settled_less (suc k) (g ∷ gs) h = (h.0, settled_less k gs h.1)

  first_kept : (g : List A) (h : List A) (front tail new : List (List A)) → live_before m tail after ≡ live_before m new after → FirstSettled m fits after g (h ∷ (front ++ tail)) → FirstSettled m fits after g (h ∷ (front ++ new))
  first_kept g h front tail new e s = subst (λ l. IsSettled m fits g h l) (live_front front tail new e) s

  settled_kept : (g : List A) (front tail new : List (List A)) → live_before m tail after ≡ live_before m new after → SettledTo m fits after (length front) (g ∷ (front ++ tail)) → SettledTo m fits after (length front) (g ∷ (front ++ new))
  settled_kept g [] tail new e s = tt
  settled_kept g (h ∷ front) tail new e s = (first_kept g h front tail new e s.0, settled_kept h front tail new e s.1)

  settled_more : (front : List (List A)) (g : List A) (gs : List (List A)) → SettledTo m fits after (length front) (front ++ g ∷ gs) → FirstSettled m fits after g gs → SettledTo m fits after (suc (length front)) (front ++ g ∷ gs)
  settled_more [] g gs s f = (f, tt)
  settled_more (h ∷ front) g gs s f = (s.0, settled_more front g gs s.1 f)

  pub all_settled : (k : ℕ) (gs : List (List A)) → length gs ≤ k + 1 → SettledTo m fits after k gs → AllSettled m fits after gs
  all_settled zero [] n s = tt
  all_settled zero (g ∷ []) n s = (tt, tt)
  all_settled zero (g ∷ h ∷ gs) n s = absurd (omega arith)
  all_settled (suc k) [] n s = tt
  all_settled (suc k) (g ∷ gs) n s = (s.0, all_settled k gs (omega arith) s.1)

  settled_back : (front tail new : List (List A)) → live_before m tail after ≡ live_before m new after → SettledTo m fits after (length front) (front ++ tail) → SettledTo m fits after (length front - 1) (front ++ new)
  settled_back [] tail new e s = tt
  settled_back (g ∷ front) tail new e s =
      let n : suc (length front) - 1 ≡ length front = omega arith in
      subst (λ i. SettledTo m fits after i (g ∷ (front ++ new))) (sym n) (settled_kept g front tail new e (settled_less (length front) (g ∷ (front ++ tail)) s))

  -- a change of the groups from k on, which makes them lighter
  pub turn_back : (front tail new : List (List A)) → IsSame m tail new → AllHaveWords m fits new after → EachDiffers m new → size new ≤ size tail → weight new < weight tail → length new ≤ length tail → 1 ≤ length tail → ((result : List (List A)) → Packs m fits after (length front - 1) (front ++ new) result → Packs m fits after (length front) (front ++ tail) result) → IsPackedTo m fits after (length front) (front ++ tail) → IsTurn m fits after (front ++ tail) (front ++ new) (length front) (length front - 1)
  turn_back front tail new e w d s t n o q p = record {
    same = same_before m front tail new e;
    packed = record {
      words = words_kept front tail new (e.live after) p.words w;
      differ = differ_kept front tail new p.differ d;
      settled = settled_back front tail new (e.live after) p.settled;
    };
    less = omega (arith, weight_less front tail new s t, length-append front tail, length-append front new);
    chosen = q;
  }

  -- a pair that stays
  pub turn_on : (front : List (List A)) (g : List A) (gs : List (List A)) → FirstSettled m fits after g gs → ((result : List (List A)) → Packs m fits after (suc (length front)) (front ++ g ∷ gs) result → Packs m fits after (length front) (front ++ g ∷ gs) result) → IsPackedTo m fits after (length front) (front ++ g ∷ gs) → IsTurn m fits after (front ++ g ∷ gs) (front ++ g ∷ gs) (length front) (suc (length front))
  turn_on front g gs f q p = record {
    same = same_refl m (front ++ g ∷ gs);
    packed = record { words = p.words; differ = p.differ; settled = settled_more front g gs p.settled f };
    less = omega (arith, length-append front (g ∷ gs));
    chosen = q;
  }

  -- two neighbours are merged
  pub turn_merged : (front : List (List A)) (g h : List A) (back : List (List A)) → Mergeable m fits g h (live_before m back after) → IsPackedTo m fits after (length front) (front ++ g ∷ h ∷ back) → IsTurn m fits after (front ++ g ∷ h ∷ back) (front ++ (g ++ h) ∷ back) (length front) (length front - 1)
  turn_merged front g h back c p =
      turn_back front (g ∷ h ∷ back) ((g ++ h) ∷ back)
      (same_behind m (g ∷ h ∷ []) ((g ++ h) ∷ []) back (same_merged m g h c.apart))
      (c.word, (words_tail front (g ∷ h ∷ back) p.words).1.1)
      (c.differ, (differ_tail front (g ∷ h ∷ back) p.differ).1.1)
      (omega (arith, length-append g h))
      (omega arith)
      (omega arith)
      (omega arith)
      (λ result w. merges (length front) (front ++ g ∷ h ∷ back) result front g h back refl refl c w)
      p

  -- a step moves to the group before
  pub turn_moved : (front : List (List A)) (g a b : List A) (x : A) (back : List (List A)) → (Mergeable m fits g (a ++ x ∷ b) (live_before m back after) → ⊥) → ((i : ℕ) → i < length a → (y : A) → slice_get (a ++ x ∷ b) i ≡ Some y → Movable m fits g y (remove (a ++ x ∷ b) i) (live_before m back after) → ⊥) → Movable m fits g x (a ++ b) (live_before m back after) → IsPackedTo m fits after (length front) (front ++ g ∷ (a ++ x ∷ b) ∷ back) → IsTurn m fits after (front ++ g ∷ (a ++ x ∷ b) ∷ back) (front ++ (g ++ x ∷ []) ∷ (a ++ b) ∷ back) (length front) (length front - 1)
  turn_moved front g a b x back u v c p =
      let d : EachDiffers m (g ∷ (a ++ x ∷ b) ∷ back) = differ_tail front (g ∷ (a ++ x ∷ b) ∷ back) p.differ in
      turn_back front (g ∷ (a ++ x ∷ b) ∷ back) ((g ++ x ∷ []) ∷ (a ++ b) ∷ back)
      (same_behind m (g ∷ (a ++ x ∷ b) ∷ []) ((g ++ x ∷ []) ∷ (a ++ b) ∷ []) back (same_moved m g a b x (differ_at m a b x d.1.0) c.free.apart c.free.unread))
      (c.first, (c.second, (words_tail front (g ∷ (a ++ x ∷ b) ∷ back) p.words).1.1))
      (differ_more m g x d.0 c.free.own, (differ_less m a b x d.1.0, d.1.1))
      (omega (arith, length-append g (x ∷ []), length-append a (x ∷ b), length-append a b))
      (omega (arith, length-append a (x ∷ b), length-append a b))
      (omega arith)
      (omega arith)
      (λ result w. moves (length front) (front ++ g ∷ (a ++ x ∷ b) ∷ back) result front g a x b back refl refl u c v w)
      p

  singles_differ : (xs : List A) → EachDiffers m (singles xs)
  singles_differ [] = tt
  singles_differ (x ∷ xs) = (refl, singles_differ xs)

  pub start : (xs : List A) → AllHaveWords m fits (singles xs) after → IsPackedTo m fits after 0 (singles xs)
  start xs w = record { words = w; differ = singles_differ xs; settled = tt }

  settled_at : (gs : List (List A)) (k : ℕ) (g h : List A) → AllSettled m fits after gs → slice_get gs k ≡ Some g → slice_get gs (suc k) ≡ Some h → IsSettled m fits g h (live_before m (drop (suc (suc k)) gs) after)
  settled_at [] k g h s eg eh = absurd (none-some g eg)
  settled_at (f ∷ []) k g h s eg eh = absurd (none-some h eh)
  settled_at (f ∷ i ∷ gs) zero g h s eg eh =
      subst (λ z. IsSettled m fits z h (live_before m gs after)) (same_Some f g eg) (subst (λ z. IsSettled m fits f z (live_before m gs after)) (same_Some i h eh) s.0)
  settled_at (f ∷ i ∷ gs) (suc k) g h s eg eh = settled_at (i ∷ gs) k g h s.1 eg eh

  pub is_packed : (gs : List (List A)) → AllSettled m fits after gs → IsPacked m fits after gs
  is_packed gs s = λ k g h eg eh.
      let e : k + 1 ≡ suc k = omega arith in
      let e2 : suc (suc k) ≡ k + 1 + 1 = omega arith in
      subst (λ i. IsSettled m fits g h (live_before m (drop i gs) after)) e2 (settled_at gs k g h s eg (subst (λ i. slice_get gs i ≡ Some h) e eh))

  pub turn_after : (os gs hs : List (List A)) (k next : ℕ) → IsSame m os gs → IsTurn m fits after gs hs k next → IsSame m os hs
  turn_after os gs hs k next e t = same_trans m os gs hs e t.same

module _ {A : Type 0} where
  pub steps-singles : (xs : List A) → all_steps (singles xs) ≡ xs
  steps-singles [] = refl
  steps-singles (x ∷ xs) = ap (λ z. x ∷ z) (steps-singles xs)

  pub steps_kept : (m : A → Operation) (xs : List A) (gs : List (List A)) → IsSame m (singles xs) gs → IsPermutation xs (all_steps gs)
  steps_kept m xs gs e = subst (λ z. IsPermutation z (all_steps gs)) (steps-singles xs) e.steps
