-- The words that were found for the groups, at a change of two neighbours.
use Rattle.std.proofs.Common.{◌≡◌, ℕ, ◌+◌, suc, List, [], ◌∷◌, ◌++◌, length, replicate, set, Option, None, Some, IfSome, refl, sym, ◌∙◌, ap, arith, subst}
use Rattle.std.specs.List.{remove}
use Rattle.form_model.specs.Effects.{Operation}
use Rattle.form_model.specs.Live.{Regs, live_before, singles}
use Rattle.word_fit.specs.Fits.{IsLeastFit}
use Rattle.compaction.specs.Inner.Found.{AreFound}
use Rattle.compaction.proofs.Packed.{live_front}
use Rattle.compaction.proofs.Turns.{IsAt}

module _ {A : Type 0} (m : A → Operation) (fits : ℕ → List A → Regs → Type 0) (after : Regs) where
  pub none_found : (xs : List A) → AreFound m fits (replicate (length xs) None) (singles xs) after
  none_found [] = tt
  none_found (x ∷ xs) = (tt, none_found xs)

  pub found_long : (found : List (Option ℕ)) (gs : List (List A)) → AreFound m fits found gs after → length found ≡ length gs
  found_long [] [] f = refl
  found_long [] (g ∷ gs) f = absurd f
  found_long (w ∷ found) [] f = absurd f
  found_long (w ∷ found) (g ∷ gs) f = ap suc (found_long found gs f.1)

  -- the groups before a change keep their words
  front_kept : (w : Option ℕ) (x : List A) (front tail new : List (List A)) → live_before m tail after ≡ live_before m new after
      → IfSome w (IsLeastFit (λ n. fits n x (live_before m (front ++ tail) after))) → IfSome w (IsLeastFit (λ n. fits n x (live_before m (front ++ new) after)))
  front_kept w x front tail new e f = subst (λ (l : Regs). IfSome w (IsLeastFit (λ n. fits n x l))) (live_front m fits after front tail new e) f

  merged_at : (found : List (Option ℕ)) (front : List (List A)) (g h both : List A) (back : List (List A)) (w : ℕ) → live_before m (g ∷ h ∷ back) after ≡ live_before m (both ∷ back) after
      → IsLeastFit (λ n. fits n both (live_before m back after)) w → AreFound m fits found (front ++ g ∷ h ∷ back) after
      → AreFound m fits (set (remove found (suc (length front))) (length front) (Some w)) (front ++ both ∷ back) after
  merged_at [] [] g h both back w e l f = absurd f
  merged_at [] (x ∷ front) g h both back w e l f = absurd f
  merged_at (a ∷ []) [] g h both back w e l f = absurd f.1
  merged_at (a ∷ b ∷ found) [] g h both back w e l f = (l, f.1.1)
  merged_at (a ∷ found) (x ∷ front) g h both back w e l f =
      (front_kept a x front (g ∷ h ∷ back) (both ∷ back) e f.0, merged_at found front g h both back w e l f.1)

  moved_at : (found : List (Option ℕ)) (front : List (List A)) (g h more rest : List A) (back : List (List A)) (v w : ℕ) → live_before m (g ∷ h ∷ back) after ≡ live_before m (more ∷ rest ∷ back) after
      → IsLeastFit (λ n. fits n more (live_before m (rest ∷ back) after)) v → IsLeastFit (λ n. fits n rest (live_before m back after)) w → AreFound m fits found (front ++ g ∷ h ∷ back) after
      → AreFound m fits (set (set found (length front) (Some v)) (suc (length front)) (Some w)) (front ++ more ∷ rest ∷ back) after
  moved_at [] [] g h more rest back v w e l k f = absurd f
  moved_at [] (x ∷ front) g h more rest back v w e l k f = absurd f
  moved_at (a ∷ []) [] g h more rest back v w e l k f = absurd f.1
  moved_at (a ∷ b ∷ found) [] g h more rest back v w e l k f = (l, (k, f.1.1))
  moved_at (a ∷ found) (x ∷ front) g h more rest back v w e l k f =
      (front_kept a x front (g ∷ h ∷ back) (more ∷ rest ∷ back) e f.0, moved_at found front g h more rest back v w e l k f.1)

  at_place : (gs : List (List A)) (k : ℕ) (g h : List A) (front back : List (List A)) (found : List (Option ℕ)) → IsAt gs k g h front back → AreFound m fits found gs after → AreFound m fits found (front ++ g ∷ h ∷ back) after
  at_place gs k g h front back found a f = subst (λ z. AreFound m fits found z after) a.split f

  -- the words once the pair k is merged
  pub merged_found : (gs hs : List (List A)) (k : ℕ) (g h both : List A) (front back : List (List A)) (found mid new : List (Option ℕ)) (w : ℕ) → IsAt gs k g h front back
      → AreFound m fits found gs after → mid ≡ remove found (k + 1) → new ≡ set mid k (Some w) → hs ≡ front ++ both ∷ back
      → live_before m (g ∷ h ∷ back) after ≡ live_before m (both ∷ back) after → IsLeastFit (λ n. fits n both (live_before m back after)) w
      → AreFound m fits new hs after
  merged_found gs hs k g h both front back found mid new w a f em en eh e l =
      let s : k + 1 ≡ suc (length front) = omega (arith, a.place) in
      let same : new ≡ set (remove found (suc (length front))) (length front) (Some w) =
      en ∙ ap (λ z. set z k (Some w)) (em ∙ ap (λ i. remove found i) s) ∙ ap (λ i. set (remove found (suc (length front))) i (Some w)) (sym a.place) in
      subst (λ z. AreFound m fits new z after) (sym eh)
      (subst (λ z. AreFound m fits z (front ++ both ∷ back) after) (sym same)
      (merged_at found front g h both back w e l (at_place gs k g h front back found a f)))

  -- and once a step of it has moved
  pub moved_found : (gs hs : List (List A)) (k : ℕ) (g h more rest : List A) (front back : List (List A)) (found mid new : List (Option ℕ)) (v w : ℕ) → IsAt gs k g h front back
      → AreFound m fits found gs after → mid ≡ set found k (Some v) → new ≡ set mid (k + 1) (Some w) → hs ≡ front ++ more ∷ rest ∷ back
      → live_before m (g ∷ h ∷ back) after ≡ live_before m (more ∷ rest ∷ back) after → IsLeastFit (λ n. fits n more (live_before m (rest ∷ back) after)) v
      → IsLeastFit (λ n. fits n rest (live_before m back after)) w → AreFound m fits new hs after
  moved_found gs hs k g h more rest front back found mid new v w a f em en eh e l j =
      let s : k + 1 ≡ suc (length front) = omega (arith, a.place) in
      let same : new ≡ set (set found (length front) (Some v)) (suc (length front)) (Some w) =
      en ∙ ap (λ z. set z (k + 1) (Some w)) (em ∙ ap (λ i. set found i (Some v)) (sym a.place)) ∙ ap (λ i. set (set found (length front) (Some v)) i (Some w)) s in
      subst (λ z. AreFound m fits new z after) (sym eh)
      (subst (λ z. AreFound m fits z (front ++ more ∷ rest ∷ back) after) (sym same)
      (moved_at found front g h more rest back v w e l j (at_place gs k g h front back found a f)))
