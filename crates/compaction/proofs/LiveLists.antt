-- The list of live sets that the packer keeps.
use Rattle.std.proofs.Common.{◌≡◌, ℕ, ◌+◌, ◌<◌, zero, suc, List, [], ◌∷◌, ◌++◌, length, get_or, set, map, refl, sym, ◌∙◌, ap, arith}
use Rattle.std.specs.List.{remove}
use Rattle.std.proofs.lemmas.List.{map-set, length-map}
use Rattle.std.proofs.lemmas.List.{get_or-map}
use Rattle.rec_bits.proofs.Lists.{remove_seam, set-append_seam}
use Rattle.form_model.specs.Effects.{Operation}
use Rattle.form_model.specs.Live.{Regs, live_before, regs_of}
use Rattle.word_fit.specs.Groups.{lives_of}
use Rattle.compaction.proofs.Lives.{live-append}
use Rattle.compaction.proofs.Turns.{IsAt}

module _ {X Y : Type 0} (f : X → Y) where
  map-remove : (xs : List X) (i : ℕ) → map f (remove xs i) ≡ remove (map f xs) i
  map-remove [] zero = refl
  map-remove [] (suc i) = refl
  map-remove (x ∷ xs) zero = refl
  map-remove (x ∷ xs) (suc i) = ap (λ z. f x ∷ z) (map-remove xs i)

module _ {X : Type 0} where
  get_second : (front : List X) (x y : X) (back : List X) (d : X) → get_or (front ++ x ∷ y ∷ back) (suc (length front)) d ≡ y
  get_second [] x y back d = refl
  get_second (z ∷ front) x y back d = get_second front x y back d

module _ {A : Type 0} (m : A → Operation) (after : Regs) where
  length-lives : (gs : List (List A)) (l : Regs) → length (lives_of m gs l) ≡ length gs
  length-lives [] l = refl
  length-lives (g ∷ gs) l = ap suc (length-lives gs l)

  lives-append : (front tail : List (List A)) → lives_of m (front ++ tail) after ≡ lives_of m front (live_before m tail after) ++ lives_of m tail after
  lives-append [] tail = refl
  lives-append (g ∷ front) tail =
      ap (λ l. l ∷ lives_of m (front ++ tail) after) (live-append m front tail after)
      ∙ ap (λ z. live_before m front (live_before m tail after) ∷ z) (lives-append front tail)

  -- the sets of the list at its pair k
  sets_at : (gs : List (List A)) (k : ℕ) (g h : List A) (front back : List (List A)) (sets : List ℕ) → IsAt gs k g h front back → map regs_of sets ≡ lives_of m gs after → map regs_of sets ≡ lives_of m front (live_before m (g ∷ h ∷ back) after) ++ live_before m (h ∷ back) after ∷ live_before m back after ∷ lives_of m back after
  sets_at gs k g h front back sets a e = e ∙ ap (λ z. lives_of m z after) a.split ∙ lives-append front (g ∷ h ∷ back)

  -- the set after the second group of the pair
  pub second_set : (gs : List (List A)) (k : ℕ) (g h : List A) (front back : List (List A)) (all sets : List ℕ) → IsAt gs k g h front back → map regs_of sets ≡ lives_of m gs after → all ≡ sets → k + 1 < length sets → regs_of (get_or all (k + 1) 0) ≡ live_before m back after
  second_set gs k g h front back all sets a e ea n =
      let f : List Regs = lives_of m front (live_before m (g ∷ h ∷ back) after) in
      let s : k + 1 ≡ suc (length f) = omega (arith, a.place, length-lives front (live_before m (g ∷ h ∷ back) after)) in
      ap (λ z. regs_of (get_or z (k + 1) 0)) ea ∙ sym (get_or-map regs_of sets (k + 1) 0 (regs_of 0) n)
      ∙ ap (λ z. get_or z (k + 1) (regs_of 0)) (sets_at gs k g h front back sets a e)
      ∙ ap (λ i. get_or (f ++ live_before m (h ∷ back) after ∷ live_before m back after ∷ lives_of m back after) i (regs_of 0)) s
      ∙ get_second f (live_before m (h ∷ back) after) (live_before m back after) (lives_of m back after) (regs_of 0)

  pub sets_long : (gs : List (List A)) (sets : List ℕ) → map regs_of sets ≡ lives_of m gs after → length sets ≡ length gs
  sets_long gs sets e = sym (length-map sets regs_of) ∙ ap (λ z. length z) e ∙ length-lives gs after

  pub merged_sets : (gs hs : List (List A)) (k : ℕ) (g h both : List A) (front back : List (List A)) (sets new : List ℕ) → IsAt gs k g h front back → map regs_of sets ≡ lives_of m gs after → new ≡ remove sets k → hs ≡ front ++ both ∷ back → live_before m (g ∷ h ∷ back) after ≡ live_before m (both ∷ back) after → map regs_of new ≡ lives_of m hs after
  merged_sets gs hs k g h both front back sets new a e en eh el =
      let f : List Regs = lives_of m front (live_before m (g ∷ h ∷ back) after) in
      let s : k ≡ length f = omega (arith, a.place, length-lives front (live_before m (g ∷ h ∷ back) after)) in
      ap (λ z. map regs_of z) en ∙ map-remove regs_of sets k ∙ ap (λ z. remove z k) (sets_at gs k g h front back sets a e)
      ∙ ap (λ i. remove (f ++ live_before m (h ∷ back) after ∷ live_before m back after ∷ lives_of m back after) i) s
      ∙ remove_seam f (live_before m (h ∷ back) after) (live_before m back after ∷ lives_of m back after)
      ∙ ap (λ l. lives_of m front l ++ live_before m back after ∷ lives_of m back after) el
      ∙ sym (ap (λ z. lives_of m z after) eh ∙ lives-append front (both ∷ back))

  pub moved_sets : (gs hs : List (List A)) (k : ℕ) (g h more rest : List A) (front back : List (List A)) (sets new : List ℕ) (b : ℕ) → IsAt gs k g h front back → map regs_of sets ≡ lives_of m gs after → new ≡ set sets k b → regs_of b ≡ live_before m (rest ∷ back) after → hs ≡ front ++ more ∷ rest ∷ back → live_before m (g ∷ h ∷ back) after ≡ live_before m (more ∷ rest ∷ back) after → map regs_of new ≡ lives_of m hs after
  moved_sets gs hs k g h more rest front back sets new b a e en eb eh el =
      let f : List Regs = lives_of m front (live_before m (g ∷ h ∷ back) after) in
      let s : k ≡ length f = omega (arith, a.place, length-lives front (live_before m (g ∷ h ∷ back) after)) in
      ap (λ z. map regs_of z) en ∙ map-set regs_of sets k b ∙ ap (λ z. set z k (regs_of b)) (sets_at gs k g h front back sets a e)
      ∙ ap (λ i. set (f ++ live_before m (h ∷ back) after ∷ live_before m back after ∷ lives_of m back after) i (regs_of b)) s
      ∙ set-append_seam f (live_before m (h ∷ back) after) (live_before m back after ∷ lives_of m back after) (regs_of b)
      ∙ ap (λ l. f ++ l ∷ live_before m back after ∷ lives_of m back after) eb
      ∙ ap (λ l. lives_of m front l ++ live_before m (rest ∷ back) after ∷ live_before m back after ∷ lives_of m back after) el
      ∙ sym (ap (λ z. lives_of m z after) eh ∙ lives-append front (more ∷ rest ∷ back))
