-- One turn of the packer, at the pair k of its list.
use Rattle.std.proofs.Common.{◌≡◌, ℕ, ◌+◌, ◌-◌, ◌<◌, ◌≤◌, suc, true, List, [], ◌∷◌, ◌++◌, length, take, drop, get_or, set, refl, sym, ◌∙◌, ap, arith, subst, Some}
use Rattle.std.specs.List.{remove, slice_get}
use Rattle.std.proofs.lemmas.List.{take-append-drop, length-take-le, take_all, length-drop}
use Rattle.std.proofs.lemmas.Option.{slice_get_within, get_or_from_slice_get}
use Rattle.std.proofs.Math.Seq.{drop-cons}
use Rattle.rec_bits.proofs.Lists.{set-append_seam}
use Rattle.form_model.specs.Effects.{Operation}
use Rattle.form_model.specs.Live.{Regs, live_before}
use Rattle.compaction.specs.Packing.{EachDiffers, IsSettled, Mergeable, Movable, all_differ}
use Rattle.compaction.specs.Chosen.{stays}
use Rattle.compaction.specs.Inner.Turns.{IsMoved, IsMovedAt, IsPackedTo, IsTurn}
use Rattle.compaction.proofs.Packed.{turn_merged, turn_moved, turn_on, differ_tail}
use Rattle.compaction.proofs.Lives.{same_merged, same_moved, same_behind}
use Rattle.compaction.proofs.Differing.{differ_at}

-- g and h stand at k and after it
pub record IsAt {X : Type 0} (gs : List X) (k : ℕ) (g h : X) (front back : List X) : Type 0 where
  pub split : gs ≡ front ++ g ∷ h ∷ back
  pub place : length front ≡ k

module _ {X : Type 0} where
  cut : (gs : List X) (k : ℕ) (g : X) → k < length gs → g ≡ get_or gs k g → gs ≡ take k gs ++ g ∷ drop (suc k) gs
  cut gs k g n e =
      sym (take-append-drop k gs) ∙ ap (λ z. take k gs ++ z) (drop-cons gs k g n ∙ ap (λ y. y ∷ drop (suc k) gs) (sym e))

  pub pair_in : (all gs : List X) (k : ℕ) (x y g h : X) → all ≡ gs → k + 1 < length gs → x ≡ get_or all k x → g ≡ x → y ≡ get_or all (k + 1) y → h ≡ y → IsAt gs k g h (take k gs) (drop (k + 2) gs)
  pair_in all gs k x y g h e n ex eg ey eh =
      let n1 : k < length gs = omega arith in
      let n2 : suc k < length gs = omega arith in
      let fx : g ≡ get_or gs k g = subst (λ z. z ≡ get_or gs k z) (sym eg) (subst (λ l. x ≡ get_or l k x) e ex) in
      let s1 : k + 1 ≡ suc k = omega arith in
      let s2 : suc (suc k) ≡ k + 2 = omega arith in
      let fy : h ≡ get_or gs (suc k) h = subst (λ z. z ≡ get_or gs (suc k) z) (sym eh) (subst (λ i. y ≡ get_or gs i y) s1 (subst (λ l. y ≡ get_or l (k + 1) y) e ey)) in
      let d : drop (suc k) gs ≡ h ∷ drop (k + 2) gs = drop-cons gs (suc k) h n2 ∙ ap (λ z. z ∷ drop (suc (suc k)) gs) (sym fy) ∙ ap (λ i. h ∷ drop i gs) s2 in
      record {
        split = cut gs k g n1 fx ∙ ap (λ z. take k gs ++ g ∷ z) d;
        place = length-take-le k gs (omega arith);
      }

  remove_second : (front : List X) (g h : X) (back : List X) → remove (front ++ g ∷ h ∷ back) (suc (length front)) ≡ front ++ g ∷ back
  remove_second [] g h back = refl
  remove_second (x ∷ front) g h back = ap (λ z. x ∷ z) (remove_second front g h back)

  set_second : (front : List X) (g h y : X) (back : List X) → set (front ++ g ∷ h ∷ back) (suc (length front)) y ≡ front ++ g ∷ y ∷ back
  set_second [] g h y back = refl
  set_second (x ∷ front) g h y back = ap (λ z. x ∷ z) (set_second front g h y back)

  pub merged_list : (gs mid new : List X) (k : ℕ) (g h both : X) (front back : List X) → IsAt gs k g h front back → mid ≡ remove gs (k + 1) → new ≡ set mid k both → new ≡ front ++ both ∷ back
  merged_list gs mid new k g h both front back a em en =
      let s : k + 1 ≡ suc (length front) = omega (arith, a.place) in
      let e : mid ≡ front ++ g ∷ back = em ∙ ap (λ z. remove z (k + 1)) a.split ∙ ap (λ i. remove (front ++ g ∷ h ∷ back) i) s ∙ remove_second front g h back in
      en ∙ ap (λ z. set z k both) e ∙ ap (λ i. set (front ++ g ∷ back) i both) (sym a.place) ∙ set-append_seam front g back both

  pub moved_list : (gs mid new : List X) (k : ℕ) (g h more rest : X) (front back : List X) → IsAt gs k g h front back → mid ≡ set gs k more → new ≡ set mid (k + 1) rest → new ≡ front ++ more ∷ rest ∷ back
  moved_list gs mid new k g h more rest front back a em en =
      let s : k + 1 ≡ suc (length front) = omega (arith, a.place) in
      let e : mid ≡ front ++ more ∷ h ∷ back = em ∙ ap (λ z. set z k more) a.split ∙ ap (λ i. set (front ++ g ∷ h ∷ back) i more) (sym a.place) ∙ set-append_seam front g (h ∷ back) more in
      en ∙ ap (λ z. set z (k + 1) rest) e ∙ ap (λ i. set (front ++ more ∷ h ∷ back) i rest) s ∙ set_second front more h rest back

  pub step_split : (h : List X) (i : ℕ) (x : X) → slice_get h i ≡ Some x → h ≡ take i h ++ x ∷ drop (suc i) h
  step_split h i x e = cut h i x (slice_get_within h i x e) (sym (get_or_from_slice_get h i x x e))

module _ {A : Type 0} (m : A → Operation) (fits : ℕ → List A → Regs → Type 0) (after : Regs) where
  along : (a b c d : List (List A)) (i j p q : ℕ) → a ≡ b → c ≡ d → i ≡ j → p ≡ q → IsTurn m fits after b d j q → IsTurn m fits after a c i p
  along a b c d i j p q ea ec ei ep t =
      subst (λ x. IsTurn m fits after x c i p) (sym ea)
      (subst (λ x. IsTurn m fits after b x i p) (sym ec)
      (subst (λ x. IsTurn m fits after b d x p) (sym ei)
      (subst (λ x. IsTurn m fits after b d j x) (sym ep) t)))

  packed_at : (gs : List (List A)) (k : ℕ) (g h : List A) (front back : List (List A)) → IsAt gs k g h front back → IsPackedTo m fits after k gs → IsPackedTo m fits after (length front) (front ++ g ∷ h ∷ back)
  packed_at gs k g h front back a p =
      subst (λ i. IsPackedTo m fits after i (front ++ g ∷ h ∷ back)) (sym a.place) (subst (λ z. IsPackedTo m fits after k z) a.split p)

  pub live_is : (all gs : List (List A)) (n : ℕ) (l : Regs) → all ≡ gs → l ≡ live_before m (take (length all - n) (drop n all)) after → l ≡ live_before m (drop n gs) after
  live_is all gs n l e el =
      el ∙ ap (λ z. live_before m (take (length z - n) (drop n z)) after) e
      ∙ ap (λ z. live_before m z after) (take_all (length gs - n) (drop n gs) (omega (arith, length-drop n gs)))

  pub merged_turn : (gs mid new : List (List A)) (k next : ℕ) (g h both : List A) (l : Regs) (front back : List (List A)) → IsAt gs k g h front back → l ≡ live_before m back after → both ≡ g ++ h → Mergeable m fits g h l → IsPackedTo m fits after k gs → mid ≡ remove gs (k + 1) → new ≡ set mid k both → next ≡ k - 1 → IsTurn m fits after gs new k next
  merged_turn gs mid new k next g h both l front back a el eb c p em en ek =
      along gs (front ++ g ∷ h ∷ back) new (front ++ (g ++ h) ∷ back) k (length front) next (length front - 1)
      a.split
      (merged_list gs mid new k g h both front back a em en ∙ ap (λ z. front ++ z ∷ back) eb)
      (sym a.place)
      (ek ∙ ap (λ i. i - 1) (sym a.place))
      (turn_merged m fits after front g h back (subst (λ z. Mergeable m fits g h z) el c) (packed_at gs k g h front back a p))

  -- the same of h as it is split, and with the live set as it is told
  no_merge : (g h k : List A) (l live : Regs) → h ≡ k → l ≡ live → (Mergeable m fits g h l → ⊥) → Mergeable m fits g k live → ⊥
  no_merge g h k l live eh el u =
      subst (λ z. Mergeable m fits g z live → ⊥) eh (subst (λ z. Mergeable m fits g h z → ⊥) el u)

  none_before : (g h a k : List A) (index : ℕ) (l live : Regs) → h ≡ k → l ≡ live → length a ≤ index → ((i : ℕ) → i < index → (y : A) → slice_get h i ≡ Some y → Movable m fits g y (remove h i) l → ⊥) → (i : ℕ) → i < length a → (y : A) → slice_get k i ≡ Some y → Movable m fits g y (remove k i) live → ⊥
  none_before g h a k index l live eh el n v =
      subst (λ z. (i : ℕ) → i < length a → (y : A) → slice_get z i ≡ Some y → Movable m fits g y (remove z i) live → ⊥) eh
      (subst (λ z. (i : ℕ) → i < length a → (y : A) → slice_get h i ≡ Some y → Movable m fits g y (remove h i) z → ⊥) el (λ i lt y e w. v i (omega (arith, lt, n)) y e w))

  pub moved_turn : (gs mid new : List (List A)) (k next : ℕ) (g h more rest : List A) (l : Regs) (front back : List (List A)) → IsAt gs k g h front back → l ≡ live_before m back after → (Mergeable m fits g h l → ⊥) → IsMoved m fits g h l more rest → IsPackedTo m fits after k gs → mid ≡ set gs k more → new ≡ set mid (k + 1) rest → next ≡ k - 1 → IsTurn m fits after gs new k next
  moved_turn gs mid new k next g h more rest l front back a el u w p em en ek =
      let c : IsMovedAt m fits g h l w.index more rest = w.moved in
      let x : A = c.step in
      let b : List A = take w.index h in
      let d : List A = drop (suc w.index) h in
      let eh : h ≡ b ++ x ∷ d = step_split h w.index x c.at in
      let short : length b ≤ w.index = omega (arith, length-take-le w.index h (omega (arith, slice_get_within h w.index x c.at))) in
      along gs (front ++ g ∷ (b ++ x ∷ d) ∷ back) new (front ++ (g ++ x ∷ []) ∷ (b ++ d) ∷ back) k (length front) next (length front - 1)
      (a.split ∙ ap (λ z. front ++ g ∷ z ∷ back) eh)
      (moved_list gs mid new k g h more rest front back a em en ∙ ap (λ z. front ++ z ∷ rest ∷ back) c.first_is ∙ ap (λ z. front ++ (g ++ x ∷ []) ∷ z ∷ back) c.second_is)
      (sym a.place)
      (ek ∙ ap (λ i. i - 1) (sym a.place))
      (turn_moved m fits after front g b d x back (no_merge g h (b ++ x ∷ d) l (live_before m back after) eh el u)
      (none_before g h b (b ++ x ∷ d) w.index l (live_before m back after) eh el short w.before)
      (subst (λ z. Movable m fits g x (b ++ d) z) el c.movable)
      (subst (λ z. IsPackedTo m fits after (length front) (front ++ g ∷ z ∷ back)) eh (packed_at gs k g h front back a p)))

  pub settled_turn : (gs : List (List A)) (k : ℕ) (g h : List A) (l : Regs) (front back : List (List A)) → IsAt gs k g h front back → l ≡ live_before m back after → IsSettled m fits g h l → IsPackedTo m fits after k gs → IsTurn m fits after gs gs k (k + 1)
  settled_turn gs k g h l front back a el c p =
      along gs (front ++ g ∷ h ∷ back) gs (front ++ g ∷ h ∷ back) k (length front) (k + 1) (suc (length front))
      a.split
      a.split
      (sym a.place)
      (omega (arith, a.place))
      (turn_on m fits after front g (h ∷ back) (subst (λ z. IsSettled m fits g h z) el c)
      (λ result w. stays (length front) (front ++ g ∷ h ∷ back) result front g h back refl refl (subst (λ z. IsSettled m fits g h z) el c) w) (packed_at gs k g h front back a p))

  -- the same registers are live before the pair once it is merged
  pub merged_live : (g h both : List A) (back : List (List A)) (l : Regs) → both ≡ g ++ h → Mergeable m fits g h l → live_before m (g ∷ h ∷ back) after ≡ live_before m (both ∷ back) after
  merged_live g h both back l eb c =
      (same_behind m (g ∷ h ∷ []) ((g ++ h) ∷ []) back (same_merged m g h c.apart)).live after ∙ ap (λ z. live_before m (z ∷ back) after) (sym eb)

  pub moved_live : (g h more rest : List A) (back : List (List A)) (l : Regs) → all_differ m h ≡ true → IsMoved m fits g h l more rest → live_before m (g ∷ h ∷ back) after ≡ live_before m (more ∷ rest ∷ back) after
  moved_live g h more rest back l d c =
      let x : A = c.moved.step in
      let a : List A = take c.index h in
      let b : List A = drop (suc c.index) h in
      let eh : h ≡ a ++ x ∷ b = step_split h c.index x c.moved.at in
      ap (λ z. live_before m (g ∷ z ∷ back) after) eh
      ∙ (same_behind m (g ∷ (a ++ x ∷ b) ∷ []) ((g ++ x ∷ []) ∷ (a ++ b) ∷ []) back
      (same_moved m g a b x (differ_at m a b x (subst (λ z. all_differ m z ≡ true) eh d)) c.moved.movable.free.apart c.moved.movable.free.unread)).live after
      ∙ ap (λ z. live_before m (z ∷ (a ++ b) ∷ back) after) (sym c.moved.first_is) ∙ ap (λ z. live_before m (more ∷ z ∷ back) after) (sym c.moved.second_is)

  -- the destinations within the second group differ
  pub second_differs : (gs : List (List A)) (k : ℕ) (g h : List A) (front back : List (List A)) → IsAt gs k g h front back → IsPackedTo m fits after k gs → all_differ m h ≡ true
  second_differs gs k g h front back a p =
      (differ_tail m fits after front (g ∷ h ∷ back) (subst (λ z. EachDiffers m z) a.split p.differ)).1.0
