-- Live registers are those that are still needed.
use Rattle.std.proofs.Common.{◌≡◌, ℕ, ◌<◌, zero, suc, ◌||◌, ◌&&◌, ◌⊎◌, inl, inr, Bool, true, false, not, List, [], ◌∷◌, refl, sym, arith, subst, Some, slice_get, ◌↔◌, ap, ◌∙◌, add-one, drop, length}
use Rattle.std.proofs.lemmas.Bool.{true≢false, or_cases, and_parts}
use Rattle.rec_bits.proofs.Booleans.{not_true}
use Rattle.rec_bits.proofs.Options.{same_Some, none-some}
use Rattle.form_model.specs.Effects.{Operation}
use Rattle.form_model.specs.Live.{Regs, group_reads, group_writes, live_at, live_before}
use Rattle.word_fit.specs.Groups.{IsReadIn, IsLiveBehind, lives_of}

live_from : (a l w : Bool) → a ≡ true → (a || (l && not w)) ≡ true
live_from true l w e = refl
live_from false l w e = absurd (true≢false (sym e))

pub live_kept : (a l w : Bool) → l ≡ true → w ≡ false → (a || (l && not w)) ≡ true
live_kept true l w e f = refl
live_kept false true true e f = absurd (true≢false f)
live_kept false true false e f = refl
live_kept false false w e f = absurd (true≢false (sym e))

module _ {A : Type 0} (m : A → Operation) where
  read_here : (g : List A) (gs : List (List A)) (r : ℕ) → group_reads m g r ≡ true → IsReadIn m (g ∷ gs) r
  read_here g gs r e = record { place = 0; reader = g; at = refl; reads = e; between = λ i h p q. absurd (omega arith) }

  between_more : (g : List A) (gs : List (List A)) (r n : ℕ) → group_writes m g r ≡ false → ((i : ℕ) (h : List A) → i < n → slice_get gs i ≡ Some h → group_writes m h r ≡ false) → (i : ℕ) (h : List A) → i < suc n → slice_get (g ∷ gs) i ≡ Some h → group_writes m h r ≡ false
  between_more g gs r n e b zero h p q = subst (λ z. group_writes m z r ≡ false) (same_Some g h q) e
  between_more g gs r n e b (suc i) h p q = b i h (omega arith) q

  all_more : (g : List A) (gs : List (List A)) (r : ℕ) → group_writes m g r ≡ false → ((i : ℕ) (h : List A) → slice_get gs i ≡ Some h → group_writes m h r ≡ false) → (i : ℕ) (h : List A) → slice_get (g ∷ gs) i ≡ Some h → group_writes m h r ≡ false
  all_more g gs r e b zero h q = subst (λ z. group_writes m z r ≡ false) (same_Some g h q) e
  all_more g gs r e b (suc i) h q = b i h q

  read_more : (g : List A) (gs : List (List A)) (r : ℕ) → group_writes m g r ≡ false → IsReadIn m gs r → IsReadIn m (g ∷ gs) r
  read_more g gs r e w = record { place = suc w.place; reader = w.reader; at = w.at; reads = w.reads; between = between_more g gs r w.place e w.between }

  pub needed : (gs : List (List A)) (after : Regs) (r : ℕ) → live_before m gs after r ≡ true → IsReadIn m gs r ⊎ IsLiveBehind m gs after r
  needed [] after r e = inr (record { live = e; unwritten = λ i h q. cc })
  needed (g ∷ gs) after r e =
      elim (or_cases (group_reads m g r) (live_before m gs after r && not (group_writes m g r)) e) as (λ _. IsReadIn m (g ∷ gs) r ⊎ IsLiveBehind m (g ∷ gs) after r) [
        | inl u ↦ inl (read_here g gs r u)
        | inr u ↦
            (let w : (live_before m gs after r ≡ true) × (not (group_writes m g r) ≡ true) = and_parts _ _ u in
            let f : group_writes m g r ≡ false = not_true _ w.1 in
            elim (needed gs after r w.0) as (λ _. IsReadIn m (g ∷ gs) r ⊎ IsLiveBehind m (g ∷ gs) after r) [
              | inl v ↦ inl (read_more g gs r f v)
              | inr v ↦ inr (record { live = v.live; unwritten = all_more g gs r f v.unwritten })
            ])
      ]

  read_live : (gs : List (List A)) (after : Regs) (r n : ℕ) (x : List A) → slice_get gs n ≡ Some x → group_reads m x r ≡ true → ((i : ℕ) (h : List A) → i < n → slice_get gs i ≡ Some h → group_writes m h r ≡ false) → live_before m gs after r ≡ true
  read_live [] after r n x e f b = absurd (none-some x e)
  read_live (g ∷ gs) after r zero x e f b = live_from _ _ _ (subst (λ z. group_reads m z r ≡ true) (sym (same_Some g x e)) f)
  read_live (g ∷ gs) after r (suc n) x e f b =
      live_kept _ _ _ (read_live gs after r n x e f (λ i h p q. b (suc i) h (omega arith) q)) (b 0 g (omega arith) refl)

  behind_live : (gs : List (List A)) (after : Regs) (r : ℕ) → after r ≡ true → ((i : ℕ) (h : List A) → slice_get gs i ≡ Some h → group_writes m h r ≡ false) → live_before m gs after r ≡ true
  behind_live [] after r e b = e
  behind_live (g ∷ gs) after r e b = live_kept _ _ _ (behind_live gs after r e (λ i h q. b (suc i) h q)) (b 0 g refl)

  -- exactly the registers that are still needed are live
  pub live-needed : (gs : List (List A)) (after : Regs) (r : ℕ) → (live_before m gs after r ≡ true) ↔ (IsReadIn m gs r ⊎ IsLiveBehind m gs after r)
  live-needed gs after r = (
    needed gs after r,
    λ w.
        elim w as (λ _. live_before m gs after r ≡ true) [
          | inl v ↦ read_live gs after r v.place v.reader v.at v.reads v.between
          | inr v ↦ behind_live gs after r v.live v.unwritten
        ],
  )

  -- the list of live sets
  pub lives_at : (gs : List (List A)) (after : Regs) (k : ℕ) → k < length gs → slice_get (lives_of m gs after) k ≡ Some (live_at m gs after k)
  lives_at [] after k lt = absurd (omega arith)
  lives_at (g ∷ gs) after zero lt = refl
  lives_at (g ∷ gs) after (suc k) lt = lives_at gs after k (omega arith) ∙ ap (λ n. Some (live_before m (drop n gs) after)) (add-one k)
      ∙ sym (ap (λ n. Some (live_before m (drop n (g ∷ gs)) after)) (add-one (suc k)))
