-- Live registers of merged groups.
use Rattle.std.proofs.Common.{◌≡◌, ℕ, ◌||◌, ◌&&◌, inl, inr, Bool, true, false, not, List, [], ◌∷◌, ◌++◌, refl, sym, ◌∙◌, ap, subst, append_assoc}
use Rattle.std.proofs.lemmas.Bool.{true≢false, eqb-true, or_cases, or_from, or_parts}
use Rattle.net_model.specs.declared.hardware.Space.{Space}
use Rattle.net_model.specs.Exprs.{TransferModel, keep, write, write_at}
use Rattle.form_model.specs.Effects.{Operation, register, location_of, transfer_location, reads, transfer_writes, writes, groups_effect}
use Rattle.form_model.specs.Live.{Regs, group_reads, group_writes, live_before}
use Rattle.std.specs.List.Sorted.{IsPermutation}
use Rattle.std.proofs.lemmas.List.Sorted.{IsPermutation-refl, IsPermutation-sym, IsPermutation-trans, IsPermutation-append_left, IsPermutation-append_right, IsPermutation-middle}
use Rattle.rec_bits.proofs.Booleans.{or_assoc}
use Rattle.compaction.specs.Packing.{all_steps, is_read_by, reads_across, reads_from, shares_destination}
use Rattle.compaction.specs.Inner.Turns.{IsSame}
use Rattle.compaction.proofs.Effects.{effect-merge, effect-append, apply_all-pull}

transfer_spot_written : (p : Operation) (storage : ℕ) (space : Space) (setting : ℕ) (move : TransferModel) (r : ℕ) → transfer_writes storage move r ≡ true → reads p (transfer_location storage space setting move) ≡ false → reads p (register r) ≡ false
transfer_spot_written p storage space setting keep r w e = absurd (true≢false (sym w))
transfer_spot_written p storage space setting (write v) r w e = subst (λ k. reads p (register k) ≡ false) (eqb-true storage r w) e
transfer_spot_written p storage space setting (write_at a v) r w e = absurd (true≢false (sym w))

written_spot : (p q : Operation) (r : ℕ) → writes q r ≡ true → reads p (location_of q) ≡ false → reads p (register r) ≡ false
written_spot p q r w e = transfer_spot_written p q.storage q.space q.setting q.move r w e

merge_bits : (a b c d f : Bool) → (b ≡ true → c ≡ false) → (a || ((c || (f && not d)) && not b)) ≡ ((a || c) || (f && not (b || d)))
merge_bits true b c d f h = refl
merge_bits false true true d f h = absurd (true≢false (h refl))
merge_bits false true false true true h = refl
merge_bits false true false false true h = refl
merge_bits false true false d false h = refl
merge_bits false false true d f h = refl
merge_bits false false false true true h = refl
merge_bits false false false false true h = refl
merge_bits false false false d false h = refl

module _ {A : Type 0} (m : A → Operation) where
  pub reads-append : (g h : List A) (r : ℕ) → group_reads m (g ++ h) r ≡ (group_reads m g r || group_reads m h r)
  reads-append [] h r = refl
  reads-append (x ∷ g) h r = ap (λ b. reads (m x) (register r) || b) (reads-append g h r) ∙ sym (or_assoc (reads (m x) (register r)) (group_reads m g r) (group_reads m h r))

  pub writes-append : (g h : List A) (r : ℕ) → group_writes m (g ++ h) r ≡ (group_writes m g r || group_writes m h r)
  writes-append [] h r = refl
  writes-append (x ∷ g) h r = ap (λ b. writes (m x) r || b) (writes-append g h r) ∙ sym (or_assoc (writes (m x) r) (group_writes m g r) (group_writes m h r))

  read_unwritten : (p : Operation) (g : List A) (r : ℕ) → reads_from m p g ≡ false → group_writes m g r ≡ true → reads p (register r) ≡ false
  read_unwritten p [] r e w = absurd (true≢false (sym w))
  read_unwritten p (x ∷ g) r e w =
      let k : (reads p (location_of (m x)) ≡ false) × (reads_from m p g ≡ false) = or_parts _ _ e in
      elim (or_cases (writes (m x) r) (group_writes m g r) w) as (λ _. reads p (register r) ≡ false) [
        | inl u ↦ written_spot p (m x) r u k.0
        | inr u ↦ read_unwritten p g r k.1 u
      ]

  group_unread : (g h : List A) (r : ℕ) → reads_across m g h ≡ false → group_writes m g r ≡ true → group_reads m h r ≡ false
  group_unread g [] r e w = refl
  group_unread g (y ∷ h) r e w =
      let k : (reads_from m (m y) g ≡ false) × (reads_across m g h ≡ false) = or_parts _ _ e in
      rw (read_unwritten (m y) g r k.0 w, group_unread g h r k.1 w) refl

  pub live-append : (gs hs : List (List A)) (after : Regs) → live_before m (gs ++ hs) after ≡ live_before m gs (live_before m hs after)
  live-append [] hs after = refl
  live-append (g ∷ gs) hs after =
      ap (λ (l : Regs). let f : Regs = λ r. group_reads m g r || (l r && not (group_writes m g r)) in f) (live-append gs hs after)

  live-merge_at : (g h : List A) (l : Regs) (r : ℕ) → reads_across m g h ≡ false → live_before m (g ∷ h ∷ []) l r ≡ live_before m ((g ++ h) ∷ []) l r
  live-merge_at g h l r e =
      merge_bits (group_reads m g r) (group_writes m g r) (group_reads m h r) (group_writes m h r) (l r) (λ w. group_unread g h r e w)
      ∙ sym (rw (reads-append g h r, writes-append g h r) refl)

  steps-append : (gs hs : List (List A)) → all_steps (gs ++ hs) ≡ all_steps gs ++ all_steps hs
  steps-append [] hs = refl
  steps-append (g ∷ gs) hs = ap (λ z. g ++ z) (steps-append gs hs) ∙ sym (append_assoc g (all_steps gs) (all_steps hs))

  -- merging keeps what the groups do and what is live before them
  pub same_merged : (g h : List A) → reads_across m g h ≡ false → IsSame m (g ∷ h ∷ []) ((g ++ h) ∷ [])
  same_merged g h e = record {
    steps = subst (λ z. IsPermutation (g ++ (h ++ [])) z) (sym (append_assoc g h [])) (IsPermutation-refl (g ++ (h ++ [])));
    effect = λ s. sym (effect-merge m g h s e);
    live = λ l j r. live-merge_at g h l r e j;
  }

  pub same_refl : (gs : List (List A)) → IsSame m gs gs
  same_refl gs = record { steps = IsPermutation-refl (all_steps gs); effect = λ s. refl; live = λ l. refl }

  pub same_sym : (gs hs : List (List A)) → IsSame m gs hs → IsSame m hs gs
  same_sym gs hs e = record { steps = IsPermutation-sym (all_steps gs) (all_steps hs) e.steps; effect = λ s. sym (e.effect s); live = λ l. sym (e.live l) }

  pub same_trans : (gs hs ks : List (List A)) → IsSame m gs hs → IsSame m hs ks → IsSame m gs ks
  same_trans gs hs ks e f = record { steps = IsPermutation-trans (all_steps gs) (all_steps hs) (all_steps ks) e.steps f.steps; effect = λ s. e.effect s ∙ f.effect s; live = λ l. e.live l ∙ f.live l }

  pub same_before : (front gs hs : List (List A)) → IsSame m gs hs → IsSame m (front ++ gs) (front ++ hs)
  same_before front gs hs e = record {
    steps = subst (λ z. IsPermutation z (all_steps (front ++ hs))) (sym (steps-append front gs))
        (subst (λ z. IsPermutation (all_steps front ++ all_steps gs) z) (sym (steps-append front hs))
        (IsPermutation-append_right (all_steps front) (all_steps gs) (all_steps hs) e.steps));
    effect = λ s. effect-append m front gs s ∙ e.effect (groups_effect m front s) ∙ sym (effect-append m front hs s);
    live = λ l. live-append front gs l ∙ ap (λ k. live_before m front k) (e.live l) ∙ sym (live-append front hs l);
  }

  pub same_behind : (gs hs back : List (List A)) → IsSame m gs hs → IsSame m (gs ++ back) (hs ++ back)
  same_behind gs hs back e = record {
    steps = subst (λ z. IsPermutation z (all_steps (hs ++ back))) (sym (steps-append gs back))
        (subst (λ z. IsPermutation (all_steps gs ++ all_steps back) z) (sym (steps-append hs back))
        (IsPermutation-append_left (all_steps back) (all_steps gs) (all_steps hs) e.steps));
    effect = λ s. effect-append m gs back s ∙ ap (λ k. groups_effect m back k) (e.effect s) ∙ sym (effect-append m hs back s);
    live = λ l. live-append gs back l ∙ e.live (live_before m back l) ∙ sym (live-append hs back l);
  }

or-swap : (a b c : Bool) → (a || (b || c)) ≡ (b || (a || c))
or-swap true true c = refl
or-swap true false c = refl
or-swap false true c = refl
or-swap false false c = refl

module _ {A : Type 0} (m : A → Operation) where
  reads-pull : (a b : List A) (x : A) (r : ℕ) → group_reads m (a ++ x ∷ b) r ≡ group_reads m (x ∷ (a ++ b)) r
  reads-pull [] b x r = refl
  reads-pull (y ∷ a) b x r =
      ap (λ z. reads (m y) (register r) || z) (reads-pull a b x r)
      ∙ or-swap (reads (m y) (register r)) (reads (m x) (register r)) (group_reads m (a ++ b) r)

  writes-pull : (a b : List A) (x : A) (r : ℕ) → group_writes m (a ++ x ∷ b) r ≡ group_writes m (x ∷ (a ++ b)) r
  writes-pull [] b x r = refl
  writes-pull (y ∷ a) b x r =
      ap (λ z. writes (m y) r || z) (writes-pull a b x r) ∙ or-swap (writes (m y) r) (writes (m x) r) (group_writes m (a ++ b) r)

  -- a step may stand first in its group
  same_pulled : (a b : List A) (x : A) → shares_destination m (m x) a ≡ false → IsSame m ((a ++ x ∷ b) ∷ []) ((x ∷ (a ++ b)) ∷ [])
  same_pulled a b x e = record {
    steps = IsPermutation-append_left [] (a ++ x ∷ b) (x ∷ (a ++ b)) (IsPermutation-middle a x b);
    effect = λ s. apply_all-pull m a b x s s e;
    live = λ l j r. reads-pull a b x r j || (l r && not (writes-pull a b x r j));
  }

  unread_dests : (h : List A) (x : A) → is_read_by m (m x) h ≡ false → reads_across m (x ∷ []) h ≡ false
  unread_dests [] x e = refl
  unread_dests (y ∷ h) x e =
      let w : (reads (m y) (location_of (m x)) ≡ false) × (is_read_by m (m x) h ≡ false) = or_parts _ _ e in
      or_from _ _ (or_from _ _ w.0 refl) (unread_dests h x w.1)

  -- moving a step to the group before keeps what the groups do and what is live before them
  pub same_moved : (g a b : List A) (x : A) → shares_destination m (m x) a ≡ false → reads_from m (m x) g ≡ false → is_read_by m (m x) (a ++ b) ≡ false → IsSame m (g ∷ (a ++ x ∷ b) ∷ []) ((g ++ x ∷ []) ∷ (a ++ b) ∷ [])
  same_moved g a b x e f u =
      let first : IsSame m (g ∷ (a ++ x ∷ b) ∷ []) (g ∷ (x ∷ (a ++ b)) ∷ []) = same_before m (g ∷ []) ((a ++ x ∷ b) ∷ []) ((x ∷ (a ++ b)) ∷ []) (same_pulled a b x e) in
      let split : IsSame m ((x ∷ (a ++ b)) ∷ []) ((x ∷ []) ∷ (a ++ b) ∷ []) = same_sym m ((x ∷ []) ∷ (a ++ b) ∷ []) ((x ∷ (a ++ b)) ∷ []) (same_merged m (x ∷ []) (a ++ b) (unread_dests (a ++ b) x u)) in
      let second : IsSame m (g ∷ (x ∷ (a ++ b)) ∷ []) (g ∷ (x ∷ []) ∷ (a ++ b) ∷ []) = same_before m (g ∷ []) ((x ∷ (a ++ b)) ∷ []) ((x ∷ []) ∷ (a ++ b) ∷ []) split in
      let third : IsSame m (g ∷ (x ∷ []) ∷ (a ++ b) ∷ []) ((g ++ x ∷ []) ∷ (a ++ b) ∷ []) =
      same_behind m (g ∷ (x ∷ []) ∷ []) ((g ++ x ∷ []) ∷ []) ((a ++ b) ∷ []) (same_merged m g (x ∷ []) (or_from _ _ f refl)) in
      same_trans m _ _ _ first (same_trans m _ _ _ second third)
