-- A merged group does what its parts do one after the other.
use Rattle.std.proofs.Common.{◌≡◌, ℕ, false, List, [], ◌∷◌, ◌++◌, slice_set, refl, sym, ◌∙◌, ap}
use Rattle.std.proofs.lemmas.Bool.{true≢false, eqb-false, or_parts}
use Rattle.std.proofs.lemmas.List.{set_comm}
use Rattle.net_model.specs.declared.states.State.{State}
use Rattle.net_model.specs.declared.hardware.Space.{Space}
use Rattle.net_model.specs.declared.hardware.Space.TheVariants.{Memory as InMemory, File as InFile}
use Rattle.net_model.specs.MemoryText.{with_cell}
use Rattle.net_model.specs.Exprs.{ExprModel, TransferModel, keep, write, write_at}
use Rattle.net_model.specs.Meaning.{mean}
use Rattle.form_model.specs.Effects.{Operation, location_of, expr_reads, transfer_reads, reads, apply_transfer, apply_operation, apply_all, group_effect, groups_effect, steps_effect, same_destination}
use Rattle.form_model.specs.Live.{singles}
use Rattle.compaction.specs.Packing.{reads_from, reads_across, shares_destination}
use Rattle.compaction.proofs.Apart.{addresses_differ, mean_apart}
use Rattle.compaction.proofs.Differing.{step}

-- a transfer that doesn't read the destination of another finds the values that stood before it
transfer_apart : (move : TransferModel) (storage : ℕ) (space : Space) (setting : ℕ) (q : Operation) (o n k : State) → transfer_reads setting move (location_of q) ≡ false → apply_transfer storage space move setting (apply_operation q o n) k ≡ apply_transfer storage space move setting n k
transfer_apart keep storage space setting q o n k e = refl
transfer_apart (write v) storage space setting q o n k e =
    ap (λ x. let s : State = record { regs = slice_set k.regs storage x; cells = k.cells; file = k.file } in s) (mean_apart v setting q.storage q.space q.setting q.move o n e)
transfer_apart (write_at a v) storage space setting q o n k e =
    let p : (expr_reads setting a (location_of q) ≡ false) × (expr_reads setting v (location_of q) ≡ false) = or_parts _ _ e in
    let f = mean_apart a setting q.storage q.space q.setting q.move o n p.0 in
    let g = mean_apart v setting q.storage q.space q.setting q.move o n p.1 in
    ap (λ x. with_cell k space x (mean v (apply_operation q o n) setting)) f ∙ ap (λ x. with_cell k space (mean a n setting) x) g

apply_apart : (p q : Operation) (o n k : State) → reads p (location_of q) ≡ false → apply_operation p (apply_operation q o n) k ≡ apply_operation p n k
apply_apart p q o n k e = transfer_apart p.move p.storage p.space p.setting q o n k e

module _ {A : Type 0} (m : A → Operation) where
  apply_from : (p : Operation) (g : List A) (o n k : State) → reads_from m p g ≡ false → apply_operation p (apply_all m g o n) k ≡ apply_operation p n k
  apply_from p [] o n k e = refl
  apply_from p (x ∷ g) o n k e =
      let w : (reads p (location_of (m x)) ≡ false) × (reads_from m p g ≡ false) = or_parts _ _ e in
      apply_from p g o (apply_operation (m x) o n) k w.1 ∙ apply_apart p (m x) o n k w.0

  -- a group that reads no destination of g finds the values that stood before g
  pub all_from : (g h : List A) (o n k : State) → reads_across m g h ≡ false → apply_all m h (apply_all m g o n) k ≡ apply_all m h n k
  all_from g [] o n k e = refl
  all_from g (y ∷ h) o n k e =
      let w : (reads_from m (m y) g ≡ false) × (reads_across m g h ≡ false) = or_parts _ _ e in
      all_from g h o n (apply_operation (m y) (apply_all m g o n) k) w.1 ∙ ap (λ z. apply_all m h n z) (apply_from (m y) g o n k w.0)

  pub apply_all-append : (g h : List A) (o n : State) → apply_all m (g ++ h) o n ≡ apply_all m h o (apply_all m g o n)
  apply_all-append [] h o n = refl
  apply_all-append (x ∷ g) h o n = apply_all-append g h o (apply_operation (m x) o n)

  -- a merged group does what its parts do one after the other
  pub effect-merge : (g h : List A) (s : State) → reads_across m g h ≡ false → group_effect m (g ++ h) s ≡ group_effect m h (group_effect m g s)
  effect-merge g h s e = apply_all-append g h s s ∙ sym (all_from g h s s (apply_all m g s s) e)

  pub effect-singles : (xs : List A) (s : State) → groups_effect m (singles xs) s ≡ steps_effect m xs s
  effect-singles [] s = refl
  effect-singles (x ∷ xs) s = effect-singles xs (apply_operation (m x) s s)

  pub effect-append : (gs hs : List (List A)) (s : State) → groups_effect m (gs ++ hs) s ≡ groups_effect m hs (groups_effect m gs s)
  effect-append [] hs s = refl
  effect-append (g ∷ gs) hs s = effect-append gs hs (group_effect m g s)

-- two transfers with different destinations may change places
abbrev with_reg : State → ℕ → ℕ → State
with_reg n q z = record { regs = slice_set n.regs q z; cells = n.cells; file = n.file }

put_write : (n : State) (space : Space) (x y q z : ℕ) → with_cell (with_reg n q z) space x y ≡ with_reg (with_cell n space x y) q z
put_write n InMemory x y q z = refl
put_write n InFile x y q z = refl

put_comm : (a b : ℕ) (s t : Space) (c v d w : ExprModel) (i j : ℕ) (o n : State) → same_destination (step a s (write_at c v) i) (step b t (write_at d w) j) ≡ false
    → with_cell (with_cell n t (mean d o j) (mean w o j)) s (mean c o i) (mean v o i) ≡ with_cell (with_cell n s (mean c o i) (mean v o i)) t (mean d o j) (mean w o j)
put_comm a b InMemory InMemory c v d w i j o n e = absurd (true≢false e)
put_comm a b InMemory InFile c v d w i j o n e = refl
put_comm a b InFile InMemory c v d w i j o n e = refl
put_comm a b InFile InFile c v d w i j o n e =
    ap (λ (z : List ℕ). let s : State = record { regs = n.regs; cells = n.cells; file = z } in s)
    (set_comm n.file (mean d o j) (mean c o i) (mean w o j) (mean v o i) (λ k. addresses_differ InFile i c o j d o e (sym k)))

transfer_comm : (a b : ℕ) (s t : Space) (p q : TransferModel) (i j : ℕ) (o n : State) → same_destination (step a s p i) (step b t q j) ≡ false → apply_transfer a s p i o (apply_transfer b t q j o n) ≡ apply_transfer b t q j o (apply_transfer a s p i o n)
transfer_comm a b s t keep q i j o n e = refl
transfer_comm a b s t (write v) keep i j o n e = refl
transfer_comm a b s t (write_at c v) keep i j o n e = refl
transfer_comm a b s t (write v) (write w) i j o n e =
    ap (λ (z : List ℕ). let s : State = record { regs = z; cells = n.cells; file = n.file } in s) (set_comm n.regs b a (mean w o j) (mean v o i) (λ k. eqb-false a b e (sym k)))
transfer_comm a b s t (write v) (write_at d w) i j o n e = sym (put_write n t (mean d o j) (mean w o j) a (mean v o i))
transfer_comm a b s t (write_at c v) (write w) i j o n e = put_write n s (mean c o i) (mean v o i) b (mean w o j)
transfer_comm a b s t (write_at c v) (write_at d w) i j o n e = put_comm a b s t c v d w i j o n e

apply_comm : (p q : Operation) (o n : State) → same_destination p q ≡ false → apply_operation p o (apply_operation q o n) ≡ apply_operation q o (apply_operation p o n)
apply_comm p q o n e = transfer_comm p.storage q.storage p.space q.space p.move q.move p.setting q.setting o n e

module _ {A : Type 0} (m : A → Operation) where
  -- a step may be done first, before others of its group
  pub apply_all-pull : (a b : List A) (x : A) (o n : State) → shares_destination m (m x) a ≡ false → apply_all m (a ++ x ∷ b) o n ≡ apply_all m (x ∷ (a ++ b)) o n
  apply_all-pull [] b x o n e = refl
  apply_all-pull (y ∷ a) b x o n e =
      let w : (same_destination (m x) (m y) ≡ false) × (shares_destination m (m x) a ≡ false) = or_parts _ _ e in
      apply_all-pull a b x o (apply_operation (m y) o n) w.1 ∙ ap (λ z. apply_all m (a ++ b) o z) (apply_comm (m x) (m y) o n w.0)
