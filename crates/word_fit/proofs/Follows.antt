-- A state in which each transfer of a group is done, and what is live is kept, follows the group.
use Rattle.std.proofs.Common.{zero, suc, ◌≡◌, ℕ, ◌<◌, ◌||◌, ◌&&◌, ◌⊎◌, inl, inr, true, false, List, [], ◌∷◌, length, slice_index, slice_set, refl, sym, ◌∙◌, ap, arith, subst}
use Rattle.std.proofs.lemmas.Bool.{true≢false, eqb-true, or_cases, or_from, cases_eq, cases_Bool}
use Rattle.std.proofs.lemmas.List.{get_or-set_same, get_or-set_other, length-set}
use Rattle.rec_bits.proofs.Booleans.{left_true}
use Rattle.net_model.specs.declared.hardware.Space.{Space}
use Rattle.net_model.specs.declared.hardware.Space.TheVariants.{Memory as InMemory, File as InFile}
use Rattle.net_model.specs.declared.states.State.{State}
use Rattle.net_model.specs.MemoryText.{with_cell}
use Rattle.net_model.specs.Nets.{held}
use Rattle.net_model.specs.Exprs.{ExprModel, TransferModel, keep, write, write_at}
use Rattle.net_model.specs.Meaning.{mean}
use Rattle.form_model.specs.Effects.{Operation, apply_transfer, apply_operation, apply_all, group_effect, transfer_writes, writes, is_store, same_space}
use Rattle.form_model.specs.Live.{Regs, group_writes}
use Rattle.form_model.proofs.Spaces.{space_is}
use Rattle.word_fit.specs.Fits.{group_stores, stores_in}
use Rattle.word_fit.specs.Groups.{Follows}

-- t has what the transfer makes of s
abbrev pub IsMade : ℕ → ℕ → Space → TransferModel → State → State → Type 0
IsMade storage setting space keep s t = Unit {0}
IsMade storage setting space (write v) s t = (storage < length s.regs) × (slice_index t.regs storage ≡ mean v s setting)
IsMade storage setting space (write_at a v) s t = held t space ≡ slice_set (held s space) (mean a s setting) (mean v s setting)

abbrev pub AllMade : {A : Type 0} → (A → Operation) → List A → State → State → Type 0
AllMade m [] s t = Unit {0}
AllMade m (x ∷ g) s t = IsMade (m x).storage (m x).setting (m x).space (m x).move s t × AllMade m g s t

-- ---- what is put into a cell

pub put_own : (n : State) (space : Space) (i x : ℕ) → held (with_cell n space i x) space ≡ slice_set (held n space) i x
put_own n InMemory i x = refl
put_own n InFile i x = refl

pub put_other : (n : State) (space other : Space) (i x : ℕ) → same_space space other ≡ false → held (with_cell n space i x) other ≡ held n other
put_other n InMemory InMemory i x e = absurd (true≢false e)
put_other n InMemory InFile i x e = refl
put_other n InFile InMemory i x e = refl
put_other n InFile InFile i x e = absurd (true≢false e)

pub put_regs : (n : State) (space : Space) (i x : ℕ) → (with_cell n space i x).regs ≡ n.regs
put_regs n InMemory i x = refl
put_regs n InFile i x = refl

set_again : (xs : List ℕ) (i x : ℕ) → slice_set (slice_set xs i x) i x ≡ slice_set xs i x
set_again [] zero x = refl
set_again [] (suc i) x = refl
set_again (y ∷ xs) zero x = refl
set_again (y ∷ xs) (suc i) x = ap (λ (z : List ℕ). y ∷ z) (set_again xs i x)

module _ (s t : State) (size : length t.regs ≡ length s.regs) where
  put_size : (move : TransferModel) (q i : ℕ) (space : Space) (n : State) → length (apply_transfer q space move i s n).regs ≡ length n.regs
  put_size keep q i space n = refl
  put_size (write v) q i space n = length-set n.regs q (mean v s i)
  put_size (write_at a v) q i space n = ap length (put_regs n space (mean a s i) (mean v s i))

  reg_set : (q i : ℕ) (space : Space) (v : ExprModel) (n : State) → IsMade q i space (write v) s t → length n.regs ≡ length s.regs → slice_index (slice_set n.regs q (mean v s i)) q ≡ slice_index t.regs q
  reg_set q i space v n d l = get_or-set_same n.regs q (mean v s i) 0 (omega (arith, d.0, l)) ∙ sym d.1

  reg_stays : (move : TransferModel) (q i : ℕ) (space : Space) (n : State) (r : ℕ) → IsMade q i space move s t → length n.regs ≡ length s.regs → slice_index n.regs r ≡ slice_index t.regs r → slice_index (apply_transfer q space move i s n).regs r ≡ slice_index t.regs r
  reg_stays keep q i space n r d l h = h
  reg_stays (write v) q i space n r d l h =
      elim (cases_eq r q) as (λ _. slice_index (slice_set n.regs q (mean v s i)) r ≡ slice_index t.regs r) [
        | inl e ↦ subst (λ k. slice_index (slice_set n.regs q (mean v s i)) k ≡ slice_index t.regs k) (sym e) (reg_set q i space v n d l)
        | inr e ↦ get_or-set_other n.regs q r (mean v s i) 0 e ∙ h
      ]
  reg_stays (write_at a v) q i space n r d l h = ap (λ (z : List ℕ). slice_index z r) (put_regs n space (mean a s i) (mean v s i)) ∙ h

  reg_made : (move : TransferModel) (q i : ℕ) (space : Space) (n : State) (r : ℕ) → IsMade q i space move s t → length n.regs ≡ length s.regs → transfer_writes q move r ≡ true → slice_index (apply_transfer q space move i s n).regs r ≡ slice_index t.regs r
  reg_made keep q i space n r d l e = absurd (true≢false (sym e))
  reg_made (write v) q i space n r d l e =
      subst (λ k. slice_index (slice_set n.regs q (mean v s i)) k ≡ slice_index t.regs k) (eqb-true q r e) (reg_set q i space v n d l)
  reg_made (write_at a v) q i space n r d l e = absurd (true≢false (sym e))

  -- cells of a space that a transfer writes, from those of s
  cells_made : (at : Space) (move : TransferModel) (q i : ℕ) (space : Space) (n : State) → IsMade q i space move s t → (is_store move && same_space space at) ≡ true → held n at ≡ held s at → held (apply_transfer q space move i s n) at ≡ held t at
  cells_made at keep q i space n d e h = absurd (true≢false (sym e))
  cells_made at (write v) q i space n d e h = absurd (true≢false (sym e))
  cells_made at (write_at a v) q i space n d e h =
      let same : space ≡ at = space_is space at e in
      subst (λ z. held n z ≡ held s z → held (with_cell n space (mean a s i) (mean v s i)) z ≡ held t z) same
      (λ k. put_own n space (mean a s i) (mean v s i) ∙ ap (λ (z : List ℕ). slice_set z (mean a s i) (mean v s i)) k ∙ sym d) h

  -- and those that are there already
  cells_stay : (at : Space) (move : TransferModel) (q i : ℕ) (space : Space) (n : State) → IsMade q i space move s t → held n at ≡ held t at → held (apply_transfer q space move i s n) at ≡ held t at
  cells_stay at keep q i space n d h = h
  cells_stay at (write v) q i space n d h = write_kept at h
    where
      write_kept : (at : Space) → held n at ≡ held t at → held (apply_transfer q space (write v) i s n) at ≡ held t at
      write_kept InMemory k = k
      write_kept InFile k = k
  cells_stay at (write_at a v) q i space n d h =
      elim (cases_Bool (same_space space at)) as (λ _. held (with_cell n space (mean a s i) (mean v s i)) at ≡ held t at) [
        | inl e ↦ subst (λ z. held n z ≡ held t z → held (with_cell n space (mean a s i) (mean v s i)) z ≡ held t z) (space_is space at e)
            (λ k. put_own n space (mean a s i) (mean v s i) ∙ ap (λ (z : List ℕ). slice_set z (mean a s i) (mean v s i)) (k ∙ d) ∙ set_again (held s space) (mean a s i) (mean v s i) ∙ sym d) h
        | inr e ↦ put_other n space at (mean a s i) (mean v s i) e ∙ h
      ]

  cells_kept : (at : Space) (move : TransferModel) (q i : ℕ) (space : Space) (n : State) → (is_store move && same_space space at) ≡ false → held (apply_transfer q space move i s n) at ≡ held n at
  cells_kept at keep q i space n e = refl
  cells_kept InMemory (write v) q i space n e = refl
  cells_kept InFile (write v) q i space n e = refl
  cells_kept at (write_at a v) q i space n e = put_other n space at (mean a s i) (mean v s i) e

  module _ {A : Type 0} (m : A → Operation) where
    puts_size : (g : List A) (n : State) → length (apply_all m g s n).regs ≡ length n.regs
    puts_size [] n = refl
    puts_size (x ∷ g) n = puts_size g (apply_operation (m x) s n) ∙ put_size (m x).move (m x).storage (m x).setting (m x).space n

    all_stay : (g : List A) (n : State) (r : ℕ) → AllMade m g s t → length n.regs ≡ length s.regs → slice_index n.regs r ≡ slice_index t.regs r → slice_index (apply_all m g s n).regs r ≡ slice_index t.regs r
    all_stay [] n r d l h = h
    all_stay (x ∷ g) n r d l h =
        all_stay g (apply_operation (m x) s n) r d.1 (put_size (m x).move (m x).storage (m x).setting (m x).space n ∙ l) (reg_stays (m x).move (m x).storage (m x).setting (m x).space n r d.0 l h)

    all_regs : (g : List A) (n : State) (r : ℕ) → AllMade m g s t → length n.regs ≡ length s.regs → group_writes m g r ≡ true → slice_index (apply_all m g s n).regs r ≡ slice_index t.regs r
    all_regs [] n r d l e = absurd (true≢false (sym e))
    all_regs (x ∷ g) n r d l e =
        elim (or_cases (writes (m x) r) (group_writes m g r) e) as (λ _. slice_index (apply_all m (x ∷ g) s n).regs r ≡ slice_index t.regs r) [
          | inl u ↦ all_stay g (apply_operation (m x) s n) r d.1 (put_size (m x).move (m x).storage (m x).setting (m x).space n ∙ l) (reg_made (m x).move (m x).storage (m x).setting (m x).space n r d.0 l u)
          | inr u ↦ all_regs g (apply_operation (m x) s n) r d.1 (put_size (m x).move (m x).storage (m x).setting (m x).space n ∙ l) u
        ]

    all_cells_stay : (at : Space) (g : List A) (n : State) → AllMade m g s t → held n at ≡ held t at → held (apply_all m g s n) at ≡ held t at
    all_cells_stay at [] n d h = h
    all_cells_stay at (x ∷ g) n d h = all_cells_stay at g (apply_operation (m x) s n) d.1 (cells_stay at (m x).move (m x).storage (m x).setting (m x).space n d.0 h)

    all_cells : (at : Space) (g : List A) (n : State) → AllMade m g s t → (group_stores at m g ≡ false → held t at ≡ held s at) → held n at ≡ held s at → held (apply_all m g s n) at ≡ held t at
    all_cells at [] n d k h = h ∙ sym (k refl)
    all_cells at (x ∷ g) n d k h =
        elim (cases_Bool (stores_in at (m x))) as (λ _. held (apply_all m (x ∷ g) s n) at ≡ held t at) [
          | inl u ↦ all_cells_stay at g (apply_operation (m x) s n) d.1 (cells_made at (m x).move (m x).storage (m x).setting (m x).space n d.0 u h)
          | inr u ↦ all_cells at g (apply_operation (m x) s n) d.1 (λ e. k (or_from (stores_in at (m x)) (group_stores at m g) u e)) (cells_kept at (m x).move (m x).storage (m x).setting (m x).space n u ∙ h)
        ]

    -- the state follows the group
    pub follows : (g : List A) (live : Regs) → AllMade m g s t → ((at : Space) → group_stores at m g ≡ false → held t at ≡ held s at) → ((r : ℕ) → live r ≡ true → group_writes m g r ≡ false → slice_index t.regs r ≡ slice_index s.regs r) → Follows m g live s t
    follows g live d k f = record {
      size = size ∙ sym (puts_size g s);
      cells = sym (all_cells InMemory g s d (k InMemory) refl);
      file = sym (all_cells InFile g s d (k InFile) refl);
      regs = λ r e. at r (cases_Bool (group_writes m g r)) e;
    }
      where
        at : (r : ℕ) → (group_writes m g r ≡ true) ⊎ (group_writes m g r ≡ false) → (live r || group_writes m g r) ≡ true → slice_index t.regs r ≡ slice_index (group_effect m g s).regs r
        at r (inl u) e = sym (all_regs g s r d refl u)
        at r (inr u) e = sym (all_stay g s r d refl (sym (f r (left_true (live r) (group_writes m g r) e u) u)))
