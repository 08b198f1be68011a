-- Live registers, words of lists of groups, and what words leave. For each group of a list the
-- registers that are live after it (`lives_of`); a register that a later group reads before
-- another writes it, or that is live behind and not written. Words that fit the groups
-- (`GroupsFit`), groups that have words (`AllHaveWords`), and the least words (`AreLeast`). Two
-- states that agree on the memory, the register file and a set of registers; what may follow a
-- group under a word that fits it.
use Rattle.std.specs.Prelude.{◌≡◌, ℕ, ◌<◌, true, false, ◌||◌, List, [], ◌∷◌, length, slice_index, slice_get, Some}
use Rattle.net_model.specs.declared.states.State.{State}
use Rattle.form_model.specs.Effects.{Operation, group_effect}
use Rattle.form_model.specs.Live.{Regs, group_reads, group_writes, live_at, live_before}
use Rattle.word_fit.specs.Fits.{IsLeastFit}

-- ---- live registers

-- for each group the registers that are live after it
abbrev pub lives_of : {A : Type 0} → (A → Operation) → List (List A) → Regs → List Regs
lives_of m [] after = []
lives_of m (g ∷ gs) after = live_before m gs after ∷ lives_of m gs after

-- a group of the list reads the register, and no group before that one writes it
pub record IsReadIn {A : Type 0} (m : A → Operation) (later : List (List A)) (r : ℕ) : Type 0 where
  pub place : ℕ
  pub reader : List A
  pub at : slice_get later place ≡ Some reader
  pub reads : group_reads m reader r ≡ true
  pub between : (i : ℕ) (h : List A) → i < place → slice_get later i ≡ Some h → group_writes m h r ≡ false

-- the register is live after the list, and no group of the list writes it
pub record IsLiveBehind {A : Type 0} (m : A → Operation) (later : List (List A)) (after : Regs) (r : ℕ) : Type 0 where
  pub live : after r ≡ true
  pub unwritten : (i : ℕ) (h : List A) → slice_get later i ≡ Some h → group_writes m h r ≡ false

-- ---- words of groups

-- the words fit the groups, one each
abbrev pub GroupsFit : {A : Type 0} → (A → Operation) → (ℕ → List A → Regs → Type 0) → List ℕ →
    List (List A) → Regs → Type 0
GroupsFit m fits [] [] after = Unit {0}
GroupsFit m fits (w ∷ ws) (g ∷ gs) after = fits w g (live_before m gs after) × GroupsFit m fits ws gs after
GroupsFit m fits ws gs after = ⊥

-- each group has a word that fits it
abbrev pub AllHaveWords : {A : Type 0} → (A → Operation) → (ℕ → List A → Regs → Type 0) → List (List A) → Regs → Type 0
AllHaveWords m fits [] after = Unit {0}
AllHaveWords m fits (g ∷ gs) after = ((w : ℕ) × fits w g (live_before m gs after)) × AllHaveWords m fits gs after

-- each group's word is the least word that fits it with the registers that are live after it
pub record AreLeast {A : Type 0} (m : A → Operation) (fits : ℕ → List A → Regs → Type 0)
    (words : List ℕ) (groups : List (List A)) (after : Regs) : Type 0 where
  pub long : length words ≡ length groups
  pub least : (k : ℕ) (g : List A) → slice_get groups k ≡ Some g →
      IsLeastFit (λ word. fits word g (live_at m groups after k)) (slice_index words k)

-- ---- what words leave

-- the same memory and file, and the same in each register of the set
pub record Agree (live : Regs) (s t : State) : Type 0 where
  pub size : length s.regs ≡ length t.regs
  pub cells : s.cells ≡ t.cells
  pub file : s.file ≡ t.file
  pub regs : (r : ℕ) → live r ≡ true → slice_index s.regs r ≡ slice_index t.regs r

-- t may follow s under a word that fits the group with these live registers
abbrev pub Follows : {A : Type 0} → (A → Operation) → List A → Regs → State → State → Type 0
Follows m g live s t = Agree (λ r. live r || group_writes m g r) t (group_effect m g s)
