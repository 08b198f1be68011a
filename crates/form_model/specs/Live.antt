-- Which registers are live between groups of steps. A destination is a register, the memory, or a
-- cell of the file; reads and writes at two settled addresses that differ don't meet.
use Rattle.std.specs.Prelude.{ℕ, Bool, true, false, ◌==◌, ◌||◌, ◌&&◌, ◌+◌, ◌≡◌, not, List, [], ◌∷◌, drop}
use Rattle.std.specs.Int.{bit_at}
use Rattle.form_model.specs.Effects.{Operation, register, reads, writes}

-- a set of registers
abbrev pub Regs : Type 0
Regs = ℕ → Bool

abbrev pub no_regs : Regs
no_regs = λ r. false

-- the registers whose bit is set
abbrev pub regs_of : ℕ → Regs
regs_of bits = λ r. bit_at bits r == 1

-- the registers that a group reads, and those that it writes
abbrev pub group_reads : {A : Type 0} → (A → Operation) → List A → Regs
group_reads m [] = λ r. false
group_reads m (x ∷ g) = λ r. reads (m x) (register r) || group_reads m g r

abbrev pub group_writes : {A : Type 0} → (A → Operation) → List A → Regs
group_writes m [] = λ r. false
group_writes m (x ∷ g) = λ r. writes (m x) r || group_writes m g r

-- live before the groups, where `after` is live after them
abbrev pub live_before : {A : Type 0} → (A → Operation) → List (List A) → Regs → Regs
live_before m [] after = after
live_before m (g ∷ gs) after = λ r. group_reads m g r || (live_before m gs after r && not (group_writes m g r))

-- live after group k
abbrev pub live_at : {A : Type 0} → (A → Operation) → List (List A) → Regs → ℕ → Regs
live_at m gs after k = live_before m (drop (k + 1) gs) after

-- the list with one step in each group
abbrev pub singles : {A : Type 0} → List A → List (List A)
singles [] = []
singles (x ∷ xs) = (x ∷ []) ∷ singles xs

-- at each step of a list, each register that the step may clobber is its own destination or isn't
-- live after it
abbrev pub AllSpare : {A : Type 0} → (A → Operation) → (A → Regs) → List A → Regs → Type 0
AllSpare m clobbers [] after = Unit {0}
AllSpare m clobbers (x ∷ xs) after =
    ((r : ℕ) → clobbers x r ≡ true → writes (m x) r ≡ false →
    live_before m (singles xs) after r ≡ false)
    × AllSpare m clobbers xs after
