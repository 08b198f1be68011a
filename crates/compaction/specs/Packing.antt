-- Groups that may be merged, steps that may move up, and lists of groups that are packed. Two
-- neighbours may be *merged* where the destinations of their steps all differ, no step of the
-- second reads a destination of the first, and some word fits them together (`Mergeable`); reads
-- and writes of the memory at two settled addresses that differ don't meet, nor do those of the
-- register file at two cells. Two stores have one destination, the memory; two writes of the file
-- have one only where their cells may be the same. A step that isn't alone in its group may *move*
-- to the group before where its destination is none of that group's, it reads none of them, none
-- of those that it leaves reads its own (`IsFree`), and words fit both groups after the move, with
-- the registers that are live then (`Movable`). A list is *packed* where no two neighbours may be
-- merged and no step may move (`IsPacked`).
use Rattle.std.specs.Prelude.{◌≡◌, ℕ, ◌+◌, ◌≤◌, true, false, Bool, ◌||◌, ◌&&◌, not, List, [], ◌∷◌, ◌++◌, length, slice_get, remove, Some}
use Rattle.std.specs.List.{AllByRecursion}
use Rattle.form_model.specs.Effects.{Operation, location_of, reads, same_destination}
use Rattle.form_model.specs.Live.{Regs, live_at, live_before}

-- the steps of all groups
abbrev pub all_steps : {A : Type 0} → List (List A) → List A
all_steps [] = []
all_steps (g ∷ gs) = g ++ all_steps gs

-- ---- what steps read and write of one another

-- a step reads a destination of the group
abbrev pub reads_from : {A : Type 0} → (A → Operation) → Operation → List A → Bool
reads_from m d [] = false
reads_from m d (x ∷ g) = reads d (location_of (m x)) || reads_from m d g

-- a step of h reads a destination of g
abbrev pub reads_across : {A : Type 0} → (A → Operation) → List A → List A → Bool
reads_across m g [] = false
reads_across m g (y ∷ h) = reads_from m (m y) g || reads_across m g h

-- a step of the group reads the step's destination
abbrev pub is_read_by : {A : Type 0} → (A → Operation) → Operation → List A → Bool
is_read_by m d [] = false
is_read_by m d (y ∷ h) = reads (m y) (location_of d) || is_read_by m d h

-- a step of the group has the step's destination
abbrev pub shares_destination : {A : Type 0} → (A → Operation) → Operation → List A → Bool
shares_destination m d [] = false
shares_destination m d (x ∷ g) = same_destination d (m x) || shares_destination m d g

-- the destinations of a group all differ
abbrev pub all_differ : {A : Type 0} → (A → Operation) → List A → Bool
all_differ m [] = true
all_differ m (x ∷ g) = not (shares_destination m (m x) g) && all_differ m g

-- so they do within each group of a list
abbrev pub EachDiffers : {A : Type 0} → (A → Operation) → List (List A) → Type 0
EachDiffers m gs = AllByRecursion (λ g. all_differ m g ≡ true) gs

-- ---- neighbours

-- two neighbours may be merged, where `live` is live behind the second: their destinations all
-- differ, no step of the second reads a destination of the first, and some word fits the steps of
-- both
pub record Mergeable {A : Type 0} (m : A → Operation) (fits : ℕ → List A → Regs → Type 0)
    (g h : List A) (live : Regs) : Type 0 where
  pub differ : all_differ m (g ++ h) ≡ true
  pub apart : reads_across m g h ≡ false
  pub word : (w : ℕ) × fits w (g ++ h) live

-- a step is free to move from a group to the group g before it, where it leaves `rest` behind,
-- which isn't empty: its destination is none of g's, it reads none of them, and no step of the rest
-- reads its own
pub record IsFree {A : Type 0} (m : A → Operation) (g : List A) (x : A) (rest : List A) : Type 0 where
  pub other : 1 ≤ length rest
  pub own : shares_destination m (m x) g ≡ false
  pub apart : reads_from m (m x) g ≡ false
  pub unread : is_read_by m (m x) rest ≡ false

-- it may move where it is free to, and some word fits g with it and some the rest, with the
-- registers that are live then
pub record Movable {A : Type 0} (m : A → Operation) (fits : ℕ → List A → Regs → Type 0) (g : List A)
    (x : A) (rest : List A) (live : Regs) : Type 0 where
  pub free : IsFree m g x rest
  pub first : (w : ℕ) × fits w (g ++ x ∷ []) (live_before m (rest ∷ []) live)
  pub second : (w : ℕ) × fits w rest live

-- the neighbours may not be merged, and no step of the second may move
pub record IsSettled {A : Type 0} (m : A → Operation) (fits : ℕ → List A → Regs → Type 0)
    (g h : List A) (live : Regs) : Type 0 where
  pub unmergeable : Mergeable m fits g h live → ⊥
  pub unmovable : (i : ℕ) (x : A) → slice_get h i ≡ Some x → Movable m fits g x (remove h i) live → ⊥

-- no two neighbours may be merged, and no step may move to the group before its own
abbrev pub IsPacked : {A : Type 0} → (A → Operation) → (ℕ → List A → Regs → Type 0) → Regs → List (List A) → Type 0
IsPacked {A} m fits after gs =
    (k : ℕ) (g h : List A) → slice_get gs k ≡ Some g → slice_get gs (k + 1) ≡ Some h →
    IsSettled m fits g h (live_at m gs after (k + 1))
