-- What the packer keeps while it changes a list of groups.
use Rattle.std.specs.Prelude.{◌≡◌, ℕ, ◌+◌, ◌-◌, ◌*◌, ◌<◌, zero, suc, List, [], ◌∷◌, ◌++◌, length, slice_get, remove, Some, IsPermutation}
use Rattle.net_model.specs.declared.states.State.{State}
use Rattle.form_model.specs.declared.forms.Step.{Step}
use Rattle.form_model.specs.Effects.{Operation, groups_effect}
use Rattle.form_model.specs.Live.{Regs, live_before}
use Rattle.word_fit.specs.Groups.{AllHaveWords}
use Rattle.compaction.specs.Packing.{EachDiffers, IsPacked, IsSettled, Mergeable, Movable, all_steps}
use Rattle.compaction.specs.Chosen.{Packs}
use Rattle.compaction.specs.declared.change.Change.{Change}
use Rattle.compaction.specs.declared.change.Change.TheVariants.{Merged, Moved, Settled}

-- ---- changes

-- the step of h at a place moves to g
pub record IsMovedAt {A : Type 0} (m : A → Operation) (fits : ℕ → List A → Regs → Type 0)
    (g h : List A) (live : Regs) (index : ℕ) (first second : List A) : Type 0 where
  pub step : A
  pub at : slice_get h index ≡ Some step
  pub first_is : first ≡ g ++ step ∷ []
  pub second_is : second ≡ remove h index
  pub movable : Movable m fits g step (remove h index) live

-- the first movable step of h moves to g
pub record IsMoved {A : Type 0} (m : A → Operation) (fits : ℕ → List A → Regs → Type 0)
    (g h : List A) (live : Regs) (first second : List A) : Type 0 where
  pub index : ℕ
  pub moved : IsMovedAt m fits g h live index first second
  pub before : (i : ℕ) → i < index → (x : A) → slice_get h i ≡ Some x → Movable m fits g x (remove h i) live → ⊥

-- the change that the packer makes of two neighbours
abbrev pub IsChange : (Step → Operation) → (ℕ → List Step → Regs → Type 0) → List Step → List Step →
    Regs → Change → Type 0
IsChange m fits g h live (Merged both) = (both.group ≡ g ++ h) × Mergeable m fits g h live
IsChange m fits g h live (Moved first second) =
    (Mergeable m fits g h live → ⊥) × IsMoved m fits g h live first.group second.group
IsChange m fits g h live Settled = IsSettled m fits g h live

-- ---- what is settled

-- the first group and its neighbour stay
abbrev pub FirstSettled : {A : Type 0} → (A → Operation) → (ℕ → List A → Regs → Type 0) → Regs →
    List A → List (List A) → Type 0
FirstSettled m fits after g [] = Unit {0}
FirstSettled m fits after g (h ∷ gs) = IsSettled m fits g h (live_before m gs after)

-- all neighbours stay
abbrev pub AllSettled : {A : Type 0} → (A → Operation) → (ℕ → List A → Regs → Type 0) → Regs → List (List A) → Type 0
AllSettled m fits after [] = Unit {0}
AllSettled m fits after (g ∷ gs) = FirstSettled m fits after g gs × AllSettled m fits after gs

-- all neighbours up to group k stay
abbrev pub SettledTo : {A : Type 0} → (A → Operation) → (ℕ → List A → Regs → Type 0) → Regs → ℕ → List (List A) → Type 0
SettledTo m fits after zero gs = Unit {0}
SettledTo m fits after (suc k) [] = Unit {0}
SettledTo m fits after (suc k) (g ∷ gs) = FirstSettled m fits after g gs × SettledTo m fits after k gs

-- what holds of the groups while the first k pairs are settled
pub record IsPackedTo {A : Type 0} (m : A → Operation) (fits : ℕ → List A → Regs → Type 0)
    (after : Regs) (k : ℕ) (gs : List (List A)) : Type 0 where
  pub words : AllHaveWords m fits gs after
  pub differ : EachDiffers m gs
  pub settled : SettledTo m fits after k gs

-- ---- turns

-- two lists of groups have the same steps and do the same, and the same registers are live before
-- them
pub record IsSame {A : Type 0} (m : A → Operation) (gs hs : List (List A)) : Type 0 where
  pub steps : IsPermutation (all_steps gs) (all_steps hs)
  pub effect : (s : State) → groups_effect m gs s ≡ groups_effect m hs s
  pub live : (after : Regs) → live_before m gs after ≡ live_before m hs after

-- the room that the groups take, and the sum of it over all rests of the list: this falls when
-- steps move to the front
abbrev pub size : {A : Type 0} → List (List A) → ℕ
size [] = 0
size (g ∷ gs) = length g + 1 + size gs

abbrev pub weight : {A : Type 0} → List (List A) → ℕ
weight [] = 0
weight (g ∷ gs) = size gs + weight gs

-- what is still to be done from pair k on
abbrev pub work : {A : Type 0} → List (List A) → ℕ → ℕ
work gs k = 2 * weight gs + (length gs - k)

-- one turn of the packer, which stood at the pair k and goes on at the pair `next`
pub record IsTurn {A : Type 0} (m : A → Operation) (fits : ℕ → List A → Regs → Type 0)
    (after : Regs) (old new : List (List A)) (k next : ℕ) : Type 0 where
  pub same : IsSame m old new
  pub packed : IsPackedTo m fits after next new
  pub less : work new next < work old k
  pub chosen : (result : List (List A)) → Packs m fits after next new result → Packs m fits after k old result

-- what the turns make of groups: those that are written, which do the same, have words, and are
-- packed
pub record IsPacking {A : Type 0} (m : A → Operation) (fits : ℕ → List A → Regs → Type 0)
    (after : Regs) (old new : List (List A)) : Type 0 where
  pub same : IsSame m old new
  pub words : AllHaveWords m fits new after
  pub differ : EachDiffers m new
  pub packed : IsPacked m fits after new
  pub chosen : Packs m fits after 0 old new
