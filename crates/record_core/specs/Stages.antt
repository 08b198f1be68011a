-- Refusals as a chain of stages, the first that applies first.
use Rattle.std.specs.Prelude.{◌≡◌, ◌⊎◌, ℕ, List, Some, None}
use Rattle.std.specs.declared.option.Option.{Option}
use Rattle.record_core.specs.declared.status.Status.{Status}
use Rattle.record_core.specs.declared.stop.Told.{Told}
use Rattle.record_core.specs.declared.stop.Told.TheVariants.{Nothing, Name as Named}

-- refused with a status of this kind, for a reason that names its numbers
abbrev pub By : {A : Type 0} → (A → Status) → (A → Type 0) → Status → Type 0
By {A} make Reason status = (x : A) × Reason x × (status ≡ make x)

-- refused with this status, for this reason
abbrev pub Just : Status → Type 0 → Status → Type 0
Just one Reason status = Reason × (status ≡ one)

-- refused by this stage, or no reason of it holds and the later stages answer
abbrev pub Then : (Status → List ℕ) → (Status → Type 0) → (Status → List ℕ → Type 0) → Status → List ℕ → Type 0
Then line Refuses Later status text =
    (Refuses status × (text ≡ line status))
    ⊎ (((other : Status) → Refuses other → ⊥) × Later status text)

-- a name that is told beside a status, if there is one
abbrev pub name_told : Option (List ℕ) → Told
name_told (Some name) = Named name
name_told None = Nothing

-- refused with a status of this kind, for a reason that tells a name too, or no such reason holds and
-- the later stages answer
abbrev pub ThenTelling : {A : Type 0} → (Told → Status → List ℕ) → (A → Status) → (A → Option (List ℕ) → Type 0) →
    (Status → List ℕ → Type 0) → Status → List ℕ → Type 0
ThenTelling {A} line make Reason Later status text =
    ((x : A) × (name : Option (List ℕ)) × Reason x name × (status ≡ make x) × (text ≡ line (name_told name) (make x)))
    ⊎ (((x : A) (name : Option (List ℕ)) → Reason x name → ⊥) × Later status text)
