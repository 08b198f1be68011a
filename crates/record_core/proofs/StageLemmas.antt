-- Chains of stages.
use Rattle.std.proofs.Common.{◌≡◌, ℕ, List, inl, inr, sym, ap, ◌∙◌}
use Rattle.record_core.specs.Stages.{By, Just, Then}
use Rattle.record_core.specs.declared.status.Status.{Status}

-- no reason of the stage holds, so it refuses with nothing
pub By-none : {A : Type 0} (make : A → Status) (Reason : A → Type 0) → ((x : A) → Reason x → ⊥) → (status : Status) → By make Reason status → ⊥
By-none make Reason none status by = none by.0 by.1

-- a stage has at most one reason, so it refuses with at most one status
pub By-unique : {A : Type 0} (make : A → Status) (Reason : A → Type 0) → ((x y : A) → Reason x → Reason y → x ≡ y) → (s t : Status) → By make Reason s → By make Reason t → s ≡ t
By-unique make Reason one s t p q = p.2 ∙ (ap make (one p.0 q.0 p.1 q.1) ∙ sym q.2)

-- the same of a stage with one status
pub Just-none : (one : Status) (Reason : Type 0) → (Reason → ⊥) → (status : Status) → Just one Reason status → ⊥
Just-none one Reason none status just = none just.0

pub Just-unique : (one : Status) (Reason : Type 0) → (s t : Status) → Just one Reason s → Just one Reason t → s ≡ t
Just-unique one Reason s t p q = p.1 ∙ sym q.1

-- any two statuses that are answered are alike
abbrev pub AllAlike : (Status → Status → Type 0) → (Status → List ℕ → Type 0) → Type 0
AllAlike Alike Answer = (s t : Status) (a b : List ℕ) → Answer s a → Answer t b → Alike s t

-- at most one status is answered
abbrev pub AtMostOne : (Status → List ℕ → Type 0) → Type 0
AtMostOne = AllAlike (λ s t. s ≡ t)

-- where a stage refuses with statuses that are alike, and the later stages answer with such, so do
-- they together
pub Then-alike : (Alike : Status → Status → Type 0) (line : Status → List ℕ) (Refuses : Status → Type 0) (Later : Status → List ℕ → Type 0) →
    ((s t : Status) → Refuses s → Refuses t → Alike s t) → AllAlike Alike Later → AllAlike Alike (Then line Refuses Later)
Then-alike Alike line Refuses Later one later s t a b (inl p) (inl q) = one s t p.0 q.0
Then-alike Alike line Refuses Later one later s t a b (inl p) (inr q) = absurd (q.0 s p.0)
Then-alike Alike line Refuses Later one later s t a b (inr p) (inl q) = absurd (p.0 t q.0)
Then-alike Alike line Refuses Later one later s t a b (inr p) (inr q) = later s t a b p.1 q.1

-- where a stage refuses nothing, the later stages answer
pub Then-past : (line : Status → List ℕ) (Refuses : Status → Type 0) (Later : Status → List ℕ → Type 0) → ((other : Status) → Refuses other → ⊥) →
    (status : Status) (text : List ℕ) → Later status text → Then line Refuses Later status text
Then-past line Refuses Later none status text later = inr (none, later)

-- and nothing else does
pub Then-behind : (line : Status → List ℕ) (Refuses : Status → Type 0) (Later : Status → List ℕ → Type 0) → ((other : Status) → Refuses other → ⊥) →
    (status : Status) (text : List ℕ) → Then line Refuses Later status text → Later status text
Then-behind line Refuses Later none status text (inl p) = absurd (none status p.0)
Then-behind line Refuses Later none status text (inr p) = p.1
