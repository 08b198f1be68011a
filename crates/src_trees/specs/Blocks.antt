-- The blocks of a flow: the longest runs of assignments that no jump enters in their middle.
use Rattle.std.specs.Prelude.{ℕ, zero, suc, ◌+◌, ◌-◌, ◌==◌, ◌<◌, ◌≤◌, ◌≡◌, nat_lt, Bool, true, false, ◌&&◌, ◌||◌, not, List, [], ◌∷◌, ◌++◌, Option, Some, None, slice_get}
use Rattle.form_model.specs.declared.flow.Flow.{Flow}
use Rattle.form_model.specs.declared.flow.Flow.TheVariants.{Assign, Test, Jump, End}
use Rattle.src_trees.specs.Lowered.{JobModel}

abbrev pub is_assign : Option Flow → Bool
is_assign (Some (Assign tree)) = true
is_assign _ = false

-- a test or a jump goes on at a place
abbrev pub enters : Flow → ℕ → Bool
enters (Assign tree) at = false
enters (Test tree when_one when_zero) at = (when_one == at) || (when_zero == at)
enters (Jump to) at = to == at
enters End at = false

abbrev pub is_entered : List Flow → ℕ → Bool
is_entered [] at = false
is_entered (f ∷ rest) at = enters f at || is_entered rest at

-- a place continues the block of the place before it: both are assignments, and nothing enters
-- there
abbrev pub continues : List Flow → ℕ → Bool
continues flow at =
    nat_lt 0 at
    && (is_assign (slice_get flow (at - 1)) && (is_assign (slice_get flow at) && not (is_entered flow at)))

-- so many places from one on are a block
pub record IsAssignBlock (flow : List Flow) (at n : ℕ) : Type 0 where
  pub some : 1 ≤ n
  pub assigns : (k : ℕ) → k < n → is_assign (slice_get flow (at + k)) ≡ true
  pub first : continues flow at ≡ false
  pub inner : (k : ℕ) → k < n → 0 < k → continues flow (at + k) ≡ true
  pub last : continues flow (at + n) ≡ false

-- the job of a tree's number
abbrev pub job_list : Option JobModel → List JobModel
job_list None = []
job_list (Some job) = job ∷ []

-- the job at a place
abbrev pub job_at : List JobModel → Option Flow → List JobModel
job_at jobs (Some (Assign tree)) = job_list (slice_get jobs tree)
job_at jobs _ = []

-- the jobs at so many places from one on
abbrev pub jobs_at : List Flow → List JobModel → ℕ → ℕ → List JobModel
jobs_at flow jobs at zero = []
jobs_at flow jobs at (suc n) = jobs_at flow jobs at n ++ job_at jobs (slice_get flow (at + n))
