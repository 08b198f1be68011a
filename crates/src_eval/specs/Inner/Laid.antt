-- Which steps stand for a statement: step by step those of its trees, each with where the run goes
-- on.
use Rattle.std.specs.Prelude.{ℕ, ◌+◌, ◌<◌, ◌≤◌, ◌≡◌, ◌||◌, nat_le, Bool, IsTrue, List, [], ◌∷◌, ◌++◌, length, slice_get, Some}
use Rattle.src_model.specs.declared.program.Var.{Var as Declared}
use Rattle.src_model.specs.Written.{StmtModel, assign, choice, while, count, StmtsModel, no_acts, act, ElseModel, without, otherwise}
use Rattle.src_model.specs.Sizes.{statements, statements_in}
use Rattle.src_model.specs.Meaning.{assigned, holds}
use Rattle.src_model.specs.Trace.{started, stepped, counting}
use Rattle.src_eval.specs.declared.machine.Step.{Step}
use Rattle.src_eval.specs.declared.machine.Step.TheVariants.{Assign, Test}
use Rattle.src_eval.specs.Formulas.{FormulaFits, FitsComparison, stored, met}
use Rattle.rec_bits.specs.Operators.{IsWidth}
use Rattle.src_eval.specs.Inner.Steps.{StepsFit, is_test}

-- the step changes every store so, and goes on there
abbrev pub IsDoing : (List ℕ → List ℕ) → ℕ → Step → Type 0
IsDoing change next (Assign first index value to) =
    (to ≡ next) × ((cells : List ℕ) → stored first index value cells ≡ change cells)
IsDoing change next (Test test on_true on_false) = ⊥

-- the step asks every store so, and goes on at one of two steps
abbrev pub IsAsking : (List ℕ → Bool) → ℕ → ℕ → Step → Type 0
IsAsking question yes_to no_to (Assign first index value to) = ⊥
IsAsking question yes_to no_to (Test test on_true on_false) =
    (on_true ≡ yes_to) × (on_false ≡ no_to) × ((cells : List ℕ) → met test cells ≡ question cells)

-- the list has such a step there
pub record Has (steps : List Step) (at : ℕ) (Is : Step → Type 0) : Type 0 where
  pub step : Step
  pub there : slice_get steps at ≡ Some step
  pub is : Is step

-- where statements begin; those of an empty block are what comes after it
abbrev pub entry : StmtsModel → ℕ → ℕ → ℕ
entry no_acts tree next = next
entry (act a rest) tree next = tree

abbrev pub entry_else : ElseModel → ℕ → ℕ → ℕ
entry_else without tree next = next
entry_else (otherwise body) tree next = entry body tree next

abbrev mutual
  -- the steps of a statement, whose first tree has this number, and behind which the run goes on
  -- there
  pub Laid : ℕ → List Declared → List Step → StmtModel → ℕ → ℕ → Type 0
  Laid word vars steps (assign place e) tree next = Has steps tree (IsDoing (assigned word vars place e) next)
  Laid word vars steps (choice test taken other) tree next =
      Has steps tree (IsAsking (holds word vars test) (entry taken (tree + 1) next)
      (entry_else other (tree + 1 + statements_in taken) next))
      × LaidIn word vars steps taken (tree + 1) next
      × LaidElse word vars steps other (tree + 1 + statements_in taken) next
  Laid word vars steps (while test body) tree next =
      Has steps tree (IsAsking (holds word vars test) (entry body (tree + 1) tree) next)
      × LaidIn word vars steps body (tree + 1) tree
  Laid word vars steps (count counter at from to body) tree next =
      Has steps tree (IsDoing (started vars counter from) (tree + 1))
      × Has steps (tree + 1) (IsAsking (counting vars counter to)
      (entry body (tree + 2) (tree + 2 + statements_in body)) next)
      × LaidIn word vars steps body (tree + 2) (tree + 2 + statements_in body)
      × Has steps (tree + 2 + statements_in body) (IsDoing (stepped word vars counter) (tree + 1))

  pub LaidIn : ℕ → List Declared → List Step → StmtsModel → ℕ → ℕ → Type 0
  LaidIn word vars steps no_acts tree next = Unit {0}
  LaidIn word vars steps (act a rest) tree next =
      Laid word vars steps a tree (entry rest (tree + statements a) next)
      × LaidIn word vars steps rest (tree + statements a) next

  pub LaidElse : ℕ → List Declared → List Step → ElseModel → ℕ → ℕ → Type 0
  LaidElse word vars steps without tree next = Unit {0}
  LaidElse word vars steps (otherwise body) tree next = LaidIn word vars steps body tree next

-- ---- how a list of steps grows

abbrev pub Extends : List Step → List Step → Type 0
Extends old new = (i : ℕ) → i < length old → slice_get new i ≡ slice_get old i

abbrev pub FitsParts : ℕ → Step → Type 0
FitsParts word (Assign first index value to) = FormulaFits word word index × FormulaFits word word value
FitsParts word (Test test on_true on_false) = FitsComparison word test

-- one step more
pub record Pushed (word : ℕ) (old new : List Step) (Is : Step → Type 0) : Type 0 where
  pub step : Step
  pub pushed : new ≡ old ++ step ∷ []
  pub is : Is step
  pub fits : FitsParts word step

-- a step at which a run may go on behind others: at their end or later, or at a test
abbrev pub IsBehind : List Step → ℕ → ℕ → Type 0
IsBehind steps end next = IsTrue (nat_le end next || is_test (slice_get steps next))

-- so many steps more may be built, behind which the run goes on there
pub record Ready (word : ℕ) (steps : List Step) (more next : ℕ) : Type 0 where
  pub width : IsWidth word
  pub few : length steps + more ≤ 65536
  pub all : StepsFit word steps
  pub target : IsBehind steps (length steps + more) next

-- so many steps more, and what holds of the list however it grows on
pub record Built (word : ℕ) (old new : List Step) (more : ℕ) (Laid : List Step → Type 0) : Type 0 where
  pub grown : length new ≡ length old + more
  pub kept : Extends old new
  pub all : StepsFit word new
  pub laid : (last : List Step) → Extends new last → Laid last
