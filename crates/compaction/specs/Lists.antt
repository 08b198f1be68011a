-- What a word lists: the patterns of its steps.
use Rattle.std.specs.Prelude.{ℕ, ◌≢◌, List, map, AllPairs, IsPermutation}
use Rattle.std.specs.List.{AllByRecursion}
use Rattle.code_model.specs.ImageFits.{AscendFrom}
use Rattle.form_model.specs.declared.forms.Step.{Step}

-- the numbers of the patterns of some steps
abbrev pub pattern_numbers : List Step → List ℕ
pattern_numbers steps = map (λ (step : Step). step.pattern) steps

-- no two of the steps have one pattern
abbrev pub HasPatternsOnce : List Step → Type 0
HasPatternsOnce steps = AllPairs (λ a b. a ≢ b) (pattern_numbers steps)

-- so it is in each group
abbrev pub EachHasPatternsOnce : List (List Step) → Type 0
EachHasPatternsOnce groups = AllByRecursion HasPatternsOnce groups

-- the list has these numbers, and ascends
pub record IsPatternList (steps : List Step) (list : List ℕ) : Type 0 where
  pub ascends : AscendFrom 0 list
  pub holds : IsPermutation (pattern_numbers steps) list
