-- Why a program's jobs have no covers, as the code tells it.
use Rattle.mode_set.specs.Costs.{HasNoPlan}
use Rattle.std.specs.Prelude.{ℕ, ◌≡◌, List}
use Rattle.form_model.specs.Covers.{StockModel}
use Rattle.src_trees.specs.Lowered.{JobModel}
use Rattle.right_code.specs.Covered.{IsFirstBare}
use Rattle.code_gen.specs.declared.fault.CodeFault.{CodeFault}
use Rattle.code_gen.specs.declared.fault.CodeFault.TheVariants.{NoCover, Memory}

-- this job has no cover in any mode in which it may run, and its number is told
abbrev pub IsOneBare : (ℕ → StockModel) → (ℕ → Type 0) → JobModel → ℕ → CodeFault → Type 0
IsOneBare stock Usable job number (NoCover told) = (told ≡ number) × HasNoPlan stock Usable job.destination job.trees
IsOneBare stock Usable job number Memory = Unit {0}
IsOneBare stock Usable job number _ = ⊥

-- the first job that has none is told
abbrev pub IsUncovered : (ℕ → StockModel) → (ℕ → Type 0) → List JobModel → CodeFault → Type 0
IsUncovered stock Usable jobs (NoCover number) = IsFirstBare stock Usable jobs number
IsUncovered stock Usable jobs Memory = Unit {0}
IsUncovered stock Usable jobs _ = ⊥
