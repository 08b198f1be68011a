-- What the rules of widths and counters leave to be known of each expression and statement of a
-- program that keeps them.
use Rattle.std.specs.Prelude.{ℕ, ◌+◌, ◌^◌, ◌≤◌, ◌<◌}
use Rattle.src_model.specs.Written.{StmtModel, assign, choice, while, count, StmtsModel, no_acts, act, ElseModel, without, otherwise}
use Rattle.src_model.specs.Loops.{place_shape}
use Rattle.src_model.specs.Fitting.{Fitting, FitsWord, FitsSides}

-- the numbers of a `for`
pub record FitsCount (word from to : ℕ) : Type 0 where
  pub order : from ≤ to + 1
  pub below : to + 1 < 2 ^ word

abbrev mutual
  pub FitsStmt : ℕ → StmtModel → Type 0
  FitsStmt word (assign place e) = Fitting word word (place_shape place) × FitsWord word e.shape
  FitsStmt word (choice test taken other) =
      FitsSides word test.left.shape test.right.shape × FitsStmts word taken × FitsElse word other
  FitsStmt word (while test body) = FitsSides word test.left.shape test.right.shape × FitsStmts word body
  FitsStmt word (count counter at from to body) = FitsCount word from to × FitsStmts word body

  pub FitsStmts : ℕ → StmtsModel → Type 0
  FitsStmts word no_acts = Unit {0}
  FitsStmts word (act a rest) = FitsStmt word a × FitsStmts word rest

  pub FitsElse : ℕ → ElseModel → Type 0
  FitsElse word without = Unit {0}
  FitsElse word (otherwise body) = FitsStmts word body
