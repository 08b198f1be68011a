-- How many words a program has at most, its *bound*: the costs of its trees, three words for each
-- test, one for each jump back of a loop and for each `else`, and the end; the same of a flow.
use Rattle.std.specs.Prelude.{ℕ, ◌+◌, List, [], ◌∷◌}
use Rattle.src_model.specs.Written.{StmtModel, assign, choice, while, count, StmtsModel, no_acts, act, ElseModel, without, otherwise, ProgramModel, stmts_of}
use Rattle.form_model.specs.declared.flow.Flow.{Flow}
use Rattle.form_model.specs.declared.flow.Flow.TheVariants.{Assign, Test, Jump, End}

abbrev pub sum_of : List ℕ → ℕ
sum_of [] = 0
sum_of (n ∷ rest) = n + sum_of rest

-- the words beside those of the blocks, at most: three for each test, and one for each jump and for
-- the end
abbrev pub control_words : List Flow → ℕ
control_words [] = 0
control_words (Assign tree ∷ rest) = control_words rest
control_words (Test tree when_one when_zero ∷ rest) = 3 + control_words rest
control_words (Jump to ∷ rest) = 1 + control_words rest
control_words (End ∷ rest) = 1 + control_words rest

-- the bound of the words of a flow, from the costs of its trees
abbrev pub bound_of : List Flow → List ℕ → ℕ
bound_of flow costs = sum_of costs + control_words flow

-- ---- the same of a program as it is written

-- three words for each test, one for the jump back of each loop, and one for each `if` with an else
-- part

abbrev mutual
  pub control_of : StmtModel → ℕ
  control_of (assign place e) = 0
  control_of (choice test taken other) = 3 + control_in taken + control_else other
  control_of (while test body) = 3 + control_in body + 1
  control_of (count counter at from to body) = 3 + control_in body + 1

  pub control_in : StmtsModel → ℕ
  control_in no_acts = 0
  control_in (act a rest) = control_of a + control_in rest

  pub control_else : ElseModel → ℕ
  control_else without = 0
  control_else (otherwise body) = 1 + control_in body

-- the bound of a program's words: the costs of all its trees, those words, and the end
abbrev pub program_bound : ProgramModel → List ℕ → ℕ
program_bound l costs = sum_of costs + control_in (stmts_of l.body) + 1
