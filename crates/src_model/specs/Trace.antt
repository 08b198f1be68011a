-- The checkpoints that a program passes when it runs. The trees of its assignments and tests are
-- numbered from 0 in the order of the text, with three for a `for`: its start, its test, those of
-- its body, and its step.
use Rattle.std.specs.Prelude.{ℕ, ◌+◌, Bool, not, ◌==◌, List, slice_index, slice_set}
use Rattle.rec_bits.specs.Operators.{apply2_of}
use Rattle.rec_bits.specs.declared.operator.Op2.TheVariants.{Add}
use Rattle.src_model.specs.declared.checkpoint.Checkpoint.TheVariants.{At}
use Rattle.src_model.specs.declared.program.Var.{Var as Declared}
use Rattle.src_model.specs.Written.{StmtModel, assign, choice, while, count, StmtsModel, no_acts, act, ElseModel, without, otherwise, ProgramModel, stmts_of}
use Rattle.src_model.specs.Sizes.{statements, statements_in}
use Rattle.src_model.specs.Ways.{Passed, Onward, pass, choose, loop, finish}
use Rattle.src_model.specs.Meaning.{first_cell, assigned, holds}

-- ---- the counter of a `for`

abbrev pub counter_value : List Declared → List ℕ → List ℕ → ℕ
counter_value vars counter cells = slice_index cells (first_cell vars counter)

-- the counter is set to a number
abbrev pub started : List Declared → List ℕ → ℕ → List ℕ → List ℕ
started vars counter from cells = slice_set cells (first_cell vars counter) from

-- 1 is added to the counter
abbrev pub stepped : ℕ → List Declared → List ℕ → List ℕ → List ℕ
stepped word vars counter cells =
    slice_set cells (first_cell vars counter) (apply2_of Add word (counter_value vars counter cells) 1)

-- the test: the counter isn't one past the last number
abbrev pub counting : List Declared → List ℕ → ℕ → List ℕ → Bool
counting vars counter to cells = not (counter_value vars counter cells == to + 1)

-- a way on from a changed store
abbrev pub after_change : (List ℕ → List ℕ) → Onward → Onward
after_change change next more cells = next more (change cells)

-- ---- statements

-- the way on through a statement, whose first tree has this number, and then a way on from its end
unfoldable mutual
  pub run_stmt : ℕ → List Declared → StmtModel → ℕ → Onward → Onward
  run_stmt word vars (assign place e) tree next = after_change (assigned word vars place e) next
  run_stmt word vars (choice test taken other) tree next = pass (At tree) (choose (holds word vars test)
      (run_in word vars taken (tree + 1) next) (run_else word vars other (tree + 1 + statements_in taken) next))
  run_stmt word vars (while test body) tree next =
      loop (At tree) (holds word vars test) (run_in word vars body (tree + 1)) next
  run_stmt word vars (count counter at from to body) tree next = after_change (started vars counter from)
      (loop (At (tree + 1)) (counting vars counter to)
      (λ again. run_in word vars body (tree + 2) (after_change (stepped word vars counter) again)) next)

  pub run_in : ℕ → List Declared → StmtsModel → ℕ → Onward → Onward
  run_in word vars no_acts tree next = next
  run_in word vars (act a rest) tree next = run_stmt word vars a tree (run_in word vars rest (tree + statements a) next)

  pub run_else : ℕ → List Declared → ElseModel → ℕ → Onward → Onward
  run_else word vars without tree next = next
  run_else word vars (otherwise body) tree next = run_in word vars body tree next

-- the first m checkpoints that a program passes from a store, or all of them where there are fewer
abbrev pub strace : ℕ → ProgramModel → List ℕ → ℕ → List Passed
strace word program cells m = run_in word program.vars (stmts_of program.body) 0 finish m cells
