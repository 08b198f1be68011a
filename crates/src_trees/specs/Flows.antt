-- The flow of a program: its statements as a list, with targets as places in it. The flow, a list
-- of assignments, tests with both targets, jumps and the end, whose targets are places in it.
-- `for` is its start, its test, its body, its step and a jump back; an `else` stands behind a jump
-- over it, also where it is empty.
use Rattle.std.specs.Prelude.{ℕ, ◌+◌, if◌then◌else◌, List, [], ◌∷◌, ◌++◌}
use Rattle.src_model.specs.declared.program.Cmp.{Cmp}
use Rattle.src_model.specs.declared.program.Cmp.TheVariants.{Ne}
use Rattle.src_model.specs.Written.{StmtModel, assign, choice, while, count, StmtsModel, no_acts, act, ElseModel, without, otherwise, ProgramModel, stmts_of}
use Rattle.src_model.specs.Sizes.{statements, statements_in}
use Rattle.form_model.specs.declared.flow.Flow.{Flow}
use Rattle.form_model.specs.declared.flow.Flow.TheVariants.{Assign, Test, Jump, End}
use Rattle.src_trees.specs.Lowered.{MemoryMap, JobModel, holds_at_one, jobs_in}

abbrev mutual
  -- the places that a statement has in the flow
  pub places_for : StmtModel → ℕ
  places_for (assign place e) = 1
  places_for (choice test taken other) = 1 + places_in taken + places_else other
  places_for (while test body) = 1 + places_in body + 1
  places_for (count counter at from to body) = 2 + places_in body + 2

  pub places_in : StmtsModel → ℕ
  places_in no_acts = 0
  places_in (act a rest) = places_for a + places_in rest

  -- an else part stands behind a jump over it
  pub places_else : ElseModel → ℕ
  places_else without = 0
  places_else (otherwise body) = 1 + places_in body

-- where the statements begin that are run where an `if`'s test doesn't hold, which stand from a
-- place on
abbrev pub else_entry : ElseModel → ℕ → ℕ
else_entry without at = at
else_entry (otherwise body) at = at + 1

-- a test that goes on at one place where it holds, and at another where it doesn't
abbrev pub asked : Cmp → ℕ → ℕ → ℕ → Flow
asked cmp tree on_true on_false = if holds_at_one cmp then Test tree on_true on_false else Test tree on_false on_true

abbrev mutual
  -- the flow of a statement whose first tree has a number and which stands from a place on
  pub flow_of : StmtModel → ℕ → ℕ → List Flow
  flow_of (assign place e) tree at = Assign tree ∷ []
  flow_of (choice test taken other) tree at =
      asked test.cmp tree (at + 1) (else_entry other (at + 1 + places_in taken))
      ∷ (flow_in taken (tree + 1) (at + 1)
      ++ flow_else other (tree + 1 + statements_in taken) (at + 1 + places_in taken))
  flow_of (while test body) tree at =
      asked test.cmp tree (at + 1) (at + 1 + places_in body + 1) ∷ (flow_in body (tree + 1) (at + 1) ++ Jump at ∷ [])
  flow_of (count counter from_at from to body) tree at =
      Assign tree ∷ (asked Ne (tree + 1) (at + 2) (at + 2 + places_in body + 2)
      ∷ (flow_in body (tree + 2) (at + 2) ++ Assign (tree + 2 + statements_in body) ∷ (Jump (at + 1) ∷ [])))

  pub flow_in : StmtsModel → ℕ → ℕ → List Flow
  flow_in no_acts tree at = []
  flow_in (act a rest) tree at = flow_of a tree at ++ flow_in rest (tree + statements a) (at + places_for a)

  pub flow_else : ElseModel → ℕ → ℕ → List Flow
  flow_else without tree at = []
  flow_else (otherwise body) tree at = Jump (at + 1 + places_in body) ∷ flow_in body tree (at + 1)

-- the flow of a program, and its jobs
abbrev pub program_flow : ProgramModel → List Flow
program_flow l = flow_in (stmts_of l.body) 0 0 ++ End ∷ []

abbrev pub program_jobs : MemoryMap → ProgramModel → List JobModel
program_jobs m l = jobs_in m (stmts_of l.body)
