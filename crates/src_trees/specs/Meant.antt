-- When jobs do to the store that the memory holds what the statements of a program do. When a job
-- does to the store what a statement says, by a value that fits a word, in all cells that hold the
-- variables and in which the statement is defined; when the jobs of a program do so, each at its
-- number; and which changes of jobs keep that.
use Rattle.std.specs.Prelude.{ℕ, ◌+◌, ◌^◌, ◌<◌, ◌≡◌, true, List, slice_get, Some}
use Rattle.rec_bits.specs.Operators.{bit_of}
use Rattle.src_model.specs.declared.program.Cmp.TheVariants.{Ne}
use Rattle.src_model.specs.declared.program.Var.{Var as Declared}
use Rattle.src_model.specs.Written.{SrcExprModel, SpotModel, SrcTestModel, num, plain, StmtModel, assign, choice, while, count, StmtsModel, no_acts, act, ElseModel, without, otherwise, ProgramModel, stmts_of}
use Rattle.src_model.specs.Names.{declared, is_plain}
use Rattle.src_model.specs.Sizes.{statements, statements_in}
use Rattle.src_model.specs.Meaning.{assigned, holds, shape_width}
use Rattle.src_model.specs.Trace.{started, stepped}
use Rattle.src_trees.specs.Lowered.{MemoryMap, JobModel, answer, job_of_assign, job_of_test, job_of_start, job_of_step}
use Rattle.src_trees.specs.Seen.{seen_store, CanAssign, CanTest}
use Rattle.src_trees.specs.Held.{HoldsCells}
use Rattle.src_trees.specs.Doing.{done, job_value, Lies, AllAre}

-- in cells whose store is of this kind, the job changes the store so by a value that fits a word,
-- and reads and writes no cell below the variables'
pub record Does (m : MemoryMap) (temps : ℕ) (Can : List ℕ → Type 0) (change : List ℕ → List ℕ)
    (job : JobModel) : Type 0 where
  pub lies : (cells : List ℕ) → HoldsCells temps m cells → Can (seen_store m cells) → Lies temps cells job
  pub store : (cells : List ℕ) → HoldsCells temps m cells → Can (seen_store m cells) →
      seen_store m (done job cells) ≡ change (seen_store m cells)
  pub fits : (cells : List ℕ) → HoldsCells temps m cells → Can (seen_store m cells) →
      job_value cells job.trees < 2 ^ m.word

-- and in such cells each of its trees tells the test, and reads no cell below the variables'
pub record Tells (m : MemoryMap) (temps : ℕ) (vars : List Declared) (test : SrcTestModel) (job : JobModel) : Type 0 where
  pub lies : (cells : List ℕ) → HoldsCells temps m cells →
      CanTest m.word vars (seen_store m cells) test → Lies temps cells job
  pub value : (cells : List ℕ) → HoldsCells temps m cells →
      CanTest m.word vars (seen_store m cells) test →
      AllAre (bit_of (answer test.cmp (holds m.word vars test (seen_store m cells)))) cells job.trees

-- the job of an assignment, of an expression of a word's width
abbrev pub IsAssigned : ℕ → List Declared → SpotModel → SrcExprModel → List ℕ → Type 0
IsAssigned bits vars place e store = CanAssign bits vars store place e × (shape_width bits bits e.shape ≡ bits)

abbrev pub DoesAssign : MemoryMap → ℕ → List Declared → SpotModel → SrcExprModel → JobModel → Type 0
DoesAssign m temps vars place e =
    Does m temps (IsAssigned m.word vars place e) (assigned m.word vars place e)

-- the jobs of a `for`: the counter is set, compared with the number past the last one, and stepped
abbrev pub IsCounter : List Declared → List ℕ → List ℕ → Type 0
IsCounter vars counter store = is_plain (declared vars counter) ≡ true

abbrev pub IsStarted : ℕ → List Declared → List ℕ → ℕ → List ℕ → Type 0
IsStarted bits vars counter from store = IsCounter vars counter store × (from < 2 ^ bits)

abbrev pub DoesStart : MemoryMap → ℕ → List Declared → List ℕ → ℕ → JobModel → Type 0
DoesStart m temps vars counter from =
    Does m temps (IsStarted m.word vars counter from) (started vars counter from)

abbrev pub DoesStep : MemoryMap → ℕ → List Declared → List ℕ → JobModel → Type 0
DoesStep m temps vars counter = Does m temps (IsCounter vars counter) (stepped m.word vars counter)

abbrev pub count_test : List ℕ → ℕ → ℕ → SrcTestModel
count_test counter at to = record {
  cmp = Ne;
  left = record { at = at; shape = plain counter at };
  right = record { at = at; shape = num (to + 1) };
}

-- ---- the jobs of a program

-- the job of a number is of a kind
pub record HasJob (jobs : List JobModel) (number : ℕ) (Is : JobModel → Type 0) : Type 0 where
  pub job : JobModel
  pub at : slice_get jobs number ≡ Some job
  pub is : Is job

module _ (m : MemoryMap) (temps : ℕ) (vars : List Declared) (jobs : List JobModel) where
  abbrev mutual
    -- those from a number on do what a statement says
    pub DoStmt : ℕ → StmtModel → Type 0
    DoStmt tree (assign place e) = HasJob jobs tree (DoesAssign m temps vars place e)
    DoStmt tree (choice test taken other) =
        HasJob jobs tree (Tells m temps vars test) × DoStmts (tree + 1) taken
        × DoElse (tree + 1 + statements_in taken) other
    DoStmt tree (while test body) = HasJob jobs tree (Tells m temps vars test) × DoStmts (tree + 1) body
    DoStmt tree (count counter at from to body) =
        HasJob jobs tree (DoesStart m temps vars counter from)
        × HasJob jobs (tree + 1) (Tells m temps vars (count_test counter at to))
        × DoStmts (tree + 2) body
        × HasJob jobs (tree + 2 + statements_in body) (DoesStep m temps vars counter)

    pub DoStmts : ℕ → StmtsModel → Type 0
    DoStmts tree no_acts = Unit {0}
    DoStmts tree (act a rest) = DoStmt tree a × DoStmts (tree + statements a) rest

    pub DoElse : ℕ → ElseModel → Type 0
    DoElse tree without = Unit {0}
    DoElse tree (otherwise body) = DoStmts tree body

-- the jobs of a program whose variables stand behind so many temporary cells
abbrev pub DoProgram : MemoryMap → ℕ → ProgramModel → List JobModel → Type 0
DoProgram m temps l jobs = DoStmts m temps l.vars jobs 0 (stmts_of l.body)

-- ---- jobs that are made from others

-- a change of jobs under which those of a program's statements still do what these say
pub record KeepsMeaning (m : MemoryMap) (temps : ℕ) (vars : List Declared) (change : JobModel → JobModel) : Type 0 where
  pub assigns : (place : SpotModel) (e : SrcExprModel) → DoesAssign m temps vars place e (change (job_of_assign m place e))
  pub tests : (test : SrcTestModel) → Tells m temps vars test (change (job_of_test m test))
  pub starts : (counter : List ℕ) (from : ℕ) → DoesStart m temps vars counter from (change (job_of_start m counter from))
  pub steps : (counter : List ℕ) → DoesStep m temps vars counter (change (job_of_step m counter))
