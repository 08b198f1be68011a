-- When the indexes of a program lie in their arrays: in one store, and in a whole run.
use Rattle.std.specs.Prelude.{ℕ, ◌+◌, ◌≡◌, true, Bool, ◌&&◌, nat_lt, if◌then◌else◌, List, []}
use Rattle.src_model.specs.declared.checkpoint.Checkpoint.TheVariants.{At}
use Rattle.src_model.specs.declared.program.Var.{Var as Declared}
use Rattle.src_model.specs.Written.{SrcNodeModel, num, plain, element, un, bin, zext, sext, low, SrcExprModel, SpotModel, SrcTestModel, StmtModel, assign, choice, while, count, StmtsModel, no_acts, act, ElseModel, without, otherwise, ProgramModel, stmts_of}
use Rattle.src_model.specs.Names.{declared, is_plain, is_array}
use Rattle.src_model.specs.Loops.{place_shape}
use Rattle.src_model.specs.Indexes.{length_of}
use Rattle.src_model.specs.Sizes.{statements, statements_in}
use Rattle.src_model.specs.Ways.{Passed, Onward, pass, choose, loop, finish}
use Rattle.src_model.specs.Meaning.{shape_value, assigned, holds}
use Rattle.src_model.specs.Trace.{started, stepped, counting, after_change}

-- ---- expressions

-- the names in an expression are declared for what they stand for
abbrev pub Known : List Declared → SrcNodeModel → Type 0
Known vars (num n) = Unit {0}
Known vars (plain name at) = is_plain (declared vars name) ≡ true
Known vars (element name at to x) = (is_array (declared vars name) ≡ true) × Known vars x
Known vars (un op at x) = Known vars x
Known vars (bin op at x to y) = Known vars x × Known vars y
Known vars (zext at x width) = Known vars x
Known vars (sext at x width) = Known vars x
Known vars (low at x width) = Known vars x

-- whether each index in an expression lies in its array, in this store
abbrev pub is_inside : ℕ → List Declared → List ℕ → SrcNodeModel → Bool
is_inside word vars cells (num n) = true
is_inside word vars cells (plain name at) = true
is_inside word vars cells (element name at to x) =
    is_inside word vars cells x
    && nat_lt (shape_value word vars cells word x) (length_of (declared vars name))
is_inside word vars cells (un op at x) = is_inside word vars cells x
is_inside word vars cells (bin op at x to y) = is_inside word vars cells x && is_inside word vars cells y
is_inside word vars cells (zext at x width) = is_inside word vars cells x
is_inside word vars cells (sext at x width) = is_inside word vars cells x
is_inside word vars cells (low at x width) = is_inside word vars cells x

-- the same of an assignment and of a test
abbrev pub assign_inside : ℕ → List Declared → SpotModel → SrcExprModel → List ℕ → Bool
assign_inside word vars place e cells =
    is_inside word vars cells (place_shape place) && is_inside word vars cells e.shape

abbrev pub test_inside : ℕ → List Declared → SrcTestModel → List ℕ → Bool
test_inside word vars test cells =
    is_inside word vars cells test.left.shape && is_inside word vars cells test.right.shape

-- ---- runs

-- a way on from the stores that pass a test; from any other one nothing is passed
abbrev pub if_holds : (List ℕ → Bool) → Onward → Onward
if_holds test next more cells = if test cells then next more cells else []

-- the way on through a statement that stops where an index is used that doesn't lie in its array
unfoldable mutual
  pub run_inside : ℕ → List Declared → StmtModel → ℕ → Onward → Onward
  run_inside word vars (assign place e) tree next =
      if_holds (assign_inside word vars place e) (after_change (assigned word vars place e) next)
  run_inside word vars (choice test taken other) tree next =
      pass (At tree) (if_holds (test_inside word vars test) (choose (holds word vars test)
      (all_inside word vars taken (tree + 1) next)
      (else_inside word vars other (tree + 1 + statements_in taken) next)))
  run_inside word vars (while test body) tree next = loop (At tree) (holds word vars test)
      (λ again. if_holds (test_inside word vars test) (all_inside word vars body (tree + 1) again))
      (if_holds (test_inside word vars test) next)
  run_inside word vars (count counter at from to body) tree next = after_change (started vars counter from)
      (loop (At (tree + 1)) (counting vars counter to)
      (λ again. all_inside word vars body (tree + 2) (after_change (stepped word vars counter) again)) next)

  pub all_inside : ℕ → List Declared → StmtsModel → ℕ → Onward → Onward
  all_inside word vars no_acts tree next = next
  all_inside word vars (act a rest) tree next =
      run_inside word vars a tree (all_inside word vars rest (tree + statements a) next)

  pub else_inside : ℕ → List Declared → ElseModel → ℕ → Onward → Onward
  else_inside word vars without tree next = next
  else_inside word vars (otherwise body) tree next = all_inside word vars body tree next

-- the first m checkpoints that a program passes from a store before it uses an index that doesn't
-- lie in its array
abbrev pub strace_inside : ℕ → ProgramModel → List ℕ → ℕ → List Passed
strace_inside word program cells m = all_inside word program.vars (stmts_of program.body) 0 finish m cells
