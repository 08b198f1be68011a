-- Runs that use indexes, at worked programs: one that stays within its array, and one that doesn't.
use Rattle.std.specs.Prelude.{◌≡◌, refl, ℕ, List, [], ◌∷◌, length, Some, None}
use Rattle.rec_bits.specs.declared.operator.Op2.TheVariants.{Add}
use Rattle.src_model.specs.declared.program.Cmp.TheVariants.{Ne}
use Rattle.src_model.specs.Written.{SrcNodeModel, num, plain, element, bin, SrcExprModel, assign, while, count, stmts_of, ProgramModel}
use Rattle.src_model.specs.Trace.{strace, run_stmt, run_in, run_else}
use Rattle.src_model.specs.Inside.{strace_inside, run_inside, all_inside, else_inside}

abbrev phrase : SrcNodeModel → SrcExprModel
phrase shape = record { at = 0; shape = shape }

abbrev i : List ℕ
i = 105 ∷ []

abbrev s : List ℕ
s = 115 ∷ []

abbrev x : List ℕ
x = 120 ∷ []

-- var s, i, x[2]; for i = 0 to .. { s = s + x[i]; }
abbrev summed : ℕ → ProgramModel
summed to = record {
  vars =
      record { name = s; at = 4; len = None } ∷ record { name = i; at = 7; len = None }
      ∷ record { name = x; at = 10; len = Some 2 } ∷ [];
  body =
      count i 0 0 to (stmts_of (assign (record { name = s; at = 0; index = None })
      (phrase (bin Add 0 (plain s 0) 0 (element x 0 0 (plain i 0)))) ∷ [])) ∷ [];
}

-- four checkpoints: the test three times, and the end
within_the_array : strace_inside 8 (summed 1) (0 ∷ 0 ∷ 5 ∷ 6 ∷ []) 9 ≡ strace 8 (summed 1) (0 ∷ 0 ∷ 5 ∷ 6 ∷ []) 9
unfolding run_stmt run_in run_else run_inside all_inside else_inside
within_the_array = refl

-- of a program that breaks the rule the run stops at x[2], behind the third of five checkpoints
past_the_array : length (strace_inside 8 (summed 2) (0 ∷ 0 ∷ 5 ∷ 6 ∷ []) 9) ≡ 3
unfolding run_inside all_inside else_inside
past_the_array = refl

whole_run : length (strace 8 (summed 2) (0 ∷ 0 ∷ 5 ∷ 6 ∷ []) 9) ≡ 5
unfolding run_stmt run_in run_else
whole_run = refl

-- var x[2], i; while x[i] != 0 { i = 7; }
abbrev asking : ProgramModel
asking = record {
  vars = record { name = x; at = 4; len = Some 2 } ∷ record { name = i; at = 10; len = None } ∷ [];
  body = while (record { cmp = Ne; left = phrase (element x 0 0 (plain i 0)); right = phrase (num 0) })
      (stmts_of (assign (record { name = i; at = 0; index = None }) (phrase (num 7)) ∷ [])) ∷ [];
}

-- the checkpoint is before the test, which uses the index
stopped_at_the_test : length (strace_inside 8 asking (1 ∷ 1 ∷ 0 ∷ []) 9) ≡ 2
unfolding run_inside all_inside else_inside
stopped_at_the_test = refl
