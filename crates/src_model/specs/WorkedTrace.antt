-- The trace of worked programs.
use Rattle.std.specs.Prelude.{◌≡◌, refl, ℕ, Bool, true, List, [], ◌∷◌, Some, None}
use Rattle.rec_bits.specs.declared.operator.Op2.TheVariants.{Add, Sub, Shr, Sar}
use Rattle.src_model.specs.declared.checkpoint.Checkpoint.{Checkpoint}
use Rattle.src_model.specs.declared.checkpoint.Checkpoint.TheVariants.{At, End}
use Rattle.src_model.specs.declared.program.Cmp.TheVariants.{Gt, Slt}
use Rattle.src_model.specs.declared.program.Cmp.{Cmp}
use Rattle.src_model.specs.declared.program.Var.{Var as Declared}
use Rattle.src_model.specs.Written.{SrcNodeModel, num, plain, element, bin, sext, low, SrcExprModel, StmtModel, assign, count, stmts_of, ProgramModel}
use Rattle.src_model.specs.Ways.{Passed}
use Rattle.src_model.specs.Meaning.{shape_value, holds}
use Rattle.src_model.specs.Trace.{strace, run_stmt, run_in, run_else}

abbrev phrase : SrcNodeModel → SrcExprModel
phrase shape = record { at = 0; shape = shape }

abbrev into : List ℕ → SrcNodeModel → StmtModel
into name e = assign (record { name = name; at = 0; index = None }) (phrase e)

abbrev at_label : Checkpoint → List ℕ → Passed
at_label label cells = record { label = label; cells = cells }

abbrev a : List ℕ
a = 97 ∷ []

abbrev i : List ℕ
i = 105 ∷ []

abbrev s : List ℕ
s = 115 ∷ []

abbrev x : List ℕ
x = 120 ∷ []

abbrev read : List ℕ → SrcNodeModel
read name = plain name 0

-- var s, i, x[4];
abbrev vars : List Declared
vars =
    record { name = s; at = 4; len = None } ∷ record { name = i; at = 7; len = None }
    ∷ record { name = x; at = 10; len = Some 4 } ∷ []

-- for i = 1 to 2 { s = s + x[i]; }
abbrev summed : ProgramModel
summed = record {
  vars = vars;
  body = count i 0 1 2 (stmts_of (into s (bin Add 0 (read s) 0 (element x 0 0 (read i))) ∷ [])) ∷ [];
}

-- the start has tree 0, the test tree 1; the counter stands at 3 at the end
summed_trace : strace 8 summed (9 ∷ 9 ∷ 0 ∷ 100 ∷ 200 ∷ 0 ∷ []) 10 ≡
    at_label (At 1) (9 ∷ 1 ∷ 0 ∷ 100 ∷ 200 ∷ 0 ∷ []) ∷ at_label (At 1) (109 ∷ 2 ∷ 0 ∷ 100 ∷ 200 ∷ 0 ∷ [])
    ∷ at_label (At 1) (53 ∷ 3 ∷ 0 ∷ 100 ∷ 200 ∷ 0 ∷ []) ∷ at_label End (53 ∷ 3 ∷ 0 ∷ 100 ∷ 200 ∷ 0 ∷ []) ∷ []
unfolding run_stmt run_in run_else
summed_trace = refl

-- as many as are asked for
summed_front : strace 8 summed (9 ∷ 9 ∷ 0 ∷ 100 ∷ 200 ∷ 0 ∷ []) 1
    ≡ at_label (At 1) (9 ∷ 1 ∷ 0 ∷ 100 ∷ 200 ∷ 0 ∷ []) ∷ []
unfolding run_stmt run_in run_else
summed_front = refl

abbrev numbers_of : List Passed → List ℕ
numbers_of [] = []
numbers_of (p ∷ rest) = number p.label ∷ numbers_of rest
  where
    number : Checkpoint → ℕ
    number (At tree) = tree
    number End = 99

-- a trace with one turn less is another one
wrong_turns : numbers_of (strace 8 summed (9 ∷ 9 ∷ 0 ∷ 100 ∷ 200 ∷ 0 ∷ []) 10) ≡ 1 ∷ 1 ∷ 99 ∷ [] → ⊥
unfolding run_stmt run_in run_else
wrong_turns e = cc e

-- for i = 3 to 2 { }: no turn, and the counter is set all the same
no_turns : strace 8 (record { vars = vars; body = count i 0 3 2 (stmts_of []) ∷ [] }) (0 ∷ 0 ∷ 0 ∷ 0 ∷ 0 ∷ 0 ∷ []) 10 ≡
    at_label (At 1) (0 ∷ 3 ∷ 0 ∷ 0 ∷ 0 ∷ 0 ∷ []) ∷ at_label End (0 ∷ 3 ∷ 0 ∷ 0 ∷ 0 ∷ 0 ∷ []) ∷ []
unfolding run_stmt run_in run_else
no_turns = refl

-- of -128 and 127: which is less
abbrev ends : Cmp → Bool
ends cmp =
    holds 8 vars (record { cmp = cmp; left = phrase (read s); right = phrase (read i) })
    (128 ∷ 127 ∷ 0 ∷ 0 ∷ 0 ∷ 0 ∷ [])

less_signed : ends Slt ≡ true
less_signed = refl

greater_unsigned : ends Gt ≡ true
greater_unsigned = refl

-- by the width and more
shifted : shape_value 8 vars (128 ∷ 9 ∷ 0 ∷ 0 ∷ 0 ∷ 0 ∷ []) 8 (bin Sar 0 (read s) 0 (read i)) ≡ 255
shifted = refl

shifted_out : shape_value 8 vars (128 ∷ 9 ∷ 0 ∷ 0 ∷ 0 ∷ 0 ∷ []) 8 (bin Shr 0 (read s) 0 (read i)) ≡ 0
shifted_out = refl

-- low(sext(s, 16) - 1, 8): the literal is 16 bits wide
narrowed : shape_value 8 vars (128 ∷ 0 ∷ 0 ∷ 0 ∷ 0 ∷ 0 ∷ []) 8 (low 0 (bin Sub 0 (sext 0 (read s) 16) 0 (num 1)) 8)
    ≡ 127
narrowed = refl
