-- The program of a number N: nine variables, and a loop of ten turns round N statements. Statement
-- j, from 1 on, is read off the number x(j), where x(0) is N and x(j) is (25173 x(j - 1) + 13849)
-- mod 65536.
use Rattle.std.specs.Prelude.{ℕ, zero, suc, ◌+◌, ◌*◌, ◌/◌, ◌%◌, ◌==◌, if◌then◌else◌, List, [], ◌∷◌, codes}
use Rattle.std.specs.Fmt.{decimal}
use Rattle.std.specs.List.{concat}
use Rattle.job_gen.specs.Each.{each}

-- x(j)
abbrev pub drawn : ℕ → ℕ → ℕ
drawn number zero = number
drawn number (suc j) = (25173 * drawn number j + 13849) % 65536

-- vD = vA + vB, or vA - vB where x / 8192 is odd
abbrev pub sign : ℕ → List ℕ
sign x = if x / 8192 % 2 == 1 then codes "-" else codes "+"

unfoldable pub statement_line : ℕ → List ℕ
statement_line x = concat (
    codes "v" ∷ decimal (x / 16 % 8) ∷ codes " = v" ∷ decimal (x / 128 % 8) ∷ codes " " ∷ sign x
    ∷ codes " v" ∷ decimal (x / 1024 % 8) ∷ codes ";\n" ∷ [])

-- the statements 1 to n
abbrev pub statements : ℕ → ℕ → List ℕ
statements number n = each (λ j. statement_line (drawn number (j + 1))) n

-- the whole text
unfoldable pub src_text : ℕ → List ℕ
src_text number = concat (
    codes "var v0, v1, v2, v3, v4, v5, v6, v7, i;\n"
    ∷ codes "v0 = 1;\nv1 = 2;\nv2 = 3;\nv3 = 4;\nv4 = 5;\nv5 = 6;\nv6 = 7;\nv7 = 8;\n"
    ∷ codes "for i = 0 to 9 {\n" ∷ statements number number ∷ codes "}\n" ∷ [])
