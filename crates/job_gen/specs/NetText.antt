-- The netlist of a number N: r accumulators A0 to A(r - 1), where r is 1 + N mod 4. Accumulator k
-- is loaded under the operation 8k + 1, added to under 8k + 2, subtracted from under 8k + 3, stored
-- under 8k + 4, and set to a number under 8k + 5.
use Rattle.std.specs.Prelude.{ℕ, ◌+◌, ◌*◌, ◌%◌, List, [], ◌∷◌, codes}
use Rattle.std.specs.Fmt.{decimal}
use Rattle.std.specs.List.{concat}
use Rattle.job_gen.specs.Each.{each}

-- the number of accumulator k's n-th operation
abbrev pub operation : ℕ → ℕ → List ℕ
operation k n = decimal (8 * k + n)

-- the code, its fields and the program counter
abbrev pub net_head : List ℕ
net_head = concat (
    codes "code I : 24 size 4096 at PC;\n"
    ∷ codes "net f : 16 = I[15:0];\n"
    ∷ codes "net op : 8 = I[23:16];\n"
    ∷ codes "register PC : 16 in case op { 6: f; 7: case eq(A0, 0#16) { 1: f; 0: add(PC, 1#16); }; else: add(PC, 1#16); };\n" ∷ [])

-- what accumulator k takes under the first three
unfoldable pub register_rows : ℕ → List ℕ
register_rows k = concat (
    operation k 1 ∷ codes ": read(M, f); "
    ∷ operation k 2 ∷ codes ": add(A" ∷ decimal k ∷ codes ", read(M, f)); "
    ∷ operation k 3 ∷ codes ": sub(A" ∷ decimal k ∷ codes ", read(M, f)); " ∷ [])

-- under which it takes something
unfoldable pub register_numbers : ℕ → List ℕ
register_numbers k =
    concat (operation k 1 ∷ codes ", " ∷ operation k 2 ∷ codes ", " ∷ operation k 3 ∷ codes ", "
    ∷ operation k 5 ∷ [])

-- the line of accumulator k
unfoldable pub register_line : ℕ → List ℕ
register_line k = concat (
    codes "register A" ∷ decimal k ∷ codes " : 16 in case op { " ∷ register_rows k ∷ codes "else: f; } when case op { "
    ∷ register_numbers k ∷ codes ": 1#1; else: 0#1; };\n" ∷ [])

-- what the memory takes under the operation that stores accumulator k
unfoldable pub store_row : ℕ → List ℕ
store_row k = concat (operation k 4 ∷ codes ": A" ∷ decimal k ∷ codes "; " ∷ [])

-- the number of the operation that stores the accumulator behind k
unfoldable pub store_number : ℕ → List ℕ
store_number k = concat (codes ", " ∷ operation (k + 1) 4 ∷ [])

-- the line of the memory, for so many accumulators behind the first
abbrev pub memory_line : ℕ → List ℕ
memory_line more = concat (
    codes "memory M : 16 size 4096 addr 16 write case op { " ∷ each store_row (more + 1)
    ∷ codes "else: A0; } at f when case op { 4" ∷ each store_number more ∷ codes ": 1#1; else: 0#1; };\n" ∷ [])

-- the whole text
unfoldable pub net_text : ℕ → List ℕ
net_text number = concat (net_head ∷ each register_line (number % 4 + 1) ∷ memory_line (number % 4) ∷ [])
