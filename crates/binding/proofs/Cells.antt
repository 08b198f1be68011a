-- The cells of variables, and their places.
use Rattle.std.proofs.Common.{ℕ, ◌+◌, ◌*◌, ◌≤◌, List, [], ◌∷◌, length, unwrap_or, Option, Some, None, arith}
use Rattle.src_model.specs.declared.program.Var.{Var as Declared}
use Rattle.src_model.specs.Sizes.{longest}
use Rattle.src_model.specs.Meaning.{cells_in, cell_count}
use Rattle.code_model.specs.Places.{places_from, Apart}
use Rattle.code_model.specs.Layout.{variables_of}

pub few : (o : Option ℕ) → unwrap_or o 0 ≤ 65536 → unwrap_or o 1 ≤ 65536
few None h = omega arith
few (Some n) h = h

-- no variable has more cells than the longest array may have
pub count_le : (vars : List Declared) → longest vars ≤ 65536 → cell_count vars ≤ 65536 * length vars
count_le [] h = omega arith
count_le (v ∷ rest) h =
    let first = few v.len (omega arith) in
    let others = count_le rest (omega arith) in
    omega (arith, first, others)

-- places behind each other are apart, and end where the cells do
pub apart : (at end : ℕ) (vars : List Declared) → at + cell_count vars ≤ end → Apart at (places_from at (variables_of vars)) end
apart at end [] h = omega arith
apart at end (v ∷ rest) h = (omega arith, apart (at + cells_in v) end rest (omega arith))
