-- How the code swaps: level by level, where a choice has lost the bits of the operators that are
-- passed.
use Rattle.std.specs.Prelude.{ℕ, zero, suc, ◌+◌, ◌-◌, ◌/◌, ◌==◌, ◌&&◌, if◌then◌else◌, Option, Some, None, List, [], ◌∷◌}
use Rattle.std.specs.Int.{bit_at}
use Rattle.net_model.specs.Exprs.{ExprModel, read, un, bin, slice, cat, zext, sext, select}
use Rattle.operand_swaps.specs.Swaps.{Path, at_level, ordered, swaps_here}

-- 1 for an expression that has an operator at its root that can be swapped
abbrev pub root_swaps : ExprModel → ℕ
root_swaps (bin o a b) = if swaps_here o a b then 1 else 0
root_swaps _ = 0

-- how many there are in an expression
abbrev pub swaps_of : ExprModel → ℕ
swaps_of (read space a w) = swaps_of a
swaps_of (un o a) = swaps_of a
swaps_of (bin o a b) = root_swaps (bin o a b) + (swaps_of a + swaps_of b)
swaps_of (slice a hi lo) = swaps_of a
swaps_of (cat a b) = swaps_of a + swaps_of b
swaps_of (zext a w) = swaps_of a
swaps_of (sext a w) = swaps_of a
swaps_of (select c a b) = swaps_of c + (swaps_of a + swaps_of b)
swaps_of _ = 0

abbrev pub addr_swaps : Option ExprModel → ℕ
addr_swaps None = 0
addr_swaps (Some a) = swaps_of a

-- a choice without the bits of those in a level
abbrev pub left_of : ℕ → ℕ → ExprModel → ℕ
left_of level choice (read space a w) = at_level level choice (left_of (level - 1) choice a)
left_of level choice (un o a) = at_level level choice (left_of (level - 1) choice a)
left_of level choice (bin o a b) =
    at_level level (if swaps_here o a b then choice / 2 else choice) (left_of (level - 1) (left_of (level - 1) choice a) b)
left_of level choice (slice a hi lo) = at_level level choice (left_of (level - 1) choice a)
left_of level choice (cat a b) = at_level level choice (left_of (level - 1) (left_of (level - 1) choice a) b)
left_of level choice (zext a w) = at_level level choice (left_of (level - 1) choice a)
left_of level choice (sext a w) = at_level level choice (left_of (level - 1) choice a)
left_of level choice (select c a b) =
    at_level level choice (left_of (level - 1) (left_of (level - 1) (left_of (level - 1) choice c) a) b)
left_of level choice t = choice

-- an expression with those of a level swapped
abbrev pub swap_level : ℕ → ℕ → ExprModel → ExprModel
swap_level level choice (read space a w) = at_level level (read space a w) (read space (swap_level (level - 1) choice a) w)
swap_level level choice (un o a) = at_level level (un o a) (un o (swap_level (level - 1) choice a))
swap_level level choice (bin o a b) =
    at_level level (ordered (swaps_here o a b && bit_at choice 0 == 1) o a b)
    (bin o (swap_level (level - 1) choice a) (swap_level (level - 1) (left_of (level - 1) choice a) b))
swap_level level choice (slice a hi lo) =
    at_level level (slice a hi lo) (slice (swap_level (level - 1) choice a) hi lo)
swap_level level choice (cat a b) =
    at_level level (cat a b)
    (cat (swap_level (level - 1) choice a) (swap_level (level - 1) (left_of (level - 1) choice a) b))
swap_level level choice (zext a w) = at_level level (zext a w) (zext (swap_level (level - 1) choice a) w)
swap_level level choice (sext a w) = at_level level (sext a w) (sext (swap_level (level - 1) choice a) w)
swap_level level choice (select c a b) =
    at_level level (select c a b)
    (select (swap_level (level - 1) choice c) (swap_level (level - 1) (left_of (level - 1) choice c) a)
    (swap_level (level - 1) (left_of (level - 1) (left_of (level - 1) choice c) a) b))
swap_level level choice t = t

-- those of so many levels from this one on, the deepest first: what is swapped in a level moves those
-- below it
abbrev pub swap_levels : ℕ → ℕ → ℕ → ExprModel → ExprModel
swap_levels zero level choice t = t
swap_levels (suc more) level choice t =
    swap_level level choice (swap_levels more (level + 1) (left_of level choice t) t)

-- a choice without the bits of operators
abbrev pub left_behind : ℕ → List Path → ℕ
left_behind choice [] = choice
left_behind choice (path ∷ paths) = left_behind (choice / 2) paths

-- and without those of so many levels
abbrev pub left_levels : ℕ → ℕ → ℕ → ExprModel → ℕ
left_levels zero level choice t = choice
left_levels (suc more) level choice t = left_levels more (level + 1) (left_of level choice t) t
