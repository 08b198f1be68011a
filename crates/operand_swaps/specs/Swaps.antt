-- The operators whose operands can change places, their order, and the expressions with some of
-- them swapped. They are listed by their paths, level by level from the root and from left to
-- right in a level, those of an address before those of a value. The form of number n has those of
-- the first eight swapped whose bit is set in n: by one recursion over the expression, which knows
-- the path to where it stands.
use Rattle.std.specs.Prelude.{ℕ, zero, suc, ◌+◌, ◌-◌, ◌/◌, ◌==◌, ◌&&◌, ◌||◌, not, Bool, true, false, if◌then◌else◌, ◌≤◌, max, option_map, Option, Some, None, List, [], ◌∷◌, ◌++◌, map, take, length}
use Rattle.std.specs.Int.{bit_at}
use Rattle.rec_bits.specs.declared.operator.Op2.{Op2}
use Rattle.rec_bits.specs.declared.operator.Op2.TheVariants.{Add, Mul, And, Or, Xor, Eq}
use Rattle.net_model.specs.Exprs.{ExprModel, read, un, bin, slice, cat, zext, sext, select}
use Rattle.form_model.specs.Shapes.{is_plain_sum, sum_of}

-- an operator that has one value in either order of its operands
abbrev pub can_swap : Op2 → Bool
can_swap Add = true
can_swap Mul = true
can_swap And = true
can_swap Or = true
can_swap Xor = true
can_swap Eq = true
can_swap _ = false

-- so it is of these operands; that of a field shape stays as it is
abbrev pub swaps_here : Op2 → ExprModel → ExprModel → Bool
swaps_here o a b = can_swap o && not (is_plain_sum (sum_of o a b))

-- ---- the operators, by levels from the root and from left to right in a level

-- the way from an expression down to one in it: at each step the place of the operand, from 0
abbrev pub Path : Type 0
Path = List ℕ

-- paths from an operand on, as paths from what it is an operand of
abbrev pub under : ℕ → List Path → List Path
under step paths = map (λ path. step ∷ path) paths

-- at the root, or below it
abbrev pub at_level : {A : Type 0} → ℕ → A → A → A
at_level level here below = if level == 0 then here else below

-- the operators that can be swapped in a level of an expression; the root is level 0
abbrev pub level_paths : ℕ → ExprModel → List Path
level_paths level (read space a w) = at_level level [] (under 0 (level_paths (level - 1) a))
level_paths level (un o a) = at_level level [] (under 0 (level_paths (level - 1) a))
level_paths level (bin o a b) =
    at_level level (if swaps_here o a b then [] ∷ [] else [])
    (under 0 (level_paths (level - 1) a) ++ under 1 (level_paths (level - 1) b))
level_paths level (slice a hi lo) = at_level level [] (under 0 (level_paths (level - 1) a))
level_paths level (cat a b) =
    at_level level [] (under 0 (level_paths (level - 1) a) ++ under 1 (level_paths (level - 1) b))
level_paths level (zext a w) = at_level level [] (under 0 (level_paths (level - 1) a))
level_paths level (sext a w) = at_level level [] (under 0 (level_paths (level - 1) a))
level_paths level (select c a b) =
    at_level level [] (under 0 (level_paths (level - 1) c)
    ++ (under 1 (level_paths (level - 1) a) ++ under 2 (level_paths (level - 1) b)))
level_paths level _ = []

-- how many levels an expression has
abbrev pub levels : ExprModel → ℕ
levels (read space a w) = levels a + 1
levels (un o a) = levels a + 1
levels (bin o a b) = max (levels a) (levels b) + 1
levels (slice a hi lo) = levels a + 1
levels (cat a b) = max (levels a) (levels b) + 1
levels (zext a w) = levels a + 1
levels (sext a w) = levels a + 1
levels (select c a b) = max (levels c) (max (levels a) (levels b)) + 1
levels _ = 1

-- those of so many levels, from this one on
abbrev pub paths_from : ℕ → ℕ → ExprModel → List Path
paths_from zero level t = []
paths_from (suc more) level t = level_paths level t ++ paths_from more (level + 1) t

-- all of an expression
abbrev pub operator_paths : ExprModel → List Path
operator_paths t = paths_from (levels t) 0 t

-- ---- swaps

-- an operator with its operands in the other order, or as they are
abbrev pub ordered : Bool → Op2 → ExprModel → ExprModel → ExprModel
ordered swaps o a b = if swaps then bin o b a else bin o a b

-- an expression with the operands changed in their places at each operator that is chosen and can be
-- swapped. Each operator goes by its path in the expression as it was
abbrev pub swap_at : (Path → Bool) → ExprModel → ExprModel
swap_at chosen (read space a w) = read space (swap_at (λ path. chosen (0 ∷ path)) a) w
swap_at chosen (un o a) = un o (swap_at (λ path. chosen (0 ∷ path)) a)
swap_at chosen (bin o a b) =
    ordered (swaps_here o a b && chosen []) o (swap_at (λ path. chosen (0 ∷ path)) a) (swap_at (λ path. chosen (1 ∷ path)) b)
swap_at chosen (slice a hi lo) = slice (swap_at (λ path. chosen (0 ∷ path)) a) hi lo
swap_at chosen (cat a b) = cat (swap_at (λ path. chosen (0 ∷ path)) a) (swap_at (λ path. chosen (1 ∷ path)) b)
swap_at chosen (zext a w) = zext (swap_at (λ path. chosen (0 ∷ path)) a) w
swap_at chosen (sext a w) = sext (swap_at (λ path. chosen (0 ∷ path)) a) w
swap_at chosen (select c a b) =
    select (swap_at (λ path. chosen (0 ∷ path)) c) (swap_at (λ path. chosen (1 ∷ path)) a)
    (swap_at (λ path. chosen (2 ∷ path)) b)
swap_at chosen t = t

abbrev pub same_path : Path → Path → Bool
same_path [] [] = true
same_path (m ∷ p) (n ∷ q) = m == n && same_path p q
same_path _ _ = false

-- whether a path stands in a list at a place whose bit is set in the choice
abbrev pub picks : ℕ → List Path → Path → Bool
picks choice [] path = false
picks choice (first ∷ rest) path = (same_path first path && bit_at choice 0 == 1) || picks (choice / 2) rest path

-- ---- an address and a value together

pub record SidesModel : Type 0 where
  pub addr : Option ExprModel
  pub value : ExprModel

-- neither has more than so many levels
abbrev pub IsAddrWithin : ℕ → Option ExprModel → Type 0
IsAddrWithin most None = Unit {0}
IsAddrWithin most (Some a) = levels a ≤ most

pub record SidesWithin (most : ℕ) (sides : SidesModel) : Type 0 where
  pub addr : IsAddrWithin most sides.addr
  pub value : levels sides.value ≤ most

abbrev pub addr_paths : Option ExprModel → List Path
addr_paths None = []
addr_paths (Some a) = operator_paths a

-- the operators that are swapped, by their numbers 0 to 7: those of the address before those of the
-- value. The first step of a path is 0 to the address and 1 to the value
abbrev pub swap_paths : SidesModel → List Path
swap_paths sides = take 8 (under 0 (addr_paths sides.addr) ++ under 1 (operator_paths sides.value))

abbrev pub swap_count : SidesModel → ℕ
swap_count sides = length (swap_paths sides)

-- the form of this number: the operators are swapped whose bit is set in it
abbrev pub swapped : ℕ → SidesModel → SidesModel
swapped choice sides = record {
  addr = option_map (swap_at (λ path. picks choice (swap_paths sides) (0 ∷ path))) sides.addr;
  value = swap_at (λ path. picks choice (swap_paths sides) (1 ∷ path)) sides.value;
}
