-- How long a line is at most.
use Rattle.std.proofs.Common.{◌≡◌, ℕ, zero, suc, ◌+◌, ◌*◌, ◌^◌, ◌<◌, ◌≤◌, ◌==◌, Bool, true, false, cond, Option, Some, None, List, [], ◌∷◌, ◌++◌, length, take, drop, get_or, length-append, arith}
use Rattle.std.proofs.lemmas.Fmt.{length-decimal-le}
use Rattle.std.specs.Fmt.{decimal}
use Rattle.src_model.specs.declared.checkpoint.Checkpoint.{Checkpoint}
use Rattle.src_model.specs.declared.checkpoint.Checkpoint.TheVariants.{At, End}
use Rattle.src_model.specs.declared.program.Var.{Var as Declared}
use Rattle.src_model.specs.Meaning.{cells_in}
use Rattle.code_model.specs.Machine.{TraceEntry}
use Rattle.checkpoint_watch.specs.Texts.{cell_name, change, changes_from, changes, checkpoint_label, checkpoint_line}
use Rattle.checkpoint_watch.specs.Rooms.{CheckpointFits, EntryFits, changes_room, line_room}

digits_32 : (n : ℕ) → n < 2 ^ 32 → length (decimal n) ≤ 10
digits_32 n h = length-decimal-le 10 n (omega arith) (omega (arith, h)) (omega (arith, h))

digits_64 : (n : ℕ) → n < 2 ^ 64 → length (decimal n) ≤ 20
digits_64 n h = length-decimal-le 20 n (omega arith) (omega (arith, h)) h

name_short : (name : List ℕ) (len : Option ℕ) (index : ℕ) → index < 2 ^ 32 → length (cell_name name len index) ≤ length name + 12
name_short name None index h = omega arith
name_short name (Some len) index h =
    omega (arith, length-append name (91 ∷ (decimal index ++ (93 ∷ []))), length-append (decimal index) (93 ∷ []), digits_32 index h)

change_short : (var : Declared) (index old new : ℕ) → index < 2 ^ 32 → new < 2 ^ 64 → length (change var index old new) ≤ length var.name + 34
change_short var index old new a h = step (old == new)
  where
    step : (t : Bool) → length (cond t [] (32 ∷ (cell_name var.name var.len index ++ (61 ∷ (decimal new ++ []))))) ≤ length var.name + 34
    step true = omega arith
    step false =
        omega (arith, length-append (cell_name var.name var.len index) (61 ∷ (decimal new ++ [])), length-append (decimal new) [], name_short var.name var.len index a, digits_64 new h)

from_short : (var : Declared) (index : ℕ) (olds news : List ℕ) → index + length news ≤ 2 ^ 32 → ((cell : ℕ) → get_or news cell 0 < 2 ^ 64) → length (changes_from var index olds news) ≤ length news * (length var.name + 34)
from_short var index [] news few h = omega arith
from_short var index (old ∷ olds) [] few h = omega arith
from_short var index (old ∷ olds) (new ∷ news) few h =
    let rest = from_short var (index + 1) olds news (omega (arith, few)) (λ cell. h (suc cell)) in
    let more : length (new ∷ news) * (length var.name + 34) ≡ (length var.name + 34) + length news * (length var.name + 34) = grind arith in
    omega (arith, length-append (change var index old new) (changes_from var (index + 1) olds news), change_short var index old new (omega (arith, few)) (h 0), rest, more)

pub taken_fits : (n cell : ℕ) (xs : List ℕ) → ((k : ℕ) → get_or xs k 0 < 2 ^ 64) → get_or (take n xs) cell 0 < 2 ^ 64
taken_fits zero cell xs h = omega arith
taken_fits (suc n) cell [] h = omega arith
taken_fits (suc n) zero (x ∷ xs) h = h 0
taken_fits (suc n) (suc cell) (x ∷ xs) h = taken_fits n cell xs (λ k. h (suc k))

pub left_fits : (n cell : ℕ) (xs : List ℕ) → ((k : ℕ) → get_or xs k 0 < 2 ^ 64) → get_or (drop n xs) cell 0 < 2 ^ 64
left_fits zero cell xs h = h cell
left_fits (suc n) cell [] h = omega arith
left_fits (suc n) cell (x ∷ xs) h = left_fits n cell xs (λ k. h (suc k))

length_taken : (n : ℕ) (xs : List ℕ) → length (take n xs) ≤ n
length_taken zero xs = omega arith
length_taken (suc n) [] = omega arith
length_taken (suc n) (x ∷ xs) = omega (arith, length_taken n xs)

length_front : (n : ℕ) (xs : List ℕ) → length (take n xs) ≤ length xs
length_front zero xs = omega arith
length_front (suc n) [] = omega arith
length_front (suc n) (x ∷ xs) = omega (arith, length_front n xs)

length_left : (n : ℕ) (xs : List ℕ) → length (drop n xs) ≤ length xs
length_left zero xs = omega arith
length_left (suc n) [] = omega arith
length_left (suc n) (x ∷ xs) = omega (arith, length_left n xs)

times_less : (a b c : ℕ) → a ≤ b → a * c ≤ b * c
times_less a b c h = grind arith

pub changes_short : (vars : List Declared) (olds news : List ℕ) → length news ≤ 2 ^ 32 → ((cell : ℕ) → get_or news cell 0 < 2 ^ 64) → length (changes vars olds news) ≤ changes_room vars
changes_short [] olds news few h = omega arith
changes_short (var ∷ vars) olds news few h =
    let n : ℕ = cells_in var in
    let own = from_short var 0 (take n olds) (take n news) (omega (arith, few, length_front n news)) (λ cell. taken_fits n cell news h) in
    let rest = changes_short vars (drop n olds) (drop n news) (omega (arith, few, length_left n news)) (λ cell. left_fits n cell news h) in
    omega (arith, length-append (changes_from var 0 (take n olds) (take n news)) (changes vars (drop n olds) (drop n news)), own, rest, times_less (length (take n news)) n (length var.name + 34) (length_taken n news))

label_short : (label : Checkpoint) → CheckpointFits label → length (checkpoint_label label) ≤ 10
label_short (At tree) h = digits_32 tree h
label_short End h = omega arith

pub line_short : (vars : List Declared) (before : List ℕ) (entry : TraceEntry) → EntryFits entry → length (checkpoint_line vars before entry) ≤ line_room vars
line_short vars before entry fits =
    let told = changes vars before entry.passed.cells in
    let back = told ++ (10 ∷ []) in
    omega (
      arith,
      length-append (decimal entry.cycle) (32 ∷ (checkpoint_label entry.passed.label ++ back)),
      length-append (checkpoint_label entry.passed.label) back,
      length-append told (10 ∷ []),
      digits_32 entry.cycle fits.cycle,
      label_short entry.passed.label fits.label,
      changes_short vars before entry.passed.cells (omega (arith, fits.few)) fits.values,
    )
