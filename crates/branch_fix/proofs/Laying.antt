-- The parts that a flow is laid out in: they fit it, also when branches are widened, and their
-- words are at most the bound.
use Rattle.std.proofs.Common.{ℕ, zero, suc, ◌≡◌, ◌≤◌, ◌+◌, Bool, true, false, if◌then◌else◌, List, [], ◌∷◌, ◌++◌, length, refl, sym, ◌∙◌, ap, subst, arith, slice_get, slice_index, drop, append_assoc, add-one, Option, Some}
use Rattle.form_model.specs.declared.flow.Flow.{Flow}
use Rattle.form_model.specs.declared.flow.Flow.TheVariants.{Assign, Test as Tested, Jump as Jumped, End as Ended}
use Rattle.form_model.specs.Forms.{FormModel}
use Rattle.src_trees.specs.Blocks.{continues}
use Rattle.branch_fix.specs.declared.outline.Branch.{Branch}
use Rattle.branch_fix.specs.declared.part.BranchedTest.{BranchedTest}
use Rattle.branch_fix.specs.declared.part.LayoutPart.{LayoutPart}
use Rattle.branch_fix.specs.declared.part.LayoutPart.TheVariants.{Block, Inner, Test, Jump, End}
use Rattle.branch_fix.specs.Parts.{form_at_one, branch_or_zero, fork_to, fork_of, place_blocks, place_tests, blocks_before, tests_before, part_for, place_part, parts_from, parts_of, branch_words, room, starts, address, FitsPart, PartsFit, total}
use Rattle.branch_fix.specs.Rounds.{widened, widened_part, widened_from, round, rounds, IsFixpoint}
use Rattle.branch_fix.specs.Bounds.{control_words, sum_of}

-- ---- the parts fit the flow

fork_fits : (forms : List FormModel) (flow : List Flow) (tree block words : ℕ) (branch : Branch) (at one none : ℕ)
    → FitsPart forms flow at (Tested tree one none) (fork_of forms tree block words branch at one none)
fork_fits forms flow tree block words branch at one none = by (form_at_one (slice_get forms branch.form)) refl
  where
    by : (w : Bool) → form_at_one (slice_get forms branch.form) ≡ w
        → FitsPart forms flow at (Tested tree one none) (if w then fork_to tree block words branch.form branch.setting at one none else fork_to tree block words branch.form branch.setting at none one)
    by true e = (refl, refl, sym (ap (λ b. if b then one else none) e), sym (ap (λ b. if b then none else one) e))
    by false e = (refl, refl, sym (ap (λ b. if b then one else none) e), sym (ap (λ b. if b then none else one) e))

part_fits : (forms : List FormModel) (flow : List Flow) (sizes : List ℕ) (forks : List Branch) (f : Flow) (at block test : ℕ)
    → FitsPart forms flow at f (part_for forms flow sizes forks f at block test)
part_fits forms flow sizes forks (Assign tree) at block test = by (continues flow at) refl
  where
    by : (c : Bool) → continues flow at ≡ c → FitsPart forms flow at (Assign tree) (if c then Inner else Block block (slice_index sizes block))
    by true e = e
    by false e = e
part_fits forms flow sizes forks (Tested tree one none) at block test = fork_fits forms flow tree block (slice_index sizes block) (branch_or_zero (slice_get forks test)) at one none
part_fits forms flow sizes forks (Jumped to) at block test = refl
part_fits forms flow sizes forks Ended at block test = tt

pub parts_fit : (forms : List FormModel) (flow : List Flow) (sizes : List ℕ) (forks : List Branch) (rest : List Flow) (at : ℕ)
    → PartsFit forms flow at rest (parts_from forms flow sizes forks rest at)
parts_fit forms flow sizes forks [] at = tt
parts_fit forms flow sizes forks (f ∷ rest) at =
    (part_fits forms flow sizes forks f at (blocks_before flow at) (tests_before flow at), parts_fit forms flow sizes forks rest (at + 1))

widened_fit : (forms : List FormModel) (flow : List Flow) (addresses : List ℕ) (at : ℕ) (rest : List Flow) (parts : List LayoutPart) (a : ℕ)
    → PartsFit forms flow at rest parts → PartsFit forms flow at rest (widened_from forms addresses a parts)
widened_fit forms flow addresses at [] [] a h = tt
widened_fit forms flow addresses at [] (p ∷ parts) a h = absurd h
widened_fit forms flow addresses at (f ∷ rest) [] a h = absurd h
widened_fit forms flow addresses at (f ∷ rest) (p ∷ parts) a h = (by f p h.0, widened_fit forms flow addresses (at + 1) rest parts (a + room p) h.1)
  where
    forked : (f : Flow) (k : BranchedTest) → FitsPart forms flow at f (Test k) → FitsPart forms flow at f (Test (widened forms addresses a k))
    forked (Assign tree) k g = absurd g
    forked (Tested tree one none) k g = g
    forked (Jumped to) k g = absurd g
    forked Ended k g = absurd g

    by : (f : Flow) (p : LayoutPart) → FitsPart forms flow at f p → FitsPart forms flow at f (widened_part forms addresses a p)
    by f (Block block words) g = g
    by f Inner g = g
    by f (Test k) g = forked f k g
    by f (Jump to) g = g
    by f End g = g

pub rounds_fit : (forms : List FormModel) (flow : List Flow) (n : ℕ) (parts : List LayoutPart) → PartsFit forms flow 0 flow parts
    → PartsFit forms flow 0 flow (rounds forms n parts)
rounds_fit forms flow zero parts h = h
rounds_fit forms flow (suc n) parts h = rounds_fit forms flow n (round forms parts) (widened_fit forms flow (starts parts) 0 flow parts 0 h)

-- the parts that rounds settle on fit the flow
pub settled_fit : (forms : List FormModel) (flow : List Flow) (sizes : List ℕ) (forks : List Branch) (parts : List LayoutPart)
    → IsFixpoint forms (parts_of forms flow sizes forks) parts → PartsFit forms flow 0 flow parts
settled_fit forms flow sizes forks parts s = subst (PartsFit forms flow 0 flow) (sym s.made) (rounds_fit forms flow s.count (parts_of forms flow sizes forks) (parts_fit forms flow sizes forks flow 0))

-- ---- how many words there are

pub address_total : (parts : List LayoutPart) (N : ℕ) → N ≡ length parts → address parts N ≡ total parts
address_total [] N e = refl
address_total (p ∷ parts) zero e = absurd (omega arith)
address_total (p ∷ parts) (suc N) e = let h = address_total parts N (omega arith) in omega (arith, h)

-- the words of blocks alone
abbrev pub block_words : List LayoutPart → ℕ
block_words [] = 0
block_words (Block block words ∷ parts) = words + block_words parts
block_words (Test f ∷ parts) = f.words + block_words parts
block_words (Inner ∷ parts) = block_words parts
block_words (Jump to ∷ parts) = block_words parts
block_words (End ∷ parts) = block_words parts

few_words : (next long : Bool) → branch_words next long ≤ 3
few_words true true = omega arith
few_words false true = omega arith
few_words true false = omega arith
few_words false false = omega arith

pub total_le : (forms : List FormModel) (flow : List Flow) (at : ℕ) (rest : List Flow) (parts : List LayoutPart) → PartsFit forms flow at rest parts
    → total parts ≤ block_words parts + control_words rest
total_le forms flow at [] [] h = omega arith
total_le forms flow at [] (p ∷ parts) h = absurd h
total_le forms flow at (f ∷ rest) [] h = absurd h
total_le forms flow at (Assign tree ∷ rest) (Block block words ∷ parts) h = let l = total_le forms flow (at + 1) rest parts h.1 in omega (arith, l)
total_le forms flow at (Assign tree ∷ rest) (Inner ∷ parts) h = let l = total_le forms flow (at + 1) rest parts h.1 in omega (arith, l)
total_le forms flow at (Tested tree one none ∷ rest) (Test f ∷ parts) h = let l = total_le forms flow (at + 1) rest parts h.1 in let w = few_words f.next f.long in omega (arith, l, w)
total_le forms flow at (Jumped to ∷ rest) (Jump place ∷ parts) h = let l = total_le forms flow (at + 1) rest parts h.1 in omega (arith, l)
total_le forms flow at (Ended ∷ rest) (End ∷ parts) h = let l = total_le forms flow (at + 1) rest parts h.1 in omega (arith, l)
total_le forms flow at (Assign tree ∷ rest) (Test f ∷ parts) h = absurd (h.0)
total_le forms flow at (Assign tree ∷ rest) (Jump place ∷ parts) h = absurd (h.0)
total_le forms flow at (Assign tree ∷ rest) (End ∷ parts) h = absurd (h.0)
total_le forms flow at (Tested tree one none ∷ rest) (Block block words ∷ parts) h = absurd (h.0)
total_le forms flow at (Tested tree one none ∷ rest) (Inner ∷ parts) h = absurd (h.0)
total_le forms flow at (Tested tree one none ∷ rest) (Jump place ∷ parts) h = absurd (h.0)
total_le forms flow at (Tested tree one none ∷ rest) (End ∷ parts) h = absurd (h.0)
total_le forms flow at (Jumped to ∷ rest) (Block block words ∷ parts) h = absurd (h.0)
total_le forms flow at (Jumped to ∷ rest) (Inner ∷ parts) h = absurd (h.0)
total_le forms flow at (Jumped to ∷ rest) (Test f ∷ parts) h = absurd (h.0)
total_le forms flow at (Jumped to ∷ rest) (End ∷ parts) h = absurd (h.0)
total_le forms flow at (Ended ∷ rest) (Block block words ∷ parts) h = absurd (h.0)
total_le forms flow at (Ended ∷ rest) (Inner ∷ parts) h = absurd (h.0)
total_le forms flow at (Ended ∷ rest) (Test f ∷ parts) h = absurd (h.0)
total_le forms flow at (Ended ∷ rest) (Jump place ∷ parts) h = absurd (h.0)

-- blocks are counted once each
sum_drop : (sizes : List ℕ) (k : ℕ) → slice_index sizes k + sum_of (drop (k + 1) sizes) ≤ sum_of (drop k sizes)
sum_drop [] k = let n = nothing (k + 1) in omega (arith, n)
  where
    nothing : (j : ℕ) → sum_of (drop j (let none : List ℕ = [] in none)) ≡ 0
    nothing zero = refl
    nothing (suc j) = refl
sum_drop (n ∷ sizes) zero = omega arith
sum_drop (n ∷ sizes) (suc k) = subst (λ j. slice_index sizes k + sum_of (drop j (n ∷ sizes)) ≤ sum_of (drop k sizes)) (let z : suc (k + 1) ≡ suc k + 1 = omega arith in z) (sum_drop sizes k)

fork_words : (forms : List FormModel) (tree block words : ℕ) (branch : Branch) (at one none : ℕ) (parts : List LayoutPart)
    → block_words (fork_of forms tree block words branch at one none ∷ parts) ≡ words + block_words parts
fork_words forms tree block words branch at one none parts = by (form_at_one (slice_get forms branch.form))
  where
    by : (w : Bool)
        → block_words ((if w then fork_to tree block words branch.form branch.setting at one none else fork_to tree block words branch.form branch.setting at none one) ∷ parts) ≡ words + block_words parts
    by true = refl
    by false = refl

-- the blocks up to a place, and one more place
blocks_next : (flow : List Flow) (at : ℕ) (f : Flow) → slice_get flow at ≡ Some f → blocks_before flow (at + 1) ≡ blocks_before flow at + place_blocks (Some f) (continues flow at)
blocks_next flow at f here = ap (blocks_before flow) (add-one at) ∙ ap (λ (o : Option Flow). blocks_before flow at + place_blocks o (continues flow at)) here

module _ (forms : List FormModel) (flow : List Flow) (sizes : List ℕ) (forks : List Branch) where
  one_le : (f : Flow) (at N : ℕ) (parts : List LayoutPart) → N ≡ blocks_before flow at + place_blocks (Some f) (continues flow at)
      → block_words parts ≤ sum_of (drop N sizes) → block_words (place_part forms flow sizes forks f at ∷ parts) ≤ sum_of (drop (blocks_before flow at) sizes)
  one_le (Assign tree) at N parts next le = by (continues flow at) next
    where
      by : (c : Bool) → N ≡ blocks_before flow at + (if c then 0 else 1) → block_words ((if c then Inner else Block (blocks_before flow at) (slice_index sizes (blocks_before flow at))) ∷ parts) ≤ sum_of (drop (blocks_before flow at) sizes)
      by true e = let z = ap (λ k. sum_of (drop k sizes)) (let y : N ≡ blocks_before flow at = omega arith in y) in omega (arith, z, le)
      by false e = let z = ap (λ k. sum_of (drop k sizes)) e in let d = sum_drop sizes (blocks_before flow at) in omega (arith, z, d, le)
  one_le (Tested tree one none) at N parts next le =
      let z = ap (λ k. sum_of (drop k sizes)) next in
      let d = sum_drop sizes (blocks_before flow at) in
      let w = fork_words forms tree (blocks_before flow at) (slice_index sizes (blocks_before flow at)) (branch_or_zero (slice_get forks (tests_before flow at))) at one none parts in
      omega (arith, z, d, w, le)
  one_le (Jumped to) at N parts next le = let z = ap (λ k. sum_of (drop k sizes)) (let y : N ≡ blocks_before flow at = omega arith in y) in omega (arith, z, le)
  one_le Ended at N parts next le = let z = ap (λ k. sum_of (drop k sizes)) (let y : N ≡ blocks_before flow at = omega arith in y) in omega (arith, z, le)

  blocks_le : (rest : List Flow) (at : ℕ) → ((j : ℕ) → slice_get rest j ≡ slice_get flow (at + j))
      → block_words (parts_from forms flow sizes forks rest at) ≤ sum_of (drop (blocks_before flow at) sizes)
  blocks_le [] at stand = omega arith
  blocks_le (f ∷ rest) at stand =
      let here : slice_get flow at ≡ Some f = ap (slice_get flow) (let z : at ≡ at + 0 = omega arith in z) ∙ sym (stand 0) in
      one_le f at (blocks_before flow (at + 1)) (parts_from forms flow sizes forks rest (at + 1)) (blocks_next flow at f here)
      (blocks_le rest (at + 1) (λ j. stand (suc j) ∙ ap (slice_get flow) (let z : at + suc j ≡ at + 1 + j = omega arith in z)))

widened_words : (forms : List FormModel) (addresses : List ℕ) (a : ℕ) (parts : List LayoutPart)
    → block_words (widened_from forms addresses a parts) ≡ block_words parts
widened_words forms addresses a [] = refl
widened_words forms addresses a (Block block words ∷ parts) = ap (λ n. words + n) (widened_words forms addresses (a + words) parts)
widened_words forms addresses a (Inner ∷ parts) = widened_words forms addresses (a + 0) parts
widened_words forms addresses a (Test f ∷ parts) = ap (λ n. f.words + n) (widened_words forms addresses (a + (f.words + branch_words f.next f.long)) parts)
widened_words forms addresses a (Jump to ∷ parts) = widened_words forms addresses (a + 1) parts
widened_words forms addresses a (End ∷ parts) = widened_words forms addresses (a + 1) parts

rounds_words : (forms : List FormModel) (n : ℕ) (parts : List LayoutPart) → block_words (rounds forms n parts) ≡ block_words parts
rounds_words forms zero parts = refl
rounds_words forms (suc n) parts = rounds_words forms n (round forms parts) ∙ widened_words forms (starts parts) 0 parts

-- after any rounds the words are at most the bound
pub laid_le : (forms : List FormModel) (flow : List Flow) (sizes : List ℕ) (forks : List Branch) (n : ℕ)
    → total (rounds forms n (parts_of forms flow sizes forks)) ≤ sum_of sizes + control_words flow
laid_le forms flow sizes forks n =
    let f = rounds_fit forms flow n (parts_of forms flow sizes forks) (parts_fit forms flow sizes forks flow 0) in
    let t = total_le forms flow 0 flow (rounds forms n (parts_of forms flow sizes forks)) f in
    let w = rounds_words forms n (parts_of forms flow sizes forks) in
    let b = blocks_le forms flow sizes forks flow 0 (λ j. ap (slice_get flow) (let z : j ≡ 0 + j = omega arith in z)) in
    omega (arith, t, w, b)

-- ---- the parts, one after the other

-- one part more
pub made_more : (forms : List FormModel) (flow : List Flow) (sizes : List ℕ) (forks : List Branch) (f : Flow) (left rest : List Flow) (at block test : ℕ) (parts new whole : List LayoutPart) (part : LayoutPart)
    → left ≡ f ∷ rest → part ≡ part_for forms flow sizes forks f at block test → block ≡ blocks_before flow at → test ≡ tests_before flow at
    → new ≡ parts ++ part ∷ [] → parts ++ parts_from forms flow sizes forks left at ≡ whole
    → new ++ parts_from forms flow sizes forks rest (at + 1) ≡ whole
made_more forms flow sizes forks f left rest at block test parts new whole part is p b t n h =
    let pe : part ≡ place_part forms flow sizes forks f at = p ∙ (λ j. part_for forms flow sizes forks f at (b j) (t j)) in
    ap (λ xs. xs ++ parts_from forms flow sizes forks rest (at + 1)) n
    ∙ append_assoc parts (part ∷ []) _
    ∙ ap (λ (x : LayoutPart). parts ++ (x ∷ parts_from forms flow sizes forks rest (at + 1))) pe
    ∙ ap (λ l. parts ++ parts_from forms flow sizes forks l at) (sym is)
    ∙ h
