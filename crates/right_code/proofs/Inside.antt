-- The targets of a program's flow are places in it, and absolute branches stay one word.
use Rattle.std.proofs.Common.{ℕ, zero, suc, ◌≡◌, ◌≤◌, ◌<◌, ◌+◌, ◌||◌, not, Bool, true, false, if◌then◌else◌, List, [], ◌∷◌, ◌++◌, length, Some, refl, sym, ◌∙◌, ap, subst, arith, slice_get, slice_index}
use Rattle.rec_bits.proofs.Booleans.{true_false}
use Rattle.rec_bits.proofs.Options.{same_Some}
use Rattle.rec_bits.proofs.Lists.{slice_get_within, there}
use Rattle.src_model.specs.declared.program.Cmp.{Cmp}
use Rattle.src_model.specs.declared.program.Cmp.TheVariants.{Ne}
use Rattle.src_model.specs.Written.{StmtModel, assign, choice, while, count, StmtsModel, no_acts, act, ElseModel, without, otherwise, ProgramModel, stmts_of}
use Rattle.src_model.specs.Sizes.{statements, statements_in}
use Rattle.form_model.specs.declared.flow.Flow.{Flow}
use Rattle.form_model.specs.declared.flow.Flow.TheVariants.{Assign, Test as Tested, Jump as Jumped, End as Ended}
use Rattle.form_model.specs.Forms.{FormModel, TargetModel, absolute, relative, branches}
use Rattle.src_trees.specs.Lowered.{holds_at_one}
use Rattle.src_trees.specs.Blocks.{continues}
use Rattle.src_trees.specs.Turned.{Turns, turned_flow}
use Rattle.src_trees.specs.Flows.{places_for, places_in, places_else, else_entry, asked, flow_of, flow_in, flow_else, program_flow}
use Rattle.src_trees.proofs.Standing.{entry_within}
use Rattle.branch_fix.specs.Parts.{form_at_one, fork_to, branch_or_zero, blocks_before, tests_before, part_for, place_part, parts_from, parts_of, room, starts, FitsPart, PartsFit}
use Rattle.branch_fix.specs.Rounds.{goal_shows, form_shows, widened, widened_from, round, rounds}
use Rattle.branch_fix.specs.declared.outline.Branch.{Branch}
use Rattle.branch_fix.specs.declared.part.BranchedTest.{BranchedTest}
use Rattle.branch_fix.specs.declared.part.LayoutPart.{LayoutPart}
use Rattle.branch_fix.specs.declared.part.LayoutPart.TheVariants.{Block, Inner, Test, Jump, End}
use Rattle.branch_fix.proofs.Addresses.{part_at, fit_length}

-- ---- targets

-- no target lies behind a place
abbrev pub Upto : ℕ → List Flow → Type 0
Upto n [] = Unit {0}
Upto n (Assign tree ∷ rest) = Upto n rest
Upto n (Tested tree one none ∷ rest) = (one ≤ n) × (none ≤ n) × Upto n rest
Upto n (Jumped to ∷ rest) = (to ≤ n) × Upto n rest
Upto n (Ended ∷ rest) = Upto n rest

upto_on : (n : ℕ) (xs ys : List Flow) → Upto n xs → Upto n ys → Upto n (xs ++ ys)
upto_on n [] ys g h = h
upto_on n (Assign tree ∷ xs) ys g h = upto_on n xs ys g h
upto_on n (Tested tree one none ∷ xs) ys g h = (g.0, g.1, upto_on n xs ys g.2 h)
upto_on n (Jumped to ∷ xs) ys g h = (g.0, upto_on n xs ys g.1 h)
upto_on n (Ended ∷ xs) ys g h = upto_on n xs ys g h

asked_upto : (n : ℕ) (cmp : Cmp) (tree on_true on_false : ℕ) (rest : List Flow) → on_true ≤ n → on_false ≤ n → Upto n rest → Upto n (asked cmp tree on_true on_false ∷ rest)
asked_upto n cmp tree on_true on_false rest l k g = by (holds_at_one cmp)
  where
    by : (b : Bool) → Upto n ((if b then Tested tree on_true on_false else Tested tree on_false on_true) ∷ rest)
    by true = (l, k, g)
    by false = (k, l, g)

mutual
  flow_upto : (a : StmtModel) (tree at n : ℕ) → at + places_for a ≤ n → Upto n (flow_of a tree at)
  flow_upto (assign place e) tree at n h = tt
  flow_upto (choice test taken other) tree at n h =
      let l = entry_within other (at + 1 + places_in taken) in
      asked_upto n test.cmp tree (at + 1) (else_entry other (at + 1 + places_in taken)) (flow_in taken (tree + 1) (at + 1) ++ flow_else other (tree + 1 + statements_in taken) (at + 1 + places_in taken)) (omega (arith, h)) (omega (arith, h, l))
      (upto_on n (flow_in taken (tree + 1) (at + 1)) (flow_else other (tree + 1 + statements_in taken) (at + 1 + places_in taken)) (in_upto taken (tree + 1) (at + 1) n (omega (arith, h)))
      (else_upto other (tree + 1 + statements_in taken) (at + 1 + places_in taken) n (omega (arith, h))))
  flow_upto (while test body) tree at n h =
      asked_upto n test.cmp tree (at + 1) (at + 1 + places_in body + 1) (flow_in body (tree + 1) (at + 1) ++ Jumped at ∷ []) (omega (arith, h)) (omega (arith, h))
      (upto_on n (flow_in body (tree + 1) (at + 1)) (Jumped at ∷ []) (in_upto body (tree + 1) (at + 1) n (omega (arith, h))) (omega (arith, h), tt))
  flow_upto (count counter from_at from to body) tree at n h =
      asked_upto n Ne (tree + 1) (at + 2) (at + 2 + places_in body + 2) (flow_in body (tree + 2) (at + 2) ++ Assign (tree + 2 + statements_in body) ∷ (Jumped (at + 1) ∷ [])) (omega (arith, h)) (omega (arith, h))
      (upto_on n (flow_in body (tree + 2) (at + 2)) (Assign (tree + 2 + statements_in body) ∷ (Jumped (at + 1) ∷ [])) (in_upto body (tree + 2) (at + 2) n (omega (arith, h))) (omega (arith, h), tt))

  in_upto : (list : StmtsModel) (tree at n : ℕ) → at + places_in list ≤ n → Upto n (flow_in list tree at)
  in_upto no_acts tree at n h = tt
  in_upto (act a rest) tree at n h =
      upto_on n (flow_of a tree at) (flow_in rest (tree + statements a) (at + places_for a)) (flow_upto a tree at n (omega (arith, h))) (in_upto rest (tree + statements a) (at + places_for a) n (omega (arith, h)))

  else_upto : (o : ElseModel) (tree at n : ℕ) → at + places_else o ≤ n → Upto n (flow_else o tree at)
  else_upto without tree at n h = tt
  else_upto (otherwise body) tree at n h = (omega (arith, h), in_upto body tree (at + 1) n (omega (arith, h)))

pub program_upto : (l : ProgramModel) → Upto (places_in (stmts_of l.body)) (program_flow l)
program_upto l = upto_on (places_in (stmts_of l.body)) (flow_in (stmts_of l.body) 0 0) (Ended ∷ []) (in_upto (stmts_of l.body) 0 0 (places_in (stmts_of l.body)) (omega arith)) tt

-- nor do those of tests that are turned
pub turned_upto : (turned : Turns) (n : ℕ) (flow : List Flow) → Upto n flow → Upto n (turned_flow turned flow)
turned_upto turned n [] u = tt
turned_upto turned n (Assign tree ∷ rest) u = turned_upto turned n rest u
turned_upto turned n (Tested tree one none ∷ rest) u = by (turned_upto turned n rest u.2) (turned tree)
  where
    by : Upto n (turned_flow turned rest) → (b : Bool) → Upto n ((if b then Tested tree none one else Tested tree one none) ∷ turned_flow turned rest)
    by later true = (u.1, u.0, later)
    by later false = (u.0, u.1, later)
turned_upto turned n (Jumped to ∷ rest) u = (u.0, turned_upto turned n rest u.1)
turned_upto turned n (Ended ∷ rest) u = turned_upto turned n rest u

upto_get : (n : ℕ) (xs : List Flow) (k : ℕ) (g : Flow) → Upto n xs → slice_get xs k ≡ Some g → Upto n (g ∷ [])
upto_get n [] k g u e = absurd (cc e)
upto_get n (x ∷ xs) zero g u e = subst (λ y. Upto n (y ∷ [])) (same_Some x g e) (first x xs u)
  where
    first : (x : Flow) (xs : List Flow) → Upto n (x ∷ xs) → Upto n (x ∷ [])
    first (Assign tree) xs u = tt
    first (Tested tree a b) xs u = (u.0, u.1, tt)
    first (Jumped to) xs u = (u.0, tt)
    first Ended xs u = tt
upto_get n (Assign tree ∷ xs) (suc k) g u e = upto_get n xs k g u e
upto_get n (Tested tree a b ∷ xs) (suc k) g u e = upto_get n xs k g u.2 e
upto_get n (Jumped to ∷ xs) (suc k) g u e = upto_get n xs k g u.1 e
upto_get n (Ended ∷ xs) (suc k) g u e = upto_get n xs k g u e

fork_upto : (forms : List FormModel) (flow : List Flow) (at n : ℕ) (g : Flow) (f : BranchedTest) → FitsPart forms flow at g (Test f) → Upto n (g ∷ []) → (f.to ≤ n) × (f.other ≤ n)
fork_upto forms flow at n (Tested tree one none) f h u = (subst (λ k. k ≤ n) (sym h.2) (side (form_at_one (slice_get forms f.form)) one none u.0 u.1), subst (λ k. k ≤ n) (sym h.3) (side (form_at_one (slice_get forms f.form)) none one u.1 u.0))
  where
    side : (b : Bool) (x y : ℕ) → x ≤ n → y ≤ n → (if b then x else y) ≤ n
    side true x y l k = l
    side false x y l k = k
fork_upto forms flow at n (Assign tree) f h u = absurd h
fork_upto forms flow at n (Jumped to) f h u = absurd h
fork_upto forms flow at n Ended f h u = absurd h

jump_upto : (forms : List FormModel) (flow : List Flow) (at n : ℕ) (g : Flow) (to : ℕ) → FitsPart forms flow at g (Jump to) → Upto n (g ∷ []) → to ≤ n
jump_upto forms flow at n (Jumped place) to h u = let l = u.0 in omega (arith, h, l)
jump_upto forms flow at n (Assign tree) to h u = absurd h
jump_upto forms flow at n (Tested tree one none) to h u = absurd h
jump_upto forms flow at n Ended to h u = absurd h

-- what stands at a part's place in the flow
fits_at : (forms : List FormModel) (flow : List Flow) (parts : List LayoutPart) (k n : ℕ) (p : LayoutPart) → PartsFit forms flow 0 flow parts → slice_get parts k ≡ Some p → Upto n flow → (g : Flow) × FitsPart forms flow k g p × Upto n (g ∷ [])
fits_at forms flow parts k n p fit e u =
    let l : k < length parts = slice_get_within parts k p e in
    let m : length parts ≡ length flow = fit_length forms flow 0 flow parts fit in
    let g = there flow k (omega (arith, l, m)) in
    let q = part_at forms flow 0 flow parts k k g.0 fit g.1 (omega arith) in
    (g.0, subst (λ x. FitsPart forms flow k g.0 x) (same_Some q.0 p (sym q.1 ∙ e)) q.2, upto_get n flow k g.0 u g.1)

pub ways_inside : (forms : List FormModel) (flow : List Flow) (parts : List LayoutPart) (end : ℕ) → PartsFit forms flow 0 flow parts → length flow ≡ end + 1 → Upto end flow → (at : ℕ) (f : BranchedTest) → slice_get parts at ≡ Some (Test f) → (f.to < length parts) × (f.other < length parts)
ways_inside forms flow parts end fit long u at f e =
    let m : length parts ≡ length flow = fit_length forms flow 0 flow parts fit in
    let g = fits_at forms flow parts at end (Test f) fit e u in
    let h = fork_upto forms flow at end g.0 f g.1 g.2 in
    let a = h.0 in
    let b = h.1 in
    (omega (arith, m, long, a), omega (arith, m, long, b))

pub goals_inside : (forms : List FormModel) (flow : List Flow) (parts : List LayoutPart) (end : ℕ) → PartsFit forms flow 0 flow parts → length flow ≡ end + 1 → Upto end flow → (at to : ℕ) → slice_get parts at ≡ Some (Jump to) → to < length parts
goals_inside forms flow parts end fit long u at to e =
    let m : length parts ≡ length flow = fit_length forms flow 0 flow parts fit in
    let g = fits_at forms flow parts at end (Jump to) fit e u in
    let h = jump_upto forms flow at end g.0 to g.1 g.2 in
    omega (arith, m, long, h)

-- ---- only relative branches become three words

abbrev pub IsWide : TargetModel → Type 0
IsWide (absolute shape) = ⊥
IsWide (relative shape) = Unit {0}

abbrev pub AreWide : List FormModel → List LayoutPart → Type 0
AreWide forms parts = (at : ℕ) (f : BranchedTest) (turn : FormModel) (when_one : Bool) (way : TargetModel) → slice_get parts at ≡ Some (Test f) → slice_get forms f.form ≡ Some turn → turn.goal ≡ branches when_one way → f.long ≡ true → IsWide way

new_short : (forms : List FormModel) (flow : List Flow) (sizes : List ℕ) (forks : List Branch) (g : Flow) (at block test : ℕ) (f : BranchedTest) → part_for forms flow sizes forks g at block test ≡ Test f → f.long ≡ false
new_short forms flow sizes forks (Assign tree) at block test f e = by (continues flow at) e
  where
    by : (c : Bool) → (if c then Inner else Block block (slice_index sizes block)) ≡ Test f → f.long ≡ false
    by true e = absurd (cc e)
    by false e = absurd (cc e)
new_short forms flow sizes forks (Tested tree one none) at block test f e = by (form_at_one (slice_get forms (branch_or_zero (slice_get forks test)).form)) e
  where
    by : (w : Bool) → (if w then fork_to tree block (slice_index sizes block) (branch_or_zero (slice_get forks test)).form (branch_or_zero (slice_get forks test)).setting at one none else fork_to tree block (slice_index sizes block) (branch_or_zero (slice_get forks test)).form (branch_or_zero (slice_get forks test)).setting at none one) ≡ Test f → f.long ≡ false
    by true e = is _ f e
      where
        is : (x y : BranchedTest) → Test x ≡ Test y → y.long ≡ x.long
        is x y e = cc
    by false e = is _ f e
      where
        is : (x y : BranchedTest) → Test x ≡ Test y → y.long ≡ x.long
        is x y e = cc
new_short forms flow sizes forks (Jumped to) at block test f e = absurd (cc e)
new_short forms flow sizes forks Ended at block test f e = absurd (cc e)

all_short : (forms : List FormModel) (flow : List Flow) (sizes : List ℕ) (forks : List Branch) (rest : List Flow) (at k : ℕ) (f : BranchedTest) → slice_get (parts_from forms flow sizes forks rest at) k ≡ Some (Test f) → f.long ≡ false
all_short forms flow sizes forks [] at k f e = absurd (cc e)
all_short forms flow sizes forks (g ∷ rest) at k f e =
    by k (place_part forms flow sizes forks g at) (parts_from forms flow sizes forks rest (at + 1))
    (new_short forms flow sizes forks g at (blocks_before flow at) (tests_before flow at) f)
    (λ n. all_short forms flow sizes forks rest (at + 1) n f) e
  where
    by : (k : ℕ) (p : LayoutPart) (ps : List LayoutPart) → (p ≡ Test f → f.long ≡ false) → ((n : ℕ) → slice_get ps n ≡ Some (Test f) → f.long ≡ false) → slice_get (p ∷ ps) k ≡ Some (Test f) → f.long ≡ false
    by zero p ps new more e = new (same_Some p (Test f) e)
    by (suc k) p ps new more e = more k e

-- a test after a round
record From (forms : List FormModel) (addresses : List ℕ) (parts : List LayoutPart) (k : ℕ) (g : BranchedTest) : Type 0 where
  old : BranchedTest
  at : slice_get parts k ≡ Some (Test old)
  place : ℕ
  is : g ≡ widened forms addresses place old

test_from : (forms : List FormModel) (addresses : List ℕ) (at : ℕ) (parts : List LayoutPart) (k : ℕ) (g : BranchedTest) → slice_get (widened_from forms addresses at parts) k ≡ Some (Test g) → From forms addresses parts k g
test_from forms addresses at [] k g e = absurd (cc e)
test_from forms addresses at (Test f ∷ parts) zero g e = record { old = f; at = refl; place = at; is = same _ g e }
  where
    same : (x y : BranchedTest) → Some (Test x) ≡ Some (Test y) → y ≡ x
    same x y e = cc
test_from forms addresses at (Block block words ∷ parts) zero g e = absurd (cc e)
test_from forms addresses at (Inner ∷ parts) zero g e = absurd (cc e)
test_from forms addresses at (Jump to ∷ parts) zero g e = absurd (cc e)
test_from forms addresses at (End ∷ parts) zero g e = absurd (cc e)
test_from forms addresses at (p ∷ parts) (suc k) g e =
    let r = test_from forms addresses (at + room p) parts k g e in
    record { old = r.old; at = r.at; place = r.place; is = r.is }

round_wide : (forms : List FormModel) (parts : List LayoutPart) → AreWide forms parts → AreWide forms (round forms parts)
round_wide forms parts w at g turn when_one way e form goal long =
    let f = test_from forms (starts parts) 0 parts at g e in
    let same : slice_get forms f.old.form ≡ Some turn = ap (λ (x : BranchedTest). slice_get forms x.form) (sym f.is) ∙ form in
    let was : (f.old.long || not (form_shows (slice_get forms f.old.form) (f.place + f.old.words) (slice_index (starts parts) f.old.to))) ≡ true = ap (λ (x : BranchedTest). x.long) (sym f.is) ∙ long in
    by way goal f.old same (f.place + f.old.words) (slice_index (starts parts) f.old.to) was (w at f.old turn when_one way f.at same goal)
  where
    plain : (l b : Bool) → b ≡ true → (l || not b) ≡ true → l ≡ true
    plain true b s e = refl
    plain false true s e = absurd (cc e)
    plain false false s e = absurd (cc s)

    by : (way : TargetModel) → turn.goal ≡ branches when_one way → (old : BranchedTest) → slice_get forms old.form ≡ Some turn → (n m : ℕ) → (old.long || not (form_shows (slice_get forms old.form) n m)) ≡ true → (old.long ≡ true → IsWide way) → IsWide way
    by (relative shape) goal old same n m was before = tt
    by (absolute shape) goal old same n m was before = before (plain old.long _ (ap (λ o. form_shows o n m) same ∙ ap (λ k. goal_shows k n m) goal) was)

rounds_wide : (forms : List FormModel) (n : ℕ) (parts : List LayoutPart) → AreWide forms parts → AreWide forms (rounds forms n parts)
rounds_wide forms zero parts w = w
rounds_wide forms (suc n) parts w = rounds_wide forms n (round forms parts) (round_wide forms parts w)

pub settled_wide : (forms : List FormModel) (flow : List Flow) (sizes : List ℕ) (forks : List Branch) (n : ℕ) → AreWide forms (rounds forms n (parts_of forms flow sizes forks))
settled_wide forms flow sizes forks n = rounds_wide forms n (parts_of forms flow sizes forks) (λ at f turn when_one way e form goal long. absurd (true_false f.long long (all_short forms flow sizes forks flow 0 at f e)))
