-- The bound of a program's words is one of its blocks' words.
use Rattle.std.proofs.Common.{ℕ, zero, suc, ◌≡◌, ◌≤◌, ◌+◌, Bool, true, false, if◌then◌else◌, List, [], ◌∷◌, ◌++◌, length, refl, sym, ◌∙◌, ap, subst, arith, slice_index}
use Rattle.rec_bits.proofs.Lists.{index_seam}
use Rattle.src_model.specs.declared.program.Cmp.{Cmp}
use Rattle.src_model.specs.declared.program.Cmp.TheVariants.{Ne}
use Rattle.src_model.specs.Written.{StmtModel, assign, choice, while, count, StmtsModel, no_acts, act, ElseModel, without, otherwise, ProgramModel, stmts_of}
use Rattle.src_model.specs.Sizes.{statements, statements_in, statements_else}
use Rattle.form_model.specs.declared.flow.Flow.{Flow}
use Rattle.form_model.specs.declared.flow.Flow.TheVariants.{Assign, Test, Jump, End}
use Rattle.src_trees.specs.Lowered.{holds_at_one}
use Rattle.src_trees.specs.Flows.{places_for, places_in, else_entry, asked, flow_of, flow_in, flow_else, program_flow}
use Rattle.src_trees.specs.Blocks.{continues}
use Rattle.src_trees.specs.Turned.{Turns, turned_flow}
use Rattle.branch_fix.specs.Bounds.{control_of, control_in, control_else, program_bound, sum_of, control_words, bound_of}
use Rattle.branch_fix.specs.Costs.{joined, block_costs, SizesWithin}
use Rattle.branch_fix.proofs.TurnedFlows.{turned_control, turned_costs}

-- the costs of all trees of a flow
abbrev flow_cost : List ℕ → List Flow → ℕ
flow_cost costs [] = 0
flow_cost costs (Assign tree ∷ rest) = slice_index costs tree + flow_cost costs rest
flow_cost costs (Test tree one none ∷ rest) = slice_index costs tree + flow_cost costs rest
flow_cost costs (Jump to ∷ rest) = flow_cost costs rest
flow_cost costs (End ∷ rest) = flow_cost costs rest

joined_sum : (cost : ℕ) (xs : List ℕ) → sum_of (joined cost xs) ≡ cost + sum_of xs
joined_sum cost [] = omega arith
joined_sum cost (x ∷ xs) = omega arith

block_sum : (flow : List Flow) (costs : List ℕ) (rest : List Flow) (at : ℕ) → sum_of (block_costs flow costs rest at) ≡ flow_cost costs rest
block_sum flow costs [] at = refl
block_sum flow costs (Assign tree ∷ rest) at = by (continues flow (at + 1)) (block_sum flow costs rest (at + 1))
  where
    by : (b : Bool) → sum_of (block_costs flow costs rest (at + 1)) ≡ flow_cost costs rest
        → sum_of (if b then joined (slice_index costs tree) (block_costs flow costs rest (at + 1)) else slice_index costs tree ∷ block_costs flow costs rest (at + 1)) ≡ slice_index costs tree + flow_cost costs rest
    by true h = joined_sum (slice_index costs tree) (block_costs flow costs rest (at + 1)) ∙ ap (λ n. slice_index costs tree + n) h
    by false h = ap (λ n. slice_index costs tree + n) h
block_sum flow costs (Test tree one none ∷ rest) at = ap (λ n. slice_index costs tree + n) (block_sum flow costs rest (at + 1))
block_sum flow costs (Jump to ∷ rest) at = block_sum flow costs rest (at + 1)
block_sum flow costs (End ∷ rest) at = block_sum flow costs rest (at + 1)

-- ---- the trees of a program are numbered one after the other

-- the costs of so many trees from one on
abbrev span : List ℕ → ℕ → ℕ → ℕ
span costs tree zero = 0
span costs tree (suc n) = slice_index costs tree + span costs (tree + 1) n

span_plus : (costs : List ℕ) (tree n k N : ℕ) → N ≡ n + k → span costs tree N ≡ span costs tree n + span costs (tree + n) k
span_plus costs tree zero k N e =
    let f : N ≡ k = omega arith in
    let z : tree ≡ tree + 0 = omega arith in
    let h : span costs tree N ≡ span costs (tree + 0) k = (λ j. span costs (z j) (f j)) in
    omega (arith, h)
span_plus costs tree (suc n) k zero e = absurd (omega arith)
span_plus costs tree (suc n) k (suc N) e =
    let h = span_plus costs (tree + 1) n k N (omega arith) in
    let z = ap (λ t. span costs t k) (let y : tree + 1 + n ≡ tree + suc n = omega arith in y) in
    omega (arith, h, z)

span_one : (costs : List ℕ) (tree n N : ℕ) → N ≡ 1 + n → span costs tree N ≡ slice_index costs tree + span costs (tree + 1) n
span_one costs tree n zero e = absurd (omega arith)
span_one costs tree n (suc N) e = let f : N ≡ n = omega arith in ap (λ k. slice_index costs tree + span costs (tree + 1) k) f

cost_append : (costs : List ℕ) (xs ys : List Flow) → flow_cost costs (xs ++ ys) ≡ flow_cost costs xs + flow_cost costs ys
cost_append costs [] ys = omega arith
cost_append costs (Assign tree ∷ xs) ys = let h = cost_append costs xs ys in omega (arith, h)
cost_append costs (Test tree one none ∷ xs) ys = let h = cost_append costs xs ys in omega (arith, h)
cost_append costs (Jump to ∷ xs) ys = cost_append costs xs ys
cost_append costs (End ∷ xs) ys = cost_append costs xs ys

asked_cost : (costs : List ℕ) (cmp : Cmp) (tree yes_to no_to : ℕ) (rest : List Flow)
    → flow_cost costs (asked cmp tree yes_to no_to ∷ rest) ≡ slice_index costs tree + flow_cost costs rest
asked_cost costs cmp tree yes_to no_to rest = by (holds_at_one cmp)
  where
    by : (b : Bool)
        → flow_cost costs ((if b then Test tree yes_to no_to else Test tree no_to yes_to) ∷ rest) ≡ slice_index costs tree + flow_cost costs rest
    by true = refl
    by false = refl

mutual
  stmt_cost : (costs : List ℕ) (a : StmtModel) (tree at : ℕ) → flow_cost costs (flow_of a tree at) ≡ span costs tree (statements a)
  stmt_cost costs (assign place e) tree at = refl
  stmt_cost costs (choice test taken other) tree at =
      let q = asked_cost costs test.cmp tree (at + 1) (else_entry other (at + 1 + places_in taken)) (flow_in taken (tree + 1) (at + 1) ++ flow_else other (tree + 1 + statements_in taken) (at + 1 + places_in taken)) in
      let p = cost_append costs (flow_in taken (tree + 1) (at + 1)) (flow_else other (tree + 1 + statements_in taken) (at + 1 + places_in taken)) in
      let t = in_cost costs taken (tree + 1) (at + 1) in
      let o = else_cost costs other (tree + 1 + statements_in taken) (at + 1 + places_in taken) in
      let s = span_one costs tree (statements_in taken + statements_else other) (1 + statements_in taken + statements_else other) (omega arith) in
      let u = span_plus costs (tree + 1) (statements_in taken) (statements_else other) (statements_in taken + statements_else other) refl in
      omega (arith, q, p, t, o, s, u)
  stmt_cost costs (while test body) tree at =
      let q = asked_cost costs test.cmp tree (at + 1) (at + 1 + places_in body + 1) (flow_in body (tree + 1) (at + 1) ++ Jump at ∷ []) in
      let p = cost_append costs (flow_in body (tree + 1) (at + 1)) (Jump at ∷ []) in
      let t = in_cost costs body (tree + 1) (at + 1) in
      let s = span_one costs tree (statements_in body) (1 + statements_in body) refl in
      omega (arith, q, p, t, s)
  stmt_cost costs (count counter from_at from to body) tree at =
      let back : List Flow = Assign (tree + 2 + statements_in body) ∷ (Jump (at + 1) ∷ []) in
      let q = asked_cost costs Ne (tree + 1) (at + 2) (at + 2 + places_in body + 2) (flow_in body (tree + 2) (at + 2) ++ back) in
      let p = cost_append costs (flow_in body (tree + 2) (at + 2)) back in
      let t = in_cost costs body (tree + 2) (at + 2) in
      let s1 = span_one costs tree (2 + statements_in body) (3 + statements_in body) (omega arith) in
      let s2 = span_one costs (tree + 1) (1 + statements_in body) (2 + statements_in body) (omega arith) in
      let u = span_plus costs (tree + 1 + 1) (statements_in body) 1 (1 + statements_in body) (omega arith) in
      let v = span_one costs (tree + 1 + 1 + statements_in body) 0 1 refl in
      let z1 = ap (λ n. span costs n (statements_in body)) (let y : tree + 1 + 1 ≡ tree + 2 = omega arith in y) in
      let z2 = ap (λ n. slice_index costs n) (let y : tree + 1 + 1 + statements_in body ≡ tree + 2 + statements_in body = omega arith in y) in
      omega (arith, q, p, t, s1, s2, u, v, z1, z2)

  in_cost : (costs : List ℕ) (list : StmtsModel) (tree at : ℕ) → flow_cost costs (flow_in list tree at) ≡ span costs tree (statements_in list)
  in_cost costs no_acts tree at = refl
  in_cost costs (act a rest) tree at =
      let p = cost_append costs (flow_of a tree at) (flow_in rest (tree + statements a) (at + places_for a)) in
      let t = stmt_cost costs a tree at in
      let o = in_cost costs rest (tree + statements a) (at + places_for a) in
      let u = span_plus costs tree (statements a) (statements_in rest) (statements a + statements_in rest) refl in
      omega (arith, p, t, o, u)

  else_cost : (costs : List ℕ) (o : ElseModel) (tree at : ℕ) → flow_cost costs (flow_else o tree at) ≡ span costs tree (statements_else o)
  else_cost costs without tree at = refl
  else_cost costs (otherwise body) tree at = in_cost costs body tree (at + 1)

-- all costs, one after the other
span_all : (before costs : List ℕ) (N : ℕ) → N ≡ length before → span (before ++ costs) N (length costs) ≡ sum_of costs
span_all before [] N e = refl
span_all before (c ∷ costs) N e =
    let here : slice_index (before ++ c ∷ costs) N ≡ c = ap (slice_index (before ++ c ∷ costs)) e ∙ index_seam before c costs (length before) refl in
    let h = span_all (before ++ c ∷ []) costs (N + 1) (let l = long before c in omega (arith, l)) in
    let g = ap (λ xs. span xs (N + 1) (length costs)) (more before c costs) in
    omega (arith, here, h, g)
  where
    long : (before : List ℕ) (c : ℕ) → length (before ++ c ∷ []) ≡ length before + 1
    long [] c = refl
    long (b ∷ before) c = let h = long before c in omega (arith, h)

    more : (before : List ℕ) (c : ℕ) (costs : List ℕ) → (before ++ c ∷ []) ++ costs ≡ before ++ c ∷ costs
    more [] c costs = refl
    more (b ∷ before) c costs = ap (λ xs. b ∷ xs) (more before c costs)

-- the blocks of a program cost together what its trees cost
pub program_costs : (l : ProgramModel) (costs : List ℕ) → length costs ≡ statements_in (stmts_of l.body)
    → sum_of (block_costs (program_flow l) costs (program_flow l) 0) ≡ sum_of costs
program_costs l costs e =
    let b = block_sum (program_flow l) costs (program_flow l) 0 in
    let p = cost_append costs (flow_in (stmts_of l.body) 0 0) (End ∷ []) in
    let t = in_cost costs (stmts_of l.body) 0 0 in
    let s = ap (span costs 0) (sym e) in
    let a = span_all [] costs 0 refl in
    omega (arith, b, p, t, s, a)

within_sum : (sizes costs : List ℕ) → SizesWithin sizes costs → sum_of sizes ≤ sum_of costs
within_sum [] costs h = omega arith
within_sum (s ∷ sizes) [] h = absurd h
within_sum (s ∷ sizes) (c ∷ costs) h = let r = within_sum sizes costs h.1 in omega (arith, h.0, r)

-- what `lay_out` asks of the bound
pub bound_is : (l : ProgramModel) (costs sizes : List ℕ) → length costs ≡ statements_in (stmts_of l.body)
    → SizesWithin sizes (block_costs (program_flow l) costs (program_flow l) 0)
    → sum_of sizes + control_words (program_flow l) ≤ bound_of (program_flow l) costs
bound_is l costs sizes e w =
    let c = program_costs l costs e in
    let s = within_sum sizes (block_costs (program_flow l) costs (program_flow l) 0) w in
    omega (arith, c, s)

-- ---- the bound by the statements of a program

control_append : (xs ys : List Flow) → control_words (xs ++ ys) ≡ control_words xs + control_words ys
control_append [] ys = omega arith
control_append (Assign tree ∷ xs) ys = control_append xs ys
control_append (Test tree one none ∷ xs) ys = let h = control_append xs ys in omega (arith, h)
control_append (Jump to ∷ xs) ys = let h = control_append xs ys in omega (arith, h)
control_append (End ∷ xs) ys = let h = control_append xs ys in omega (arith, h)

asked_control : (cmp : Cmp) (tree yes_to no_to : ℕ) (rest : List Flow) → control_words (asked cmp tree yes_to no_to ∷ rest) ≡ 3 + control_words rest
asked_control cmp tree yes_to no_to rest = by (holds_at_one cmp)
  where
    by : (b : Bool) → control_words ((if b then Test tree yes_to no_to else Test tree no_to yes_to) ∷ rest) ≡ 3 + control_words rest
    by true = refl
    by false = refl

mutual
  stmt_control : (a : StmtModel) (tree at : ℕ) → control_words (flow_of a tree at) ≡ control_of a
  stmt_control (assign place e) tree at = refl
  stmt_control (choice test taken other) tree at =
      let q = asked_control test.cmp tree (at + 1) (else_entry other (at + 1 + places_in taken)) (flow_in taken (tree + 1) (at + 1) ++ flow_else other (tree + 1 + statements_in taken) (at + 1 + places_in taken)) in
      let p = control_append (flow_in taken (tree + 1) (at + 1)) (flow_else other (tree + 1 + statements_in taken) (at + 1 + places_in taken)) in
      let t = stmts_control taken (tree + 1) (at + 1) in
      let o = else_control other (tree + 1 + statements_in taken) (at + 1 + places_in taken) in
      omega (arith, q, p, t, o)
  stmt_control (while test body) tree at =
      let q = asked_control test.cmp tree (at + 1) (at + 1 + places_in body + 1) (flow_in body (tree + 1) (at + 1) ++ Jump at ∷ []) in
      let p = control_append (flow_in body (tree + 1) (at + 1)) (Jump at ∷ []) in
      let t = stmts_control body (tree + 1) (at + 1) in
      omega (arith, q, p, t)
  stmt_control (count counter from_at from to body) tree at =
      let back : List Flow = Assign (tree + 2 + statements_in body) ∷ (Jump (at + 1) ∷ []) in
      let q = asked_control Ne (tree + 1) (at + 2) (at + 2 + places_in body + 2) (flow_in body (tree + 2) (at + 2) ++ back) in
      let p = control_append (flow_in body (tree + 2) (at + 2)) back in
      let t = stmts_control body (tree + 2) (at + 2) in
      omega (arith, q, p, t)

  stmts_control : (list : StmtsModel) (tree at : ℕ) → control_words (flow_in list tree at) ≡ control_in list
  stmts_control no_acts tree at = refl
  stmts_control (act a rest) tree at =
      let p = control_append (flow_of a tree at) (flow_in rest (tree + statements a) (at + places_for a)) in
      let t = stmt_control a tree at in
      let o = stmts_control rest (tree + statements a) (at + places_for a) in
      omega (arith, p, t, o)

  else_control : (o : ElseModel) (tree at : ℕ) → control_words (flow_else o tree at) ≡ control_else o
  else_control without tree at = refl
  else_control (otherwise body) tree at = let h = stmts_control body tree (at + 1) in omega (arith, h)

-- the bound of a program's flow is that of its statements
pub program_words : (l : ProgramModel) (costs : List ℕ) → bound_of (program_flow l) costs ≡ program_bound l costs
program_words l costs =
    let p = control_append (flow_in (stmts_of l.body) 0 0) (End ∷ []) in
    let t = stmts_control (stmts_of l.body) 0 0 in
    omega (arith, p, t)

-- ---- flows some tests of which are turned

pub turned_words : (l : ProgramModel) (turned : Turns) (costs : List ℕ) → bound_of (turned_flow turned (program_flow l)) costs ≡ program_bound l costs
turned_words l turned costs = ap (λ n. sum_of costs + n) (turned_control turned (program_flow l)) ∙ program_words l costs

pub turned_bound : (l : ProgramModel) (turned : Turns) (costs sizes : List ℕ) → length costs ≡ statements_in (stmts_of l.body)
    → SizesWithin sizes (block_costs (turned_flow turned (program_flow l)) costs (turned_flow turned (program_flow l)) 0)
    → sum_of sizes + control_words (turned_flow turned (program_flow l)) ≤ bound_of (turned_flow turned (program_flow l)) costs
turned_bound l turned costs sizes e h =
    let same = turned_control turned (program_flow l) in
    let own = bound_is l costs sizes e (subst (SizesWithin sizes) (turned_costs turned (program_flow l) costs (program_flow l) 0) h) in
    omega (arith, same, own)
