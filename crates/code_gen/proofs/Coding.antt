-- The code of blocks and tests, one place of the flow after the other.
use Rattle.std.proofs.Common.{◌≡◌, ℕ, zero, suc, ◌+◌, ◌<◌, ◌≤◌, ◌-◌, Bool, true, false, List, [], ◌∷◌, ◌++◌, Option, Some, None, length, slice_get, refl, sym, ap, subst, ◌∙◌, inl, inr, add-one, arith, length-append}
use Rattle.std.specs.Prelude.{slice_index_or}
use Rattle.std.proofs.lemmas.Bool.{cases_lt}
use Rattle.rec_bits.proofs.Booleans.{true_false}
use Rattle.form_model.specs.declared.flow.Flow.{Flow}
use Rattle.form_model.specs.declared.flow.Flow.TheVariants.{Assign, Test, Jump, End}
use Rattle.src_trees.specs.Blocks.{IsAssignBlock, continues, is_assign, jobs_at}
use Rattle.src_trees.specs.Lowered.{JobModel}
use Rattle.branch_fix.specs.declared.outline.Branch.{Branch}
use Rattle.branch_fix.specs.Parts.{branch_or_zero, blocks_before, place_blocks, place_tests, tests_before}
use Rattle.mode_set.specs.Costs.{PlanModel}
use Rattle.mode_set.specs.Keeping.{Isas}
use Rattle.right_code.specs.Cuts.{plans_at}
use Rattle.right_code.specs.Tasks.{Task}
use Rattle.compaction.specs.declared.packer.PackedBlock.{PackedBlock}
use Rattle.code_gen.specs.Inner.Coded.{IsBlockCode, IsRunCode, IsTestCode, block_at, no_block}

-- ---- lists

word_kept : {X : Type 0} (xs : List X) (x d : X) (k : ℕ) → k < length xs → slice_index_or (xs ++ x ∷ []) k d ≡ slice_index_or xs k d
word_kept [] x d k lt = absurd (omega arith)
word_kept (y ∷ xs) x d zero lt = refl
word_kept (y ∷ xs) x d (suc k) lt = word_kept xs x d k (omega arith)

word_last : {X : Type 0} (xs : List X) (x d : X) (k : ℕ) → k ≡ length xs → slice_index_or (xs ++ x ∷ []) k d ≡ x
word_last [] x d zero e = refl
word_last [] x d (suc k) e = absurd (omega arith)
word_last (y ∷ xs) x d zero e = absurd (omega arith)
word_last (y ∷ xs) x d (suc k) e = word_last xs x d k (omega arith)

get_kept : {X : Type 0} (xs : List X) (x : X) (k : ℕ) → k < length xs → slice_get (xs ++ x ∷ []) k ≡ slice_get xs k
get_kept [] x k lt = absurd (omega arith)
get_kept (y ∷ xs) x zero lt = refl
get_kept (y ∷ xs) x (suc k) lt = get_kept xs x k (omega arith)

get_last : {X : Type 0} (xs : List X) (x : X) (k : ℕ) → k ≡ length xs → slice_get (xs ++ x ∷ []) k ≡ Some x
get_last [] x zero e = refl
get_last [] x (suc k) e = absurd (omega arith)
get_last (y ∷ xs) x zero e = absurd (omega arith)
get_last (y ∷ xs) x (suc k) e = get_last xs x k (omega arith)

-- ---- counts

module _ (flow : List Flow) where
  blocks_rise : (at n : ℕ) → blocks_before flow at ≤ blocks_before flow (n + at)
  blocks_rise at zero = let e = ap (blocks_before flow) (let z : 0 + at ≡ at = omega arith in z) in omega (arith, e)
  blocks_rise at (suc n) =
      let h = blocks_rise at n in
      let e : blocks_before flow (suc n + at) ≡ blocks_before flow (suc (n + at)) = ap (blocks_before flow) (let z : suc n + at ≡ suc (n + at) = omega arith in z) in
      omega (arith, h, e)

  tests_rise : (at n : ℕ) → tests_before flow at ≤ tests_before flow (n + at)
  tests_rise at zero = let e = ap (tests_before flow) (let z : 0 + at ≡ at = omega arith in z) in omega (arith, e)
  tests_rise at (suc n) =
      let h = tests_rise at n in
      let e : tests_before flow (suc n + at) ≡ tests_before flow (suc (n + at)) = ap (tests_before flow) (let z : suc n + at ≡ suc (n + at) = omega arith in z) in
      omega (arith, h, e)

  -- a block that begins at a place is counted behind it
  pub block_counted : (at upto : ℕ) → at < upto → place_blocks (slice_get flow at) (continues flow at) ≡ 1 → blocks_before flow at < blocks_before flow upto
  block_counted at upto lt one =
      let h = blocks_rise (suc at) (upto - suc at) in
      let e : blocks_before flow (upto - suc at + suc at) ≡ blocks_before flow upto = ap (blocks_before flow) (let z : upto - suc at + suc at ≡ upto = omega arith in z) in
      omega (arith, h, e, one)

  pub test_counted : (at upto : ℕ) → at < upto → place_tests (slice_get flow at) ≡ 1 → tests_before flow at < tests_before flow upto
  test_counted at upto lt one =
      let h = tests_rise (suc at) (upto - suc at) in
      let e : tests_before flow (upto - suc at + suc at) ≡ tests_before flow upto = ap (tests_before flow) (let z : upto - suc at + suc at ≡ upto = omega arith in z) in
      omega (arith, h, e, one)

  -- a block begins at its first place
  assign_counts : (o : Option Flow) (b : Bool) → is_assign o ≡ true → b ≡ false → place_blocks o b ≡ 1
  assign_counts None b a e = absurd cc
  assign_counts (Some (Assign tree)) b a e = rw e refl
  assign_counts (Some (Test tree one none)) b a e = absurd cc
  assign_counts (Some (Jump to)) b a e = absurd cc
  assign_counts (Some End) b a e = absurd cc

  pub block_begins : (at n : ℕ) → IsAssignBlock flow at n → place_blocks (slice_get flow at) (continues flow at) ≡ 1
  block_begins at n block =
      let a : is_assign (slice_get flow at) ≡ true = ap (λ (k : ℕ). is_assign (slice_get flow k)) (let z : at ≡ at + 0 = omega arith in z) ∙ block.assigns 0 (omega (arith, block.some)) in
      assign_counts (slice_get flow at) (continues flow at) a block.first

  -- a place begins one block at most
  pub block_one : (at n m : ℕ) → IsAssignBlock flow at n → IsAssignBlock flow at m → n ≡ m
  block_one at n m a b = elim (cases_lt n m) [
    | inl lt ↦ absurd (true_false (continues flow (at + n)) (b.inner n lt (omega (arith, a.some))) a.last)
    | inr le ↦ elim (cases_lt m n) [
      | inl lt ↦ absurd (true_false (continues flow (at + m)) (a.inner m lt (omega (arith, b.some))) b.last)
      | inr more ↦ omega arith
    ]
  ]

-- an assignment is no test
pub no_test : (o : Option Flow) → is_assign o ≡ true → place_tests o ≡ 0
no_test None e = refl
no_test (Some (Assign tree)) e = refl
no_test (Some (Test tree one none)) e = absurd cc
no_test (Some (Jump to)) e = refl
no_test (Some End) e = refl

-- ---- one place more

module _ (task : Task) (isas : Isas task.netlist) (flow : List Flow) (models : List JobModel) (plans : List PlanModel) where
  abbrev Coded : ℕ → List PackedBlock → List Branch → Type 0
  Coded = IsBlockCode task isas flow models plans

  pub nothing_coded : Coded 0 [] []
  nothing_coded = record { long = refl; many = refl; runs = λ at n lt. absurd (omega arith); tests = λ at tree one none lt. absurd (omega arith) }

  -- where no block begins
  pub skipped : (upto : ℕ) (blocks : List PackedBlock) (branches : List Branch) → Coded upto blocks branches → place_blocks (slice_get flow upto) (continues flow upto) ≡ 0 → place_tests (slice_get flow upto) ≡ 0
      → Coded (upto + 1) blocks branches
  skipped upto blocks branches h b t = record {
    long = let e = ap (blocks_before flow) (add-one upto) in omega (arith, h.long, b, e);
    many = let e = ap (tests_before flow) (add-one upto) in omega (arith, h.many, t, e);
    runs = λ at n lt block. elim (cases_lt at upto) [
      | inl before ↦ h.runs at n before block
      | inr le ↦ absurd (let e : at ≡ upto = omega arith in let c = block_begins flow at n block in let d = ap (λ k. place_blocks (slice_get flow k) (continues flow k)) e in omega (arith, b, c, d))
    ];
    tests = λ at tree one none lt there. elim (cases_lt at upto) [
      | inl before ↦ h.tests at tree one none before there
      | inr le ↦ absurd (let e : at ≡ upto = omega arith in let c : place_tests (slice_get flow at) ≡ 1 = ap place_tests there in let d = ap (λ k. place_tests (slice_get flow k)) e in omega (arith, t, c, d))
    ];
  }

  -- a block of assignments
  pub run_more : (upto n : ℕ) (blocks : List PackedBlock) (branches : List Branch) (new : PackedBlock) → Coded upto blocks branches → IsAssignBlock flow upto n → place_tests (slice_get flow upto) ≡ 0
      → IsRunCode task isas (jobs_at flow models upto n) (plans_at flow plans upto n) new → Coded (upto + 1) (blocks ++ new ∷ []) branches
  run_more upto n blocks branches new h block t least = record {
    long = let e = ap (blocks_before flow) (add-one upto) in let l = length-append blocks (new ∷ []) in omega (arith, h.long, begins, e, l);
    many = let e = ap (tests_before flow) (add-one upto) in omega (arith, h.many, t, e);
    runs = λ at m lt other. elim (cases_lt at upto) [
      | inl before ↦ subst (IsRunCode task isas (jobs_at flow models at m) (plans_at flow plans at m))
          (sym (word_kept blocks new no_block (blocks_before flow at) (omega (arith, h.long, block_counted flow at upto before (block_begins flow at m other)))))
          (h.runs at m before other)
      | inr le ↦ here at m (omega arith) other
    ];
    tests = λ at tree one none lt there job planned w c. elim (cases_lt at upto) [
      | inl before ↦ subst (λ ws. IsTestCode task isas job planned ws (branch_or_zero (slice_get branches (tests_before flow at))))
          (sym (word_kept blocks new no_block (blocks_before flow at) (omega (arith, h.long, block_counted flow at upto before (ap (λ o. place_blocks o (continues flow at)) there)))))
          (h.tests at tree one none before there job planned w c)
      | inr le ↦ absurd (let e : at ≡ upto = omega arith in let c : place_tests (slice_get flow at) ≡ 1 = ap place_tests there in let d = ap (λ k. place_tests (slice_get flow k)) e in omega (arith, t, c, d))
    ];
  }
    where
      begins : place_blocks (slice_get flow upto) (continues flow upto) ≡ 1
      begins = block_begins flow upto n block

      last : block_at (blocks ++ new ∷ []) (blocks_before flow upto) ≡ new
      last = word_last blocks new no_block (blocks_before flow upto) (sym h.long)

      here : (at m : ℕ) → at ≡ upto → IsAssignBlock flow at m
          → IsRunCode task isas (jobs_at flow models at m) (plans_at flow plans at m) (block_at (blocks ++ new ∷ []) (blocks_before flow at))
      here at m e other =
          let other_there : IsAssignBlock flow upto m = subst (λ k. IsAssignBlock flow k m) e other in
          let same : n ≡ m = block_one flow upto n m block other_there in
          let mine : IsRunCode task isas (jobs_at flow models upto m) (plans_at flow plans upto m) (block_at (blocks ++ new ∷ []) (blocks_before flow upto)) =
          subst (λ k. IsRunCode task isas (jobs_at flow models upto k) (plans_at flow plans upto k) (block_at (blocks ++ new ∷ []) (blocks_before flow upto))) same
          (subst (IsRunCode task isas (jobs_at flow models upto n) (plans_at flow plans upto n)) (sym last) least) in
          subst (λ k. IsRunCode task isas (jobs_at flow models k m) (plans_at flow plans k m) (block_at (blocks ++ new ∷ []) (blocks_before flow k))) (sym e) mine

  -- a test
  pub test_more : (upto tree one none : ℕ) (blocks : List PackedBlock) (branches : List Branch) (new : PackedBlock) (branch : Branch) → Coded upto blocks branches → slice_get flow upto ≡ Some (Test tree one none)
      → (job : JobModel) (planned : PlanModel) → slice_get models tree ≡ Some job → slice_get plans tree ≡ Some planned → IsTestCode task isas job planned new branch
      → Coded (upto + 1) (blocks ++ new ∷ []) (branches ++ branch ∷ [])
  test_more upto tree one none blocks branches new branch h there job planned w c code = record {
    long = let e = ap (blocks_before flow) (add-one upto) in let l = length-append blocks (new ∷ []) in omega (arith, h.long, begins, e, l);
    many = let e = ap (tests_before flow) (add-one upto) in let l = length-append branches (branch ∷ []) in omega (arith, h.many, tests_here, e, l);
    runs = λ at m lt other. elim (cases_lt at upto) [
      | inl before ↦ subst (IsRunCode task isas (jobs_at flow models at m) (plans_at flow plans at m))
          (sym (word_kept blocks new no_block (blocks_before flow at) (omega (arith, h.long, block_counted flow at upto before (block_begins flow at m other)))))
          (h.runs at m before other)
      | inr le ↦ absurd (no_run at m (omega arith) other)
    ];
    tests = λ at other a b lt place k d e f. elim (cases_lt at upto) [
      | inl before ↦ subst (λ ws. IsTestCode task isas k d ws (branch_or_zero (slice_get (branches ++ branch ∷ []) (tests_before flow at))))
          (sym (word_kept blocks new no_block (blocks_before flow at) (omega (arith, h.long, block_counted flow at upto before (ap (λ o. place_blocks o (continues flow at)) place)))))
          (subst (λ o. IsTestCode task isas k d (block_at blocks (blocks_before flow at)) (branch_or_zero o))
          (sym (get_kept branches branch (tests_before flow at) (omega (arith, h.many, test_counted flow at upto before (ap place_tests place)))))
          (h.tests at other a b before place k d e f))
      | inr le ↦ here at other a b (omega arith) place k d e f
    ];
  }
    where
      begins : place_blocks (slice_get flow upto) (continues flow upto) ≡ 1
      begins = ap (λ o. place_blocks o (continues flow upto)) there

      tests_here : place_tests (slice_get flow upto) ≡ 1
      tests_here = ap place_tests there

      no_run : (at m : ℕ) → at ≡ upto → IsAssignBlock flow at m → ⊥
      no_run at m e block =
          let a : is_assign (slice_get flow at) ≡ true = ap (λ (k : ℕ). is_assign (slice_get flow k)) (let z : at ≡ at + 0 = omega arith in z) ∙ block.assigns 0 (omega (arith, block.some)) in
          let t : is_assign (slice_get flow at) ≡ false = ap (λ k. is_assign (slice_get flow k)) e ∙ ap is_assign there in
          cc

      last : block_at (blocks ++ new ∷ []) (blocks_before flow upto) ≡ new
      last = word_last blocks new no_block (blocks_before flow upto) (sym h.long)

      last_branch : branch_or_zero (slice_get (branches ++ branch ∷ []) (tests_before flow upto)) ≡ branch
      last_branch = ap branch_or_zero (get_last branches branch (tests_before flow upto) (sym h.many))

      test_tree : Flow → ℕ
      test_tree (Test t a b) = t
      test_tree (Assign t) = 0
      test_tree (Jump t) = 0
      test_tree End = 0

      here : (at other a b : ℕ) → at ≡ upto → slice_get flow at ≡ Some (Test other a b) → (k : JobModel) (d : PlanModel) → slice_get models other ≡ Some k → slice_get plans other ≡ Some d
          → IsTestCode task isas k d (block_at (blocks ++ new ∷ []) (blocks_before flow at)) (branch_or_zero (slice_get (branches ++ branch ∷ []) (tests_before flow at)))
      here at other a b e place k d kw dc =
          let place_there : slice_get flow upto ≡ Some (Test other a b) = ap (slice_get flow) (sym e) ∙ place in
          let some : Some (Test tree one none) ≡ Some (Test other a b) = sym there ∙ place_there in
          let flows : Test tree one none ≡ Test other a b = cc in
          let trees : tree ≡ other = ap test_tree flows in
          let jobs : job ≡ k = (let p : Some job ≡ Some k = sym w ∙ ap (slice_get models) trees ∙ kw in cc) in
          let covers : planned ≡ d = (let p : Some planned ≡ Some d = sym c ∙ ap (slice_get plans) trees ∙ dc in cc) in
          let mine : IsTestCode task isas job planned (block_at (blocks ++ new ∷ []) (blocks_before flow upto)) (branch_or_zero (slice_get (branches ++ branch ∷ []) (tests_before flow upto))) =
          subst (λ ws. IsTestCode task isas job planned ws (branch_or_zero (slice_get (branches ++ branch ∷ []) (tests_before flow upto)))) (sym last)
          (subst (IsTestCode task isas job planned new) (sym last_branch) code) in
          subst (λ n. IsTestCode task isas k d (block_at (blocks ++ new ∷ []) (blocks_before flow n)) (branch_or_zero (slice_get (branches ++ branch ∷ []) (tests_before flow n)))) (sym e)
          (subst (λ x. IsTestCode task isas k x (block_at (blocks ++ new ∷ []) (blocks_before flow upto)) (branch_or_zero (slice_get (branches ++ branch ∷ []) (tests_before flow upto)))) covers
          (subst (λ x. IsTestCode task isas x planned (block_at (blocks ++ new ∷ []) (blocks_before flow upto)) (branch_or_zero (slice_get (branches ++ branch ∷ []) (tests_before flow upto)))) jobs mine))
