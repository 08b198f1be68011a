-- A block has as many words as its trees cost, where each step has one and each mode word one.
use Rattle.std.proofs.Common.{◌≡◌, ℕ, zero, suc, ◌+◌, ◌≤◌, List, [], ◌∷◌, ◌++◌, Option, Some, None, length, slice_get, slice_index, refl, sym, ap, subst, ◌∙◌, arith, length-append}
use Rattle.std.proofs.lemmas.List.{append-nil, length-map}
use Rattle.form_model.specs.declared.flow.Flow.{Flow}
use Rattle.form_model.specs.declared.flow.Flow.TheVariants.{Assign, Test, Jump, End}
use Rattle.form_model.specs.Covers.{JobCoverModel, Covers, StockModel, job_cost}
use Rattle.form_model.specs.Forms.{tested}
use Rattle.form_model.specs.Steps.{cover_steps}
use Rattle.form_model.specs.declared.forms.Step.{Step}
use Rattle.src_trees.specs.Blocks.{job_at, job_list, jobs_at}
use Rattle.src_trees.specs.Lowered.{JobModel}
use Rattle.emit_seq.specs.Leaves.{IsOfJob}
use Rattle.emit_seq.proofs.Counted.{steps_cost}
use Rattle.branch_fix.specs.declared.outline.Branch.{Branch}
use Rattle.branch_fix.specs.Costs.{SizesWithin, block_costs}
use Rattle.branch_fix.specs.Parts.{blocks_before}
use Rattle.mode_set.specs.Costs.{PlanModel, mode_cost, mode_words}
use Rattle.mode_set.specs.Keeping.{Isas}
use Rattle.right_code.specs.Covered.{mode_stock, plan_costs}
use Rattle.right_code.specs.Cuts.{AreBlockCuts, AreCutWords, Cut, cuts_of, join_cut, join_first, join_zero, plan_at, plans_at, plans_of}
use Rattle.right_code.specs.Jobs.{IsCovered, job_steps, jobs_steps, tree_or_none}
use Rattle.right_code.specs.Tasks.{Task}
use Rattle.right_code.specs.FlowJobs.{AreFlowJobs}
use Rattle.right_code.proofs.Tasks.{tests_get}
use Rattle.compaction.specs.declared.packer.PackedBlock.{PackedBlock}
use Rattle.code_gen.specs.Inner.Coded.{IsBlockCode}
use Rattle.code_gen.proofs.Making.{sizes, sizes_at}
use Rattle.code_gen.proofs.Packing.{groups_few}
use Rattle.code_gen.proofs.Sizes.{place_cost, run_cost, run_more, sizes_within}
use Rattle.code_gen.proofs.Stepping.{even_place, even_places}

-- ---- one job

module _ (stock : StockModel) where
  -- the steps of a job are as many as its cover costs
  pub job_long : (job : JobModel) (choice : JobCoverModel) → IsOfJob job.destination → Covers stock job.destination job.trees choice → length (job_steps stock job choice) ≡ job_cost job.destination choice.cover
  job_long job choice goes covers =
      ap (λ t. length (cover_steps stock job.destination t choice.cover)) (ap tree_or_none covers.used) ∙ steps_cost stock job.destination covers.tree choice.cover goes covers.orderly

-- the cost of a job by its number
cost_at : (jobs : List JobModel) (plans : List PlanModel) (k : ℕ) (job : JobModel) (planned : PlanModel) → slice_get jobs k ≡ Some job → slice_get plans k ≡ Some planned
    → slice_index (plan_costs jobs plans) k ≡ mode_cost planned.mode job.destination planned.choice.cover
cost_at [] plans k job planned e f = absurd cc
cost_at (w ∷ jobs) [] k job planned e f = absurd cc
cost_at (w ∷ jobs) (d ∷ plans) zero job planned e f =
    let a : w ≡ job = cc in
    let b : d ≡ planned = cc in
    (λ j. mode_cost (b j).mode (a j).destination (b j).choice.cover)
cost_at (w ∷ jobs) (d ∷ plans) (suc k) job planned e f = cost_at jobs plans k job planned e f

-- and 0 past the last
cost_past : (jobs : List JobModel) (plans : List PlanModel) (k : ℕ) → slice_get jobs k ≡ None → slice_index (plan_costs jobs plans) k ≡ 0
cost_past [] plans k e = refl
cost_past (w ∷ jobs) [] k e = refl
cost_past (w ∷ jobs) (d ∷ plans) zero e = absurd cc
cost_past (w ∷ jobs) (d ∷ plans) (suc k) e = cost_past jobs plans k e

-- ---- the words of cuts

module _ (task : Task) (isas : Isas task.netlist) where
  -- the steps of a cut, and its mode words
  abbrev cut_cost : ℕ → List JobModel → List JobCoverModel → ℕ
  cut_cost v jobs choices = length (jobs_steps (mode_stock task isas v) jobs choices) + mode_words v

  abbrev cuts_cost : List Cut → ℕ
  cuts_cost [] = 0
  cuts_cost (x ∷ cuts) = cut_cost x.mode x.jobs x.choices + cuts_cost cuts

  -- the same of jobs with their plans
  abbrev plans_cost : List JobModel → List PlanModel → ℕ
  plans_cost (job ∷ jobs) (planned ∷ plans) = length (job_steps (mode_stock task isas planned.mode) job planned.choice) + mode_words planned.mode + plans_cost jobs plans
  plans_cost [] plans = 0
  plans_cost (job ∷ jobs) [] = 0

  cut_few : (v : ℕ) (jobs : List JobModel) (choices : List JobCoverModel) (groups : List (List Step)) (words : List ℕ) → AreCutWords task isas v jobs choices groups words → length words ≤ cut_cost v jobs choices
  cut_few zero jobs choices groups words c =
      let few = groups_few c.packing in
      let long = c.least.long in
      omega (arith, few, long)
  cut_few (suc v) jobs choices groups words c =
      let few = groups_few c.8.packing in
      let long = c.8.least.long in
      let are = ap (λ (ws : List ℕ). length ws) c.6 in
      let ends = length-append c.4 (c.2.word ∷ []) in
      omega (arith, few, long, are, ends)

  -- no block has more words than its cuts cost
  cuts_few : (cuts : List Cut) (groups : List (List Step)) (words : List ℕ) → AreBlockCuts task isas cuts groups words → length words ≤ cuts_cost cuts
  cuts_few [] groups words c = let none = ap (λ (ws : List ℕ). length ws) c.1 in omega (arith, none)
  cuts_few (x ∷ cuts) groups words c =
      let own = cut_few x.mode x.jobs x.choices c.0 c.2 c.6 in
      let later = cuts_few cuts c.1 c.3 c.7 in
      let are = ap (λ (ws : List ℕ). length ws) c.5 in
      let both = length-append c.2 c.3 in
      omega (arith, own, later, are, both)

  -- jobs cost what their cuts cost
  alone_cost : (v : ℕ) (job : JobModel) (choice : JobCoverModel) → cut_cost v (job ∷ []) (choice ∷ []) ≡ length (job_steps (mode_stock task isas v) job choice) + mode_words v
  alone_cost v job choice = ap (λ (steps : List Step). length steps + mode_words v) (append-nil (job_steps (mode_stock task isas v) job choice))

  first_cost : (v : ℕ) (job : JobModel) (choice : JobCoverModel) (x : Cut) (cuts : List Cut) → x.mode ≡ v
      → cuts_cost (join_first v job choice x cuts) ≡ length (job_steps (mode_stock task isas 0) job choice) + cuts_cost (x ∷ cuts)
  first_cost zero job choice x cuts e =
      let own = ap (λ n. cut_cost n x.jobs x.choices) e in
      let both = length-append (job_steps (mode_stock task isas 0) job choice) (jobs_steps (mode_stock task isas 0) x.jobs x.choices) in
      omega (arith, own, both)
  first_cost (suc v) job choice x cuts e = let own = alone_cost 0 job choice in omega (arith, own)

  zero_cost : (job : JobModel) (choice : JobCoverModel) (cuts : List Cut) → cuts_cost (join_zero job choice cuts) ≡ length (job_steps (mode_stock task isas 0) job choice) + cuts_cost cuts
  zero_cost job choice [] = let own = alone_cost 0 job choice in omega (arith, own)
  zero_cost job choice (x ∷ cuts) = first_cost x.mode job choice x cuts refl

  join_cost : (v : ℕ) (job : JobModel) (choice : JobCoverModel) (cuts : List Cut) → cuts_cost (join_cut v job choice cuts) ≡ length (job_steps (mode_stock task isas v) job choice) + mode_words v + cuts_cost cuts
  join_cost zero job choice cuts = let own = zero_cost job choice cuts in omega (arith, own)
  join_cost (suc v) job choice cuts = let own = alone_cost (suc v) job choice in omega (arith, own)

  cuts_are : (jobs : List JobModel) (plans : List PlanModel) → cuts_cost (cuts_of jobs plans) ≡ plans_cost jobs plans
  cuts_are [] [] = refl
  cuts_are [] (planned ∷ plans) = refl
  cuts_are (job ∷ jobs) [] = refl
  cuts_are (job ∷ jobs) (planned ∷ plans) =
      let own = join_cost planned.mode job planned.choice (cuts_of jobs plans) in
      let later = cuts_are jobs plans in
      omega (arith, own, later)

  -- ---- one place after the other

  cost_both : (xs ys : List JobModel) (ps qs : List PlanModel) → length ps ≡ length xs → plans_cost (xs ++ ys) (ps ++ qs) ≡ plans_cost xs ps + plans_cost ys qs
  cost_both [] ys [] qs e = omega arith
  cost_both [] ys (p ∷ ps) qs e = absurd (omega (arith, e))
  cost_both (x ∷ xs) ys [] qs e = absurd (omega (arith, e))
  cost_both (x ∷ xs) ys (p ∷ ps) qs e = let later = cost_both xs ys ps qs (omega (arith, e)) in omega (arith, later)

  module _ (jobs : List JobModel) (plans : List PlanModel) (even : length plans ≡ length jobs)
      (covered : (k : ℕ) (job : JobModel) (planned : PlanModel) → slice_get jobs k ≡ Some job → slice_get plans k ≡ Some planned → IsCovered (mode_stock task isas planned.mode) job planned.choice)
      (first : (k : ℕ) (job : JobModel) (planned : PlanModel) → slice_get jobs k ≡ Some job → slice_get plans k ≡ Some planned → job.destination ≡ tested → planned.mode ≡ 0) where
    tree_cost : (k : ℕ) (o : Option JobModel) (p : Option PlanModel) → slice_get jobs k ≡ o → slice_get plans k ≡ p → length (plans_of p) ≡ length (job_list o) → plans_cost (job_list o) (plans_of p) ≡ slice_index (plan_costs jobs plans) k
    tree_cost k None None e f same = sym (cost_past jobs plans k e)
    tree_cost k None (Some planned) e f same = absurd (omega (arith, same))
    tree_cost k (Some job) None e f same = absurd (omega (arith, same))
    tree_cost k (Some job) (Some planned) e f same =
        let c = covered k job planned e f in
        let own = job_long (mode_stock task isas planned.mode) job planned.choice c.goes c.covers in
        let told = cost_at jobs plans k job planned e f in
        omega (arith, own, told)

    place_is : (o : Option Flow) → plans_cost (job_at jobs o) (plan_at plans o) ≡ place_cost (plan_costs jobs plans) o
    place_is None = refl
    place_is (Some (Assign tree)) = tree_cost tree (slice_get jobs tree) (slice_get plans tree) refl refl (even_place jobs plans even (Some (Assign tree)))
    place_is (Some (Test tree one none)) = refl
    place_is (Some (Jump to)) = refl
    place_is (Some End) = refl

    -- the jobs of a block cost what its trees do
    block_cost : (flow : List Flow) (at n : ℕ) → plans_cost (jobs_at flow jobs at n) (plans_at flow plans at n) ≡ run_cost flow (plan_costs jobs plans) at n
    block_cost flow at zero = refl
    block_cost flow at (suc n) =
        let before = block_cost flow at n in
        let here = place_is (slice_get flow (at + n)) in
        let both = cost_both (jobs_at flow jobs at n) (job_at jobs (slice_get flow (at + n))) (plans_at flow plans at n) (plan_at plans (slice_get flow (at + n))) (even_places jobs plans even flow at n) in
        let more = run_more flow (plan_costs jobs plans) at n in
        omega (arith, before, here, both, more)

    -- no block has more words than it costs
    pub code_within : (flow : List Flow) (blocks : List PackedBlock) (branches : List Branch) → AreFlowJobs jobs flow → ((k : ℕ) (job : JobModel) → slice_get jobs k ≡ Some job → (planned : PlanModel) × (slice_get plans k ≡ Some planned))
        → IsBlockCode task isas flow jobs plans (length flow) blocks branches → SizesWithin (sizes blocks) (block_costs flow (plan_costs jobs plans) flow 0)
    code_within flow blocks branches tests planned_at code =
        sizes_within flow (plan_costs jobs plans) (sizes blocks) (length-map blocks (λ (block : PackedBlock). length block.words) ∙ code.long)
        (λ at n lt block.
        (let r = code.runs at n lt block in
        let size = sizes_at blocks (blocks_before flow at) in
        let few = cuts_few (cuts_of (jobs_at flow jobs at n) (plans_at flow plans at n)) _ _ r.cuts in
        let are = cuts_are (jobs_at flow jobs at n) (plans_at flow plans at n) in
        let cost = block_cost flow at n in
        omega (arith, size, few, are, cost)))
        (λ at tree one none lt place.
        (let t = tests_get jobs flow at tree one none tests place in
        let d = planned_at tree t.job t.at in
        let k = code.tests at tree one none lt place t.job d.0 t.at d.1 in
        let size = sizes_at blocks (blocks_before flow at) in
        let long = k.packed.least.long in
        let few = groups_few k.packed.packing in
        let mode : d.0.mode ≡ 0 = first tree t.job d.0 t.at d.1 t.destination in
        let job : IsCovered (mode_stock task isas 0) t.job d.0.choice = subst (λ v. IsCovered (mode_stock task isas v) t.job d.0.choice) mode (covered tree t.job d.0 t.at d.1) in
        let steps = job_long (mode_stock task isas 0) t.job d.0.choice job.goes job.covers in
        let cost = cost_at jobs plans tree t.job d.0 t.at d.1 in
        omega (arith, size, long, few, steps, cost)))
