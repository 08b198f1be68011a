-- The plans of a task's jobs are covers by the forms of their modes, and so are the cuts of a block's
-- jobs; and variables are in reach of addresses.
use Rattle.std.proofs.Common.{ℕ, zero, suc, ◌≡◌, ◌≤◌, ◌+◌, List, [], ◌∷◌, ◌++◌, Option, Some, None, refl, sym, ◌∙◌, ap, arith, subst, slice_get}
use Rattle.std.specs.List.{AllByRecursion}
use Rattle.rec_bits.proofs.Options.{same_Some}
use Rattle.net_model.specs.declared.hardware.Netlist.{Netlist}
use Rattle.net_model.specs.declared.hardware.Storage.{Storage}
use Rattle.net_model.specs.declared.hardware.Storage.TheVariants.{Register, Memory, File}
use Rattle.net_model.specs.CheckedRules.{KeepsRules, StorageKeeps, memory_addr_width, memory_count}
use Rattle.net_model.specs.Nets.{memory_size, memory_width}
use Rattle.src_model.specs.Written.{ProgramModel}
use Rattle.src_model.specs.Rules.{temp_count}
use Rattle.code_model.specs.Layout.{need_of}
use Rattle.form_model.specs.declared.flow.Flow.{Flow}
use Rattle.form_model.specs.declared.flow.Flow.TheVariants.{Assign, Test as Tested, Jump as Jumped, End as Ended}
use Rattle.form_model.specs.Covers.{JobCoverModel}
use Rattle.emit_seq.specs.ReadWords.{AllReadWords}
use Rattle.src_trees.specs.Lowered.{JobModel}
use Rattle.src_trees.specs.Blocks.{job_list, job_at, jobs_at}
use Rattle.src_trees.specs.Seen.{InReach}
use Rattle.src_trees.specs.Measures.{AllSmall}
use Rattle.right_code.specs.Jobs.{HasOne, IsCovered}
use Rattle.right_code.specs.Inner.Jobs.{AreCovered}
use Rattle.right_code.specs.Inner.Forks.{test_of}
use Rattle.form_model.specs.Forms.{DestinationModel, tested}
use Rattle.right_code.specs.Inner.Blocks.{Kit}
use Rattle.right_code.specs.Covered.{AllPlanned, ArePlans, mode_stock}
use Rattle.mode_set.specs.Costs.{MayRunIn, PlanModel}
use Rattle.mode_set.specs.Keeping.{Isas, IsUsable, held}
use Rattle.net_model.specs.ModeRules.{base_at}
use Rattle.right_code.specs.Cuts.{Cut, cuts_of, join_cut, join_first, join_zero, plan_at, plan_choices, plans_at, plans_of}
use Rattle.right_code.specs.Tasks.{Task, task_jobs}
use Rattle.right_code.proofs.Covered.{covered_of}
use Rattle.right_code.specs.FlowJobs.{AllOne}

-- a job that goes nowhere is a test's
pub as_test : (job : JobModel) → job.destination ≡ tested → test_of job ≡ job
as_test job e = (λ j. record { destination = sym e j; trees = job.trees })

-- plans of one mode
abbrev pub AllMode : ℕ → List PlanModel → Type 0
AllMode v [] = Unit {0}
AllMode v (planned ∷ plans) = (planned.mode ≡ v) × AllMode v plans

-- the jobs of cuts
abbrev pub cut_jobs : List Cut → List JobModel
cut_jobs [] = []
cut_jobs (x ∷ cuts) = x.jobs ++ cut_jobs cuts

module _ (task : Task) (isas : Isas task.netlist) where
  abbrev pub own_net : ℕ → Netlist
  own_net v = base_at task.netlist (held task.netlist v)

  abbrev pub own_kit : ℕ → Kit
  own_kit v = record { netlist = own_net v; patterns = (isas v).patterns; stock = mode_stock task isas v }

  -- a job's cover is by forms of its mode
  abbrev pub PlansCovered : List JobModel → List PlanModel → Type 0
  PlansCovered [] [] = Unit {0}
  PlansCovered (job ∷ jobs) (planned ∷ plans) = IsCovered (own_kit planned.mode).stock job planned.choice × HasOne job.destination job.trees × PlansCovered jobs plans
  PlansCovered _ _ = ⊥

  -- so are those of jobs of one mode by its forms
  pub run_covered : (v : ℕ) (jobs : List JobModel) (plans : List PlanModel) → AllMode v plans → PlansCovered jobs plans → AreCovered (own_kit v).stock jobs (plan_choices plans)
  run_covered v [] [] all c = tt
  run_covered v [] (planned ∷ plans) all c = absurd c
  run_covered v (job ∷ jobs) [] all c = absurd c
  run_covered v (job ∷ jobs) (planned ∷ plans) all c = (subst (λ n. IsCovered (own_kit n).stock job planned.choice) all.0 c.0, c.1, run_covered v jobs plans all.1 c.2)

  abbrev pub CutsCovered : List Cut → Type 0
  CutsCovered [] = Unit {0}
  CutsCovered (x ∷ cuts) = AreCovered (own_kit x.mode).stock x.jobs x.choices × CutsCovered cuts

  first_covered : (v : ℕ) (job : JobModel) (choice : JobCoverModel) (x : Cut) (cuts : List Cut) → x.mode ≡ v → IsCovered (own_kit 0).stock job choice → HasOne job.destination job.trees → CutsCovered (x ∷ cuts) → CutsCovered (join_first v job choice x cuts)
  first_covered zero job choice x cuts e c o h = ((c, o, subst (λ n. AreCovered (own_kit n).stock x.jobs x.choices) e h.0), h.1)
  first_covered (suc v) job choice x cuts e c o h = ((c, o, tt), h)

  zero_covered : (job : JobModel) (choice : JobCoverModel) (cuts : List Cut) → IsCovered (own_kit 0).stock job choice → HasOne job.destination job.trees → CutsCovered cuts → CutsCovered (join_zero job choice cuts)
  zero_covered job choice [] c o h = ((c, o, tt), tt)
  zero_covered job choice (x ∷ cuts) c o h = first_covered x.mode job choice x cuts refl c o h

  join_covered : (v : ℕ) (job : JobModel) (choice : JobCoverModel) (cuts : List Cut) → IsCovered (own_kit v).stock job choice → HasOne job.destination job.trees → CutsCovered cuts → CutsCovered (join_cut v job choice cuts)
  join_covered zero job choice cuts c o h = zero_covered job choice cuts c o h
  join_covered (suc v) job choice cuts c o h = ((c, o, tt), h)

  pub cuts_covered : (jobs : List JobModel) (plans : List PlanModel) → PlansCovered jobs plans → CutsCovered (cuts_of jobs plans)
  cuts_covered [] [] c = tt
  cuts_covered [] (planned ∷ plans) c = tt
  cuts_covered (job ∷ jobs) [] c = tt
  cuts_covered (job ∷ jobs) (planned ∷ plans) c = join_covered planned.mode job planned.choice (cuts_of jobs plans) c.0 c.1 (cuts_covered jobs plans c.2)

  first_jobs : (v : ℕ) (job : JobModel) (choice : JobCoverModel) (x : Cut) (cuts : List Cut) → cut_jobs (join_first v job choice x cuts) ≡ job ∷ cut_jobs (x ∷ cuts)
  first_jobs zero job choice x cuts = refl
  first_jobs (suc v) job choice x cuts = refl

  join_jobs : (v : ℕ) (job : JobModel) (choice : JobCoverModel) (cuts : List Cut) → cut_jobs (join_cut v job choice cuts) ≡ job ∷ cut_jobs cuts
  join_jobs zero job choice [] = refl
  join_jobs zero job choice (x ∷ cuts) = first_jobs x.mode job choice x cuts
  join_jobs (suc v) job choice cuts = refl

  pub cuts_jobs : (jobs : List JobModel) (plans : List PlanModel) → PlansCovered jobs plans → jobs ≡ cut_jobs (cuts_of jobs plans)
  cuts_jobs [] [] c = refl
  cuts_jobs [] (planned ∷ plans) c = absurd c
  cuts_jobs (job ∷ jobs) [] c = absurd c
  cuts_jobs (job ∷ jobs) (planned ∷ plans) c = ap (λ (list : List JobModel). job ∷ list) (cuts_jobs jobs plans c.2) ∙ sym (join_jobs planned.mode job planned.choice (cuts_of jobs plans))

  plans_both : (jobs later : List JobModel) (plans others : List PlanModel) → PlansCovered jobs plans → PlansCovered later others → PlansCovered (jobs ++ later) (plans ++ others)
  plans_both [] later [] others c d = d
  plans_both [] later (planned ∷ plans) others c d = absurd c
  plans_both (job ∷ jobs) later [] others c d = absurd c
  plans_both (job ∷ jobs) later (planned ∷ plans) others c d = (c.0, c.1, plans_both jobs later plans others c.2 d)

  module _ (reads : (v : ℕ) → AllReadWords task.width (isas v).keeping) (most : ℕ) (small : AllSmall task.width (temp_count task.width task.program) most (task_jobs task)) (one : AllOne (task_jobs task))
      (plans : List PlanModel) (planned : ArePlans task isas plans) where
    -- ---- the jobs of blocks

    pair_at : (jobs : List JobModel) (plans : List PlanModel) (k : ℕ) → AllSmall task.width (temp_count task.width task.program) most jobs → AllOne jobs → AllPlanned (mode_stock task isas) (IsUsable task.netlist isas) jobs plans
        → PlansCovered (job_list (slice_get jobs k)) (plans_of (slice_get plans k))
    pair_at [] [] k s o c = tt
    pair_at [] (d ∷ plans) k s o c = absurd c
    pair_at (t ∷ jobs) [] k s o c = absurd c
    pair_at (t ∷ jobs) (d ∷ plans) zero s o c = (covered_of task.width (own_kit d.mode).stock (reads d.mode) most t d.choice s.0 c.0.chosen, o.0, tt)
    pair_at (t ∷ jobs) (d ∷ plans) (suc k) s o c = pair_at jobs plans k s.1 o.1 c.1

    place_covered : (o : Option Flow) → PlansCovered (job_at (task_jobs task) o) (plan_at plans o)
    place_covered None = tt
    place_covered (Some (Assign tree)) = pair_at (task_jobs task) plans tree small one planned
    place_covered (Some (Tested tree a b)) = tt
    place_covered (Some (Jumped to)) = tt
    place_covered (Some Ended) = tt

    pub block_covered : (flow : List Flow) (at n : ℕ) → PlansCovered (jobs_at flow (task_jobs task) at n) (plans_at flow plans at n)
    block_covered flow at zero = tt
    block_covered flow at (suc n) =
        plans_both (jobs_at flow (task_jobs task) at n) (job_at (task_jobs task) (slice_get flow (at + n))) (plans_at flow plans at n) (plan_at plans (slice_get flow (at + n))) (block_covered flow at n) (place_covered (slice_get flow (at + n)))

    -- ---- tests

    pub test_plan : (jobs : List JobModel) (plans : List PlanModel) (k : ℕ) (job : JobModel) → AllSmall task.width (temp_count task.width task.program) most jobs → AllPlanned (mode_stock task isas) (IsUsable task.netlist isas) jobs plans → slice_get jobs k ≡ Some job → job.destination ≡ tested
        → (d : PlanModel) × (slice_get plans k ≡ Some d) × IsCovered (own_kit 0).stock job d.choice
    test_plan [] plans k job s c e aim = absurd (cc e)
    test_plan (t ∷ jobs) [] k job s c e aim = absurd c
    test_plan (t ∷ jobs) (d ∷ plans) zero job s c e aim =
        let same : t ≡ job = (λ (x y : JobModel) (h : Some x ≡ Some y). same_Some x y h) t job e in
        let goes : t.destination ≡ tested = ap (λ (x : JobModel). x.destination) same ∙ aim in
        let mode : d.mode ≡ 0 = subst (λ (x : DestinationModel). MayRunIn x d.mode) goes c.0.may in
        (d, refl, subst (λ x. IsCovered (own_kit 0).stock x d.choice) same (subst (λ v. IsCovered (own_kit v).stock t d.choice) mode (covered_of task.width (own_kit d.mode).stock (reads d.mode) most t d.choice s.0 c.0.chosen)))
    test_plan (t ∷ jobs) (d ∷ plans) (suc k) job s c e aim = test_plan jobs plans k job s.1 c.1 e aim

-- addresses of the data memory have some bits
some_addresses : (netlist : Netlist) (storages : List Storage) → AllByRecursion (StorageKeeps netlist) storages → memory_count storages ≡ 1 → 1 ≤ memory_addr_width storages
some_addresses netlist [] h e = absurd (omega (arith, e))
some_addresses netlist (Register name width input when ∷ storages) h e = some_addresses netlist storages h.1 (omega (arith, e))
some_addresses netlist (Memory cells ∷ storages) h e = h.0.1.0
some_addresses netlist (File cells ∷ storages) h e = some_addresses netlist storages h.1 (omega (arith, e))

-- the variables of a program that the memory has room for are in reach of its addresses
pub in_reach : (netlist : Netlist) (order : List ℕ) → KeepsRules netlist order → (width : ℕ) (l : ProgramModel) → memory_width netlist.storages ≡ width → need_of width l ≤ memory_size netlist.storages
    → InReach width (memory_addr_width netlist.storages) (temp_count width l) l.vars
in_reach netlist order keeps width l wide room =
    let some = keeps.roles.sizes.1.0 in
    let cells = keeps.roles.sizes.1.1 in
    let narrow = keeps.roles.address in
    record { some = some_addresses netlist netlist.storages keeps.formed.storages keeps.roles.memory; narrow = omega (arith, narrow, wide); reach = omega (arith, room, cells) }
