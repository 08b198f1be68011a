-- What is known of a planned program: the netlists, the forms and the words of its task's modes.
use Rattle.std.proofs.Common.{◌≡◌, ◌<◌, ◌^◌, ℕ, true, List, length, Some, sym, ◌∙◌, ap, subst, slice_get, arith}
use Rattle.rec_bits.proofs.Lists.{there}
use Rattle.net_model.specs.ModeRules.{base_at, modes_in}
use Rattle.net_model.specs.Exprs.{ExprModel}
use Rattle.form_model.specs.declared.flow.Flow.{Flow}
use Rattle.form_model.specs.declared.flow.Flow.TheVariants.{Test}
use Rattle.form_model.specs.declared.forms.Forms.{Forms}
use Rattle.form_model.specs.Live.{regs_of}
use Rattle.emit_seq.specs.Spares.{wanted}
use Rattle.form_model.specs.Covers.{Covers, IsOrderly, StockModel, stock_with}
use Rattle.form_model.specs.CoverModels.{CoverModel, use_form}
use Rattle.form_model.specs.Forms.{DestinationModel, FormModel, models_of_forms, tested}
use Rattle.emit_seq.proofs.Opened.{opened_cover}
use Rattle.src_trees.specs.Lowered.{JobModel}
use Rattle.mode_set.specs.Costs.{MayRunIn, PlanModel}
use Rattle.mode_set.specs.Keeping.{Isas, IsUsable, held}
use Rattle.mode_set.specs.Plans.{forms_stock, stock_at}
use Rattle.right_code.specs.Covered.{mode_stock}
use Rattle.right_code.specs.Forks.{cover_form}
use Rattle.right_code.specs.Jobs.{IsCovered, tree_or_none, tree_used}
use Rattle.right_code.specs.Tasks.{Task, task_jobs}
use Rattle.right_code.proofs.Right.{job_covered}
use Rattle.right_code.specs.FlowJobs.{AreFlowJobs, IsTestJob}
use Rattle.right_code.proofs.Tasks.{tests_get}
use Rattle.compaction.specs.declared.machine.KnownMachine.{KnownMachine}
use Rattle.code_gen.specs.declared.views.Modes.{Modes}
use Rattle.code_gen.specs.declared.views.PlannedProgram.{PlannedProgram}
use Rattle.code_gen.specs.Machines.{known_netlist, known_patterns}
use Rattle.code_gen.specs.Inner.Planning.{IsPlanning, plans_in, jobs_in}
use Rattle.code_gen.specs.Inner.Registers.{AreConditionReads}
use Rattle.code_gen.proofs.Conditions.{wanted_registers}
pub use Rattle.code_gen.proofs.Held.{can_within, held_is, held_small, told_stock}
use Rattle.code_gen.proofs.Stepping.{job_there, plan_there, planned_at}

-- the place of the form at the root of a cover
abbrev pub root_of : CoverModel → ℕ
root_of (use_form k ps cs) = k

pub listed_root : (stock : StockModel) (destination : DestinationModel) (tree : ExprModel) (cover : CoverModel) → IsOrderly stock destination tree true cover → slice_get stock.forms (root_of cover) ≡ Some (cover_form stock cover)
listed_root stock destination tree (use_form k ps cs) o = (opened_cover stock k ps cs destination tree true o).listed

module _ (modes : Modes) (program : PlannedProgram) (task : Task) (isas : Isas task.netlist) (p : IsPlanning modes program task isas) where
  -- ---- a mode

  pub machine_there : (v : ℕ) → v < modes_in task.netlist → (machine : KnownMachine) × (slice_get modes.machines.now v ≡ Some machine)
  machine_there v lt = there modes.machines.now v (let many = p.modes.machines in omega (arith, lt, many))

  pub forms_there : (v : ℕ) → v < modes_in task.netlist → (forms : Forms) × (slice_get modes.forms.now v ≡ Some forms)
  forms_there v lt = there modes.forms.now v (let many = p.modes.lists in omega (arith, lt, many))

  pub forms_within : (v : ℕ) → v < modes_in task.netlist → v < length modes.forms.now
  forms_within v lt = let many = p.modes.lists in omega (arith, lt, many)

  pub usable_within : (v : ℕ) → IsUsable task.netlist isas v → v < modes_in task.netlist
  usable_within v can = can_within task.netlist (λ u. (isas u).all) v can

  pub machine_within : (v : ℕ) → v < modes_in task.netlist → v < length modes.machines.now
  machine_within v lt = let many = p.modes.machines in omega (arith, lt, many)

  pub net_is : (v : ℕ) (machine : KnownMachine) → v < modes_in task.netlist → slice_get modes.machines.now v ≡ Some machine → known_netlist machine ≡ base_at task.netlist (held task.netlist v)
  net_is v machine lt at = p.modes.nets v machine at ∙ ap (base_at task.netlist) (sym (held_is task.netlist v lt))

  pub stock_is : (v : ℕ) → v < modes_in task.netlist → stock_at modes.forms.now program.temps v ≡ mode_stock task isas v
  stock_is v lt = told_stock modes task isas p.modes program.temps p.temps v lt

  -- ---- a job

  job_model_there : (k : ℕ) (job : JobModel) → slice_get (jobs_in program) k ≡ Some job → slice_get (task_jobs task) k ≡ Some job
  job_model_there k job e = sym (ap (λ (ws : List JobModel). slice_get ws k) p.jobs) ∙ e

  pub plan_of_job : (k : ℕ) (job : JobModel) → slice_get (jobs_in program) k ≡ Some job → (planned : PlanModel) × (slice_get (plans_in program) k ≡ Some planned)
  plan_of_job k job e = plan_there (mode_stock task isas) (IsUsable task.netlist isas) (task_jobs task) (plans_in program) k job p.plans (job_model_there k job e)

  pub job_of_plan : (k : ℕ) (planned : PlanModel) → slice_get (plans_in program) k ≡ Some planned → (job : JobModel) × (slice_get (jobs_in program) k ≡ Some job)
  job_of_plan k planned e =
      let j = job_there (mode_stock task isas) (IsUsable task.netlist isas) (task_jobs task) (plans_in program) k planned p.plans e in
      (j.0, ap (λ (ws : List JobModel). slice_get ws k) p.jobs ∙ j.1)

  pub mode_usable : (k : ℕ) (planned : PlanModel) → slice_get (plans_in program) k ≡ Some planned → IsUsable task.netlist isas planned.mode
  mode_usable k planned e =
      let j = job_of_plan k planned e in
      (planned_at (mode_stock task isas) (IsUsable task.netlist isas) (task_jobs task) (plans_in program) k j.0 planned p.plans (job_model_there k j.0 j.1) e).can

  pub plan_mode : (k : ℕ) (planned : PlanModel) → slice_get (plans_in program) k ≡ Some planned → planned.mode < modes_in task.netlist
  plan_mode k planned e = usable_within planned.mode (mode_usable k planned e)

  pub plan_forms : (k : ℕ) (planned : PlanModel) → slice_get (plans_in program) k ≡ Some planned → planned.mode < length modes.forms.now
  plan_forms k planned e = forms_within planned.mode (plan_mode k planned e)

  pub test_mode : (k : ℕ) (job : JobModel) (planned : PlanModel) → slice_get (jobs_in program) k ≡ Some job → slice_get (plans_in program) k ≡ Some planned → job.destination ≡ tested → planned.mode ≡ 0
  test_mode k job planned e f goes =
      subst (λ (d : DestinationModel). MayRunIn d planned.mode) goes
      (planned_at (mode_stock task isas) (IsUsable task.netlist isas) (task_jobs task) (plans_in program) k job planned p.plans (job_model_there k job e) f).may

  pub covered : (k : ℕ) (job : JobModel) (planned : PlanModel) → slice_get (jobs_in program) k ≡ Some job → slice_get (plans_in program) k ≡ Some planned → IsCovered (mode_stock task isas planned.mode) job planned.choice
  covered k job planned e f =
      job_covered task p.checked isas planned.mode k job (job_model_there k job e) planned.choice
      (planned_at (mode_stock task isas) (IsUsable task.netlist isas) (task_jobs task) (plans_in program) k job planned p.plans (job_model_there k job e) f).chosen

  -- a cover by the list of its mode
  pub emitted_covers : (k : ℕ) (job : JobModel) (planned : PlanModel) (forms : Forms) → slice_get (jobs_in program) k ≡ Some job → slice_get (plans_in program) k ≡ Some planned → slice_get modes.forms.now planned.mode ≡ Some forms
      → Covers (stock_with forms.list.items program.temps forms.file) job.destination job.trees planned.choice
  emitted_covers k job planned forms e f at =
      subst (λ (stock : StockModel). Covers stock job.destination job.trees planned.choice)
      (sym (stock_is planned.mode (usable_within planned.mode (mode_usable k planned f))) ∙ ap (forms_stock program.temps) at) (covered k job planned e f).covers

  -- the form at the root of a cover is one of the list
  pub root_form : (k : ℕ) (job : JobModel) (planned : PlanModel) → slice_get (jobs_in program) k ≡ Some job → slice_get (plans_in program) k ≡ Some planned
      → slice_get (isas planned.mode).keeping (root_of planned.choice.cover) ≡ Some (cover_form (mode_stock task isas planned.mode) planned.choice.cover)
  root_form k job planned e f =
      let h : IsCovered (mode_stock task isas planned.mode) job planned.choice = covered k job planned e f in
      listed_root (mode_stock task isas planned.mode) job.destination h.covers.tree planned.choice.cover h.covers.orderly

  -- the registers that a branch's condition reads are those of the form at the root
  pub wanted_is : (k : ℕ) (job : JobModel) (planned : PlanModel) → slice_get (jobs_in program) k ≡ Some job → slice_get (plans_in program) k ≡ Some planned → job.destination ≡ tested → (forms : Forms) → slice_get modes.forms.now 0 ≡ Some forms
      → (machine : KnownMachine) → slice_get modes.machines.now 0 ≡ Some machine → (n : ℕ) → n < 2 ^ 16
      → ((model : FormModel) → slice_get (models_of_forms forms.list.items) (root_of planned.choice.cover) ≡ Some model → AreConditionReads (known_patterns machine) model.pattern n) → wanted (mode_stock task isas 0) tested (tree_used job planned.choice) planned.choice.cover ≡ regs_of n
  wanted_is k job planned e f goes forms at machine there n small is =
      let mode : planned.mode ≡ 0 = test_mode k job planned e f goes in
      let h : IsCovered (mode_stock task isas 0) job planned.choice = subst (λ v. IsCovered (mode_stock task isas v) job planned.choice) mode (covered k job planned e f) in
      let form = subst (λ v. slice_get (isas v).keeping (root_of planned.choice.cover) ≡ Some (cover_form (mode_stock task isas v) planned.choice.cover)) mode (root_form k job planned e f) in
      let tree : tree_used job planned.choice ≡ h.covers.tree = ap tree_or_none h.covers.used in
      ap (λ t. wanted (mode_stock task isas 0) tested t planned.choice.cover) tree
      ∙ wanted_registers task p.checked isas h.covers.tree planned.choice.cover (subst (λ (d : DestinationModel). IsOrderly (mode_stock task isas 0) d h.covers.tree true planned.choice.cover) goes h.covers.orderly)
      n small
      (subst (λ patterns. AreConditionReads patterns (cover_form (mode_stock task isas 0) planned.choice.cover).pattern n) (p.modes.patterns 0 machine there)
      (is (cover_form (mode_stock task isas 0) planned.choice.cover) (ap (λ (models : List FormModel). slice_get models (root_of planned.choice.cover)) (p.modes.forms 0 forms at) ∙ form)))

  -- ---- tests

  pub tests : AreFlowJobs (jobs_in program) program.flow.now
  tests =
      subst (λ (ws : List JobModel). AreFlowJobs ws program.flow.now) (sym p.jobs)
      (subst (λ (flow : List Flow). AreFlowJobs (task_jobs task) flow) (sym p.flow) p.checked.jobs.tests)

  pub test_job : (at tree when_one when_zero : ℕ) → slice_get program.flow.now at ≡ Some (Test tree when_one when_zero) → IsTestJob (jobs_in program) tree
  test_job at tree when_one when_zero e = tests_get (jobs_in program) program.flow.now at tree when_one when_zero tests e
