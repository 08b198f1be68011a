-- What a netlist is told in its modes, from the code's lists of machines and forms; and plans by these
-- lists, which are plans by what is told.
use Rattle.std.proofs.Common.{◌≡◌, ◌<◌, ◌↔◌, ℕ, zero, suc, Bool, List, [], ◌∷◌, length, map, Option, Some, sym, ◌∙◌, ap, subst, slice_get, arith}
use Rattle.std.proofs.lemmas.Bool.{ltb-true}
use Rattle.std.proofs.lemmas.Option.{slice_get_within}
use Rattle.rec_bits.proofs.Options.{same_Some}
use Rattle.rec_bits.proofs.Lists.{there}
use Rattle.net_model.specs.declared.hardware.Netlist.{Netlist}
use Rattle.net_model.specs.ModeRules.{base_at, modes_in}
use Rattle.net_model.specs.Exprs.{ExprModel}
use Rattle.net_model.proofs.ModeFaults.{some_modes}
use Rattle.src_model.specs.Rules.{temp_count}
use Rattle.code_model.specs.declared.image.Places.{Places}
use Rattle.form_model.specs.declared.flow.Blocks.{Blocks}
use Rattle.form_model.specs.declared.forms.Forms.{Forms}
use Rattle.form_model.specs.declared.trees.Job.{Job}
use Rattle.form_model.specs.Covers.{JobCoverModel, Covers, IsChosen, StockModel}
use Rattle.form_model.specs.Forms.{DestinationModel, FormModel, models_of_forms}
use Rattle.form_set.specs.Listing.{greatest_reach}
use Rattle.mode_set.specs.declared.plans.Plan.{Plan}
use Rattle.mode_set.specs.Costs.{CoversIn, IsPlanned, PlanModel}
use Rattle.mode_set.specs.Keeping.{CanPut, CanUse, Isa, Isas, IsUsable, held}
use Rattle.mode_set.specs.ModeWords.{IsModeWord}
use Rattle.mode_set.specs.Plans.{UsableAt, model_of_plan, stock_at}
use Rattle.src_trees.specs.Jobs.{models_of_jobs}
use Rattle.src_trees.specs.Lowered.{JobModel}
use Rattle.right_code.specs.Covered.{AllPlanned, HasCover, IsFirstBare, mode_stock, plan_costs}
use Rattle.right_code.specs.Tasks.{IsChecked, Task, task_jobs}
use Rattle.code_gen.specs.declared.fault.CodeFault.{CodeFault}
use Rattle.code_gen.specs.declared.fault.CodeFault.TheVariants.{NoStep, NoJump, NoCover, NoReach, ImageFull, Memory}
use Rattle.code_gen.specs.declared.modes.FormsByMode.{FormsByMode}
use Rattle.compaction.specs.declared.machine.KnownMachine.{KnownMachine}
use Rattle.code_gen.specs.declared.views.Modes.{Modes}
use Rattle.code_gen.specs.declared.views.Passage.{Passage}
use Rattle.code_gen.specs.declared.views.PlannedProgram.{PlannedProgram}
use Rattle.code_gen.specs.Machines.{known_patterns}
use Rattle.code_gen.specs.Inner.Planning.{AreFormsBelow, AreFormsIn, AreMachinesOf, AreTaskModes, ArePassages, HasModes, IsPassage, IsPlanning, all_forms, all_form_models, plans_in, forms_or_none, told_costs}
use Rattle.code_gen.specs.Inner.Imaged.{IsCodedIn}
use Rattle.code_gen.specs.Inner.Uncovered.{IsUncovered}
use Rattle.code_gen.specs.Refusals.{HasJumps, IsCodeFault, IsFormless, IsJumpless, IsStepless}
use Rattle.code_gen.proofs.Held.{can_within, held_is, held_small, told_stock}

-- ---- instruction sets

module _ (netlist : Netlist) (machines : List KnownMachine) (list : FormsByMode) (are : AreMachinesOf machines netlist) (forms : AreFormsBelow netlist machines (modes_in netlist) list) where
  -- what stands in the lists for a mode
  record IsThere (v : ℕ) : Type 0 where
    machine : KnownMachine
    all : Forms
    kept : Forms
    machine_at : slice_get machines v ≡ Some machine
    all_at : slice_get (all_forms netlist.special list) v ≡ Some all
    kept_at : slice_get list.kept.items v ≡ Some kept
    own : AreFormsIn netlist v machine all kept

  is_there : (v : ℕ) → v < modes_in netlist → IsThere v
  is_there v lt =
      let m = there machines v (let long = are.long in omega (arith, lt, long)) in
      let a = there (all_forms netlist.special list) v (let long = forms.all in omega (arith, lt, long)) in
      let k = there list.kept.items v (let long = forms.kept in omega (arith, lt, long)) in
      record { machine = m.0; all = a.0; kept = k.0; machine_at = m.1; all_at = a.1; kept_at = k.1; own = forms.each v m.0 a.0 k.0 lt m.1 a.1 k.1 }

  isa_of : (v : ℕ) → IsThere v → Isa netlist v
  isa_of v t = record {
    patterns = known_patterns t.machine;
    are = are.patterns v t.machine t.machine_at;
    all = models_of_forms t.all.list.items;
    most = t.all.reach;
    forms = t.own.forms;
    keeping = models_of_forms t.kept.list.items;
    kept = t.own.keeping;
  }

  pub own_isas : Isas netlist
  own_isas v = isa_of (held netlist v) (is_there (held netlist v) (held_small netlist v))

  -- ---- they say what the lists do

  machine_small : (v : ℕ) (machine : KnownMachine) → slice_get machines v ≡ Some machine → v < modes_in netlist
  machine_small v machine at = let lt = slice_get_within machines v machine at in let long = are.long in omega (arith, lt, long)

  kept_small : (v : ℕ) (kept : Forms) → slice_get list.kept.items v ≡ Some kept → v < modes_in netlist
  kept_small v kept at = let lt = slice_get_within list.kept.items v kept at in let long = forms.kept in omega (arith, lt, long)

  one_at : {X : Type 0} (xs : List X) (v : ℕ) (x y : X) → v < modes_in netlist → slice_get xs v ≡ Some x → slice_get xs (held netlist v) ≡ Some y → x ≡ y
  one_at xs v x y lt e f = same_Some x y (sym e ∙ ap (slice_get xs) (sym (held_is netlist v lt)) ∙ f)

  patterns_are : (v : ℕ) (machine : KnownMachine) → slice_get machines v ≡ Some machine → known_patterns machine ≡ (own_isas v).patterns
  unfolding own_isas is_there isa_of
  patterns_are v machine at =
      let t : IsThere (held netlist v) = is_there (held netlist v) (held_small netlist v) in
      ap known_patterns (one_at machines v machine t.machine (machine_small v machine at) at t.machine_at)

  pub forms_are : (v : ℕ) (kept : Forms) → slice_get list.kept.items v ≡ Some kept → models_of_forms kept.list.items ≡ (own_isas v).keeping
  unfolding own_isas is_there isa_of
  forms_are v kept at =
      let t : IsThere (held netlist v) = is_there (held netlist v) (held_small netlist v) in
      ap (λ (f : Forms). models_of_forms f.list.items) (one_at list.kept.items v kept t.kept (kept_small v kept at) at t.kept_at)

  all_are : (v : ℕ) → v < modes_in netlist → (own_isas v).all ≡ all_form_models netlist list v
  unfolding own_isas is_there isa_of
  all_are v lt =
      let t : IsThere (held netlist v) = is_there (held netlist v) (held_small netlist v) in
      sym (ap forms_or_none (ap (slice_get (all_forms netlist.special list)) (sym (held_is netlist v lt)) ∙ t.all_at))

  own_forms : (v : ℕ) (kept : Forms) → slice_get list.kept.items v ≡ Some kept → (machine : KnownMachine) × (all : Forms) × AreFormsIn netlist v machine all kept
  own_forms v kept at =
      let t : IsThere v = is_there v (kept_small v kept at) in
      (t.machine, t.all, subst (AreFormsIn netlist v t.machine t.all) (same_Some t.kept kept (sym t.kept_at ∙ at)) t.own)

  reach_are : (v : ℕ) (kept : Forms) → slice_get list.kept.items v ≡ Some kept → kept.reach ≡ greatest_reach (own_isas v).keeping
  reach_are v kept at = (own_forms v kept at).2.reach ∙ ap greatest_reach (forms_are v kept at)

  -- the same modes can be used
  can_along : (a b : ℕ → List FormModel) → ((v : ℕ) → v < modes_in netlist → a v ≡ b v) → (v : ℕ) → CanUse netlist a v → CanUse netlist b v
  can_along a b same zero c = tt
  can_along a b same (suc v) c = (
    c.0,
    subst (λ (models : List FormModel). CanPut netlist.special models (suc v)) (same 0 (some_modes netlist)) c.1,
    subst (λ (models : List FormModel). CanPut netlist.special models 0) (same (suc v) (ltb-true (suc v) (modes_in netlist) c.0)) c.2,
  )

  pub told_usable : (v : ℕ) → IsUsable netlist own_isas v → CanUse netlist (all_form_models netlist list) v
  told_usable = can_along (λ v. (own_isas v).all) (all_form_models netlist list) all_are

  pub usable_told : (v : ℕ) → CanUse netlist (all_form_models netlist list) v → IsUsable netlist own_isas v
  usable_told = can_along (all_form_models netlist list) (λ v. (own_isas v).all) (λ v lt. sym (all_are v lt))

  -- ---- the words into modes and back

  word_moved : (v to number word : ℕ) (machine : KnownMachine) → slice_get machines v ≡ Some machine → IsModeWord (base_at netlist v) netlist.special (known_patterns machine) (all_form_models netlist list v) to number word
      → IsModeWord (base_at netlist v) netlist.special (own_isas v).patterns (own_isas v).all to number word
  word_moved v to number word machine at w =
      subst (λ patterns. IsModeWord (base_at netlist v) netlist.special patterns (own_isas v).all to number word) (patterns_are v machine at)
      (subst (λ (models : List FormModel). IsModeWord (base_at netlist v) netlist.special (known_patterns machine) models to number word) (sym (all_are v (machine_small v machine at))) w)

  own_passages : (words : List (Option Passage)) → ArePassages netlist machines list words → (v : ℕ) → IsUsable netlist own_isas (suc v)
      → (passage : Passage) × (slice_get words (suc v) ≡ Some (Some passage)) × IsPassage netlist own_isas (suc v) passage
  own_passages words passages v can =
      let h = passages v (told_usable (suc v) can) in
      let small : suc v < modes_in netlist = ltb-true (suc v) (modes_in netlist) can.0 in
      let zeroth : IsThere 0 = is_there 0 (some_modes netlist) in
      let own : IsThere (suc v) = is_there (suc v) small in (
        h.0,
        h.1,
        record {
          enter = word_moved 0 (suc v) h.0.enter.pattern h.0.enter.word zeroth.machine zeroth.machine_at (h.2.enter zeroth.machine zeroth.machine_at);
          leave = word_moved (suc v) 0 h.0.leave.pattern h.0.leave.word own.machine own.machine_at (h.2.leave own.machine own.machine_at);
        },
      )

-- what is told of mode 0 by the first forms of the list
pub first_told : (netlist : Netlist) (machines : List KnownMachine) (list : FormsByMode) → AreMachinesOf machines netlist → (n : ℕ) → AreFormsBelow netlist machines n list → n ≡ length machines → (kept : Forms)
    → slice_get list.kept.items 0 ≡ Some kept → (isa : Isa netlist 0) × (models_of_forms kept.list.items ≡ isa.keeping)
first_told netlist machines list are n forms all kept at =
    let below : AreFormsBelow netlist machines (modes_in netlist) list = subst (λ m. AreFormsBelow netlist machines m list) (all ∙ are.long) forms in
    (own_isas netlist machines list are below 0, forms_are netlist machines list are below 0 kept at)

-- the code is told what these instruction sets say
pub told_modes : (task : Task) (modes : Modes) (machines : List KnownMachine) (list : FormsByMode) (words : List (Option Passage)) (are : AreMachinesOf machines task.netlist) (forms : AreFormsBelow task.netlist machines (modes_in task.netlist) list)
    → modes.machines.now ≡ machines → modes.forms.now ≡ list.kept.items → modes.special ≡ task.netlist.special → modes.passages.now ≡ words → ArePassages task.netlist machines list words
    → AreTaskModes modes task (own_isas task.netlist machines list are forms)
told_modes task modes machines list words are forms as_machines as_forms special as_words passages = record {
  special = special;
  machines = ap (λ (ms : List KnownMachine). length ms) as_machines ∙ are.long;
  nets = λ v machine at. are.nets v machine (ap (λ (ms : List KnownMachine). slice_get ms v) (sym as_machines) ∙ at);
  patterns = λ v machine at. patterns_are task.netlist machines list are forms v machine (ap (λ (ms : List KnownMachine). slice_get ms v) (sym as_machines) ∙ at);
  lists = ap (λ (fs : List Forms). length fs) as_forms ∙ forms.kept;
  forms = λ v f at. forms_are task.netlist machines list are forms v f (ap (λ (fs : List Forms). slice_get fs v) (sym as_forms) ∙ at);
  reach = λ v f at. reach_are task.netlist machines list are forms v f (ap (λ (fs : List Forms). slice_get fs v) (sym as_forms) ∙ at);
  file = λ v f at. (own_forms task.netlist machines list are forms v f (ap (λ (fs : List Forms). slice_get fs v) (sym as_forms) ∙ at)).2.file;
  passages = λ v can.
      (let h = own_passages task.netlist machines list are forms words passages v can in
      (h.0, ap (λ (ws : List (Option Passage)). slice_get ws (suc v)) as_words ∙ h.1, h.2));
}

-- and which modes can be used
pub has_modes : (task : Task) (modes : Modes) (machines : List KnownMachine) (list : FormsByMode) (words : List (Option Passage)) (are : AreMachinesOf machines task.netlist) (forms : AreFormsBelow task.netlist machines (modes_in task.netlist) list)
    → modes.machines.now ≡ machines → modes.forms.now ≡ list.kept.items → modes.special ≡ task.netlist.special → modes.passages.now ≡ words → ArePassages task.netlist machines list words
    → (usable : List Bool) → length usable ≡ modes_in task.netlist → ((v : ℕ) → UsableAt usable v ↔ CanUse task.netlist (all_form_models task.netlist list) v) → HasModes modes usable task
has_modes task modes machines list words are forms as_machines as_forms special as_words passages usable long can = record {
  isas = own_isas task.netlist machines list are forms;
  are = told_modes task modes machines list words are forms as_machines as_forms special as_words passages;
  long = long ∙ sym forms.kept ∙ sym (ap (λ (fs : List Forms). length fs) as_forms);
  usable = λ v. (
    λ at. usable_told task.netlist machines list are forms v ((can v).0 at),
    λ u. (can v).1 (told_usable task.netlist machines list are forms v u),
  );
}

-- ---- plans by forms that are the same in each mode that can be used

module _ (a b : ℕ → StockModel) (A B : ℕ → Type 0) (to : (v : ℕ) → A v → B v) (back : (v : ℕ) → B v → A v) (same : (v : ℕ) → A v → a v ≡ b v) where
  covers_along : (destination : DestinationModel) (trees : List ExprModel) (v : ℕ) (choice : JobCoverModel) → CoversIn a A destination trees v choice → CoversIn b B destination trees v choice
  covers_along destination trees v choice c =
      record { can = to v c.can; may = c.may; covers = subst (λ (stock : StockModel). Covers stock destination trees choice) (same v c.can) c.covers }

  covers_back : (destination : DestinationModel) (trees : List ExprModel) (v : ℕ) (choice : JobCoverModel) → CoversIn b B destination trees v choice → CoversIn a A destination trees v choice
  covers_back destination trees v choice c =
      record { can = back v c.can; may = c.may; covers = subst (λ (stock : StockModel). Covers stock destination trees choice) (sym (same v (back v c.can))) c.covers }

  pub planned_along : (destination : DestinationModel) (trees : List ExprModel) (planned : PlanModel) → IsPlanned a A destination trees planned → IsPlanned b B destination trees planned
  planned_along destination trees planned p = record {
    can = to planned.mode p.can;
    may = p.may;
    chosen = subst (λ (stock : StockModel). IsChosen stock destination trees planned.choice) (same planned.mode p.can) p.chosen;
    least = λ v other c. p.least v other (covers_back destination trees v other c);
  }

  all_along : (jobs : List JobModel) (plans : List PlanModel) → AllPlanned a A jobs plans → AllPlanned b B jobs plans
  all_along [] [] h = tt
  all_along [] (d ∷ plans) h = absurd h
  all_along (w ∷ jobs) [] h = absurd h
  all_along (w ∷ jobs) (d ∷ plans) h = (planned_along w.destination w.trees d h.0, all_along jobs plans h.1)

  bare_along : (jobs : List JobModel) (number : ℕ) → IsFirstBare a A jobs number → IsFirstBare b B jobs number
  bare_along jobs number h = record {
    job = h.job;
    at = h.at;
    none = record { none = λ v choice c. h.none.none v choice (covers_back h.job.destination h.job.trees v choice c) };
    earlier = λ k other lt e.
        (let c : HasCover a A other = h.earlier k other lt e in
        record { mode = c.mode; choice = c.choice; covers = covers_along other.destination other.trees c.mode c.choice c.covers });
  }

-- ---- the task of a program

-- what the refusals for want of forms leave
pub has_jumps : (task : Task) → (IsStepless task.netlist → ⊥) → (IsJumpless task.netlist → ⊥) → HasJumps task
has_jumps task steps jumps = record { steps = record { steps = steps }; jumps = jumps }

module _ (modes : Modes) (task : Task) (isas : Isas task.netlist) (checked : IsChecked task) (told : AreTaskModes modes task isas) (temps : ℕ) (cells : temps ≡ temp_count task.width task.program)
    (usable : List Bool) (can : (v : ℕ) → UsableAt usable v ↔ IsUsable task.netlist isas v) where
  same_stock : (v : ℕ) → UsableAt usable v → stock_at modes.forms.now temps v ≡ mode_stock task isas v
  same_stock v at = told_stock modes task isas told temps cells v (can_within task.netlist (λ u. (isas u).all) v ((can v).0 at))

  -- what was made of a checked task's jobs is planned for the task
  pub task_planning : (program : PlannedProgram) (jobs : List Job) (plans : List Plan) → program.temps ≡ temps → program.flow.now ≡ task.flow → program.jobs.now ≡ jobs → models_of_jobs jobs ≡ task_jobs task
      → program.plans.now ≡ plans → AllPlanned (stock_at modes.forms.now temps) (UsableAt usable) (models_of_jobs jobs) (map model_of_plan plans) → told_costs plans ≡ plan_costs (models_of_jobs jobs) (map model_of_plan plans)
      → IsPlanning modes program task isas
  task_planning program jobs plans own_temps flow jobs_are same plans_are planned costs = record {
    checked = checked;
    modes = told;
    temps = own_temps ∙ cells;
    flow = flow;
    jobs = ap models_of_jobs jobs_are ∙ same;
    plans =
        all_along (stock_at modes.forms.now temps) (mode_stock task isas) (UsableAt usable) (IsUsable task.netlist isas) (λ v. (can v).0) (λ v. (can v).1) same_stock (task_jobs task) (plans_in program)
        (subst (λ (ws : List JobModel). AllPlanned (stock_at modes.forms.now temps) (UsableAt usable) ws (plans_in program)) same
        (subst (λ (ps : List Plan). AllPlanned (stock_at modes.forms.now temps) (UsableAt usable) (models_of_jobs jobs) (map model_of_plan ps)) (sym plans_are) planned));
    costs =
        subst (λ (js : List Job). told_costs program.plans.now ≡ plan_costs (models_of_jobs js) (plans_in program)) (sym jobs_are)
        (subst (λ (ps : List Plan). told_costs ps ≡ plan_costs (models_of_jobs jobs) (map model_of_plan ps)) (sym plans_are) costs);
  }

  -- a tree that has no cover
  pub uncovered : (IsStepless task.netlist → ⊥) → (IsJumpless task.netlist → ⊥) → (jobs : List JobModel) → jobs ≡ task_jobs task → (fault : CodeFault)
      → IsUncovered (stock_at modes.forms.now temps) (UsableAt usable) jobs fault → IsCodeFault task fault
  uncovered steps jumps jobs same (NoCover number) h = (
    has_jumps task steps jumps,
    record {
      isas = isas;
      bare = bare_along (stock_at modes.forms.now temps) (mode_stock task isas) (UsableAt usable) (IsUsable task.netlist isas) (λ v. (can v).0) (λ v. (can v).1) same_stock (task_jobs task) number
          (subst (λ (ws : List JobModel). IsFirstBare (stock_at modes.forms.now temps) (UsableAt usable) ws number) same h);
    },
  )
  uncovered steps jumps jobs same Memory h = tt
  uncovered steps jumps jobs same NoStep h = absurd h
  uncovered steps jumps jobs same NoJump h = absurd h
  uncovered steps jumps jobs same (NoReach b r) h = absurd h
  uncovered steps jumps jobs same (ImageFull l s b) h = absurd h

-- what was made of the jobs that were given for a task is planned for it
pub coded_planning : (modes : Modes) (usable : List Bool) (places : Places) (blocks : Blocks) (task : Task) (coded : IsCodedIn modes usable places blocks task) (program : PlannedProgram) (jobs : List Job) (plans : List Plan)
    → jobs ≡ blocks.jobs.items → program.temps ≡ places.temps → program.flow.now ≡ blocks.flow → program.jobs.now ≡ jobs → program.plans.now ≡ plans
    → AllPlanned (stock_at modes.forms.now places.temps) (UsableAt usable) (models_of_jobs jobs) (map model_of_plan plans) → told_costs plans ≡ plan_costs (models_of_jobs jobs) (map model_of_plan plans)
    → IsPlanning modes program task coded.told.isas
coded_planning modes usable places blocks task coded program jobs plans same temps flow jobs_are plans_are planned costs =
    task_planning modes task coded.told.isas coded.checked coded.told.are places.temps coded.placed.temps usable coded.told.usable
    program jobs plans temps (flow ∙ coded.flow) jobs_are (ap models_of_jobs same ∙ coded.jobs) plans_are planned costs

-- a netlist of whose forms no code can be made
pub formless_fault : (task : Task) (fault : CodeFault) → IsFormless task.netlist fault → IsCodeFault task fault
formless_fault task NoStep h = h
formless_fault task NoJump h = (record { steps = h.0 }, h.1)
formless_fault task Memory h = tt
formless_fault task (NoCover number) h = absurd h
formless_fault task (NoReach b r) h = absurd h
formless_fault task (ImageFull l s b) h = absurd h
