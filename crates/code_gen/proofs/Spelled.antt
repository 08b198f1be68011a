-- A task in another spelling is checked where its own is, and coded where that is.
use Rattle.std.proofs.Common.{◌≡◌, ℕ, zero, suc, ◌+◌, ◌<◌, ◌≤◌, ◌⊎◌, inl, inr, Bool, true, false, if◌then◌else◌, List, [], ◌∷◌, length, Some, refl, sym, ◌∙◌, ap, subst, arith, slice_get}
use Rattle.std.proofs.lemmas.Option.{slice_get_within}
use Rattle.rec_bits.proofs.Lists.{there}
use Rattle.form_model.specs.declared.flow.Flow.{Flow}
use Rattle.form_model.specs.declared.flow.Flow.TheVariants.{Assign, Test as Tested, Jump as Jumped, End as Ended}
use Rattle.form_model.specs.Forms.{DestinationModel, into, cell, filed, stored, temporary, tested}
use Rattle.mode_set.specs.Keeping.{Isas, IsUsable}
use Rattle.src_trees.specs.Flows.{program_flow}
use Rattle.src_trees.specs.Lowered.{JobModel}
use Rattle.src_trees.specs.Measures.{AllSmall, IsSmall}
use Rattle.src_trees.specs.Meant.{DoProgram}
use Rattle.src_trees.specs.Turned.{Turns, TurnsTests, jobs_of_told, turned_flow, turned_place}
use Rattle.respell.specs.Kept.{AreSpelled, IsGain, KeepsOrGains}
use Rattle.respell.specs.Respelled.{AreRespelled, IsRespelled, IsSameDestination, StandsFor}
use Rattle.respell.proofs.RespelledPrograms.{program_told}
use Rattle.right_code.specs.Covered.{mode_stock}
use Rattle.right_code.specs.Jobs.{HasOne}
use Rattle.right_code.specs.Tasks.{HasJobs, IsChecked, Task, task_memory, task_temps}
use Rattle.right_code.specs.FlowJobs.{AllOne, AreFlowJobs, IsStoringJob, IsTestJob, node_limit}
use Rattle.code_model.specs.declared.image.Image.{Image}
use Rattle.code_model.specs.declared.image.Places.{Places}
use Rattle.code_model.specs.Right.{TracesRight}
use Rattle.compaction.specs.declared.machine.KnownMachine.{KnownMachine}
use Rattle.form_model.specs.declared.flow.Blocks.{Blocks}
use Rattle.mode_set.specs.Plans.{UsableAt, stock_at}
use Rattle.net_model.specs.declared.hardware.Netlist.{Netlist}
use Rattle.net_model.specs.Nets.{memory_width}
use Rattle.net_model.proofs.Bases.{base_of}
use Rattle.right_code.specs.Images.{IsRightImage}
use Rattle.src_model.specs.Trace.{strace}
use Rattle.src_trees.specs.Jobs.{models_of_jobs}
use Rattle.code_gen.specs.Inner.Imaged.{ArePlaces, IsCodedIn}
use Rattle.code_gen.specs.Inner.Planning.{AreTaskModes, HasModes}
use Rattle.code_gen.specs.Inner.Spelling.{AreBlocksIn, IsSpelledAs, IsSpelledFault, MaySpell}
use Rattle.code_gen.specs.Refusals.{HasSteps, IsCodeFault, IsFormless, IsJumpless, IsStepless}
use Rattle.code_gen.specs.declared.fault.CodeFault.{CodeFault}
use Rattle.code_gen.specs.declared.fault.CodeFault.TheVariants.{NoStep, NoJump, NoCover, NoReach, ImageFull, Memory}
use Rattle.code_gen.specs.Machines.{known_netlist}
use Rattle.code_gen.specs.Spelled.{IsPlain, IsRightByEqualTrees, IsSpelledTask, IsTunedFault, with_jobs}
use Rattle.code_gen.specs.declared.spelling.Spelling.{Spelling}
use Rattle.code_gen.specs.declared.spelling.Spelling.TheVariants.{Own, Equal}
use Rattle.code_gen.specs.declared.views.Modes.{Modes}
use Rattle.code_gen.proofs.Held.{can_within, told_stock}
use Rattle.code_gen.proofs.Spellings.{spelled_along}

module _ (task : Task) (checked : IsChecked task) (plain : IsPlain task) (spelled : Task) (s : IsSpelledTask task spelled) where
  abbrev width : ℕ
  width = task.width

  abbrev temps : ℕ
  temps = task_temps task

  -- what stands for a job
  abbrev Stays : ℕ → JobModel → JobModel → Type 0
  Stays k a b = KeepsOrGains (mode_stock task s.isas) (IsUsable task.netlist s.isas) width temps node_limit (s.turned k) a b

  stands : (t : Bool) (a b : JobModel) → KeepsOrGains (mode_stock task s.isas) (IsUsable task.netlist s.isas) width temps node_limit t a b → StandsFor width t a b
  stands t a b (inl kept) = inl kept
  stands t a b (inr gain) = inr gain.respelled

  are_respelled : AreRespelled width s.turned task.jobs s.jobs
  are_respelled = record { count = s.are.count; each = λ k a b ea eb. stands (s.turned k) a b (s.are.each k a b ea eb) }

  -- the job of a number, and what stands for it
  other_at : (k : ℕ) (a : JobModel) → slice_get task.jobs k ≡ Some a → (b : JobModel) × (slice_get s.jobs k ≡ Some b)
  other_at k a e = let within = slice_get_within task.jobs k a e in let same = s.are.count in there s.jobs k (omega (arith, within, same))

  own_at : (k : ℕ) (b : JobModel) → slice_get s.jobs k ≡ Some b → (a : JobModel) × (slice_get task.jobs k ≡ Some a)
  own_at k b e = let within = slice_get_within s.jobs k b e in let same = s.are.count in there task.jobs k (omega (arith, within, same))

  -- ---- destinations

  same_tested : (d e : DestinationModel) → IsSameDestination width d e → d ≡ tested → e ≡ tested
  same_tested (stored a) e h t = absurd (cc t)
  same_tested (cell a) e h t = absurd (cc t)
  same_tested (into a) e h t = absurd (cc t)
  same_tested filed e h t = absurd (cc t)
  same_tested temporary e h t = absurd (cc t)
  same_tested tested e h t = sym h

  tested_back : (d e : DestinationModel) → IsSameDestination width d e → e ≡ tested → d ≡ tested
  tested_back (stored a) (stored b) h t = absurd (cc t)
  tested_back (stored a) (cell b) h t = absurd h
  tested_back (stored a) (into b) h t = absurd h
  tested_back (stored a) filed h t = absurd h
  tested_back (stored a) temporary h t = absurd h
  tested_back (stored a) tested h t = absurd h
  tested_back (cell a) e h t = h ∙ t
  tested_back (into a) e h t = h ∙ t
  tested_back filed e h t = h ∙ t
  tested_back temporary e h t = h ∙ t
  tested_back tested e h t = refl

  tested_kept : (k : ℕ) (a b : JobModel) → Stays k a b → a.destination ≡ tested → b.destination ≡ tested
  tested_kept k a b (inl kept) t = ap (λ (w : JobModel). w.destination) kept.1 ∙ t
  tested_kept k a b (inr gain) t = same_tested a.destination b.destination gain.respelled.destination t

  storing_kept : (k : ℕ) (a b : JobModel) → Stays k a b → (a.destination ≡ tested → ⊥) → b.destination ≡ tested → ⊥
  storing_kept k a b (inl kept) not t = not (sym (ap (λ (w : JobModel). w.destination) kept.1) ∙ t)
  storing_kept k a b (inr gain) not t = not (tested_back a.destination b.destination gain.respelled.destination t)

  -- ---- jobs one by one

  one_of : (d : DestinationModel) (b : JobModel) (t : Bool) (a : JobModel) → IsRespelled width t a b → HasOne d b.trees
  one_of (stored x) b t a r = (r.tree, r.one)
  one_of (cell x) b t a r = (r.tree, r.one)
  one_of (into x) b t a r = (r.tree, r.one)
  one_of filed b t a r = (r.tree, r.one)
  one_of temporary b t a r = (r.tree, r.one)
  one_of tested b t a r = tt

  one_kept : (k : ℕ) (a b : JobModel) → Stays k a b → HasOne a.destination a.trees → HasOne b.destination b.trees
  one_kept k a b (inl kept) h = subst (λ (w : JobModel). HasOne w.destination w.trees) (sym kept.1) h
  one_kept k a b (inr gain) h = one_of b.destination b (s.turned k) a gain.respelled

  small_kept : (k : ℕ) (a b : JobModel) → Stays k a b → IsSmall width temps node_limit a → IsSmall width temps node_limit b
  small_kept k a b (inl kept) h = subst (IsSmall width temps node_limit) (sym kept.1) h
  small_kept k a b (inr gain) h = gain.small

  -- ---- and all of them, those from a number on

  abbrev Standing : ℕ → List JobModel → List JobModel → Type 0
  Standing k old new = (length new ≡ length old) × ((j : ℕ) (a b : JobModel) → slice_get old j ≡ Some a → slice_get new j ≡ Some b → Stays (k + j) a b)

  later : (k : ℕ) (a b : JobModel) (old new : List JobModel) → Standing k (a ∷ old) (b ∷ new) → Standing (suc k) old new
  later k a b old new h = (
    (let e = h.0 in omega (arith, e)),
    λ j x y ex ey. subst (λ n. Stays n x y) (omega arith) (h.1 (suc j) x y ex ey),
  )

  first : (k : ℕ) (a b : JobModel) (old new : List JobModel) → Standing k (a ∷ old) (b ∷ new) → Stays k a b
  first k a b old new h = subst (λ n. Stays n a b) (omega arith) (h.1 0 a b refl refl)

  all_one : (k : ℕ) (old new : List JobModel) → Standing k old new → AllOne old → AllOne new
  all_one k old [] h o = tt
  all_one k [] (b ∷ new) h o = absurd (let e = h.0 in omega (arith, e))
  all_one k (a ∷ old) (b ∷ new) h o = (one_kept k a b (first k a b old new h) o.0, all_one (suc k) old new (later k a b old new h) o.1)

  all_small : (k : ℕ) (old new : List JobModel) → Standing k old new → AllSmall width temps node_limit old → AllSmall width temps node_limit new
  all_small k old [] h o = tt
  all_small k [] (b ∷ new) h o = absurd (let e = h.0 in omega (arith, e))
  all_small k (a ∷ old) (b ∷ new) h o = (small_kept k a b (first k a b old new h) o.0, all_small (suc k) old new (later k a b old new h) o.1)

  whole : Standing 0 task.jobs s.jobs
  whole = (s.are.count, λ j a b ea eb. subst (λ n. Stays n a b) (omega arith) (s.are.each j a b ea eb))

  -- ---- the flow

  storing : (tree : ℕ) → IsStoringJob task.jobs tree → IsStoringJob s.jobs tree
  storing tree j =
      let o = other_at tree j.job j.at in
      record { job = o.0; at = o.1; destination = storing_kept tree j.job o.0 (s.are.each tree j.job o.0 j.at o.1) j.destination }

  testing : (tree : ℕ) → IsTestJob task.jobs tree → IsTestJob s.jobs tree
  testing tree j =
      let o = other_at tree j.job j.at in
      record { job = o.0; at = o.1; destination = tested_kept tree j.job o.0 (s.are.each tree j.job o.0 j.at o.1) j.destination }

  turned_test : (b : Bool) (tree one none : ℕ) (rest : List Flow) → IsTestJob s.jobs tree → AreFlowJobs s.jobs rest
      → AreFlowJobs s.jobs ((if b then Tested tree none one else Tested tree one none) ∷ rest)
  turned_test true tree one none rest j h = (j, h)
  turned_test false tree one none rest j h = (j, h)

  flow_jobs : (flow : List Flow) → AreFlowJobs task.jobs flow → AreFlowJobs s.jobs (turned_flow s.turned flow)
  flow_jobs [] h = tt
  flow_jobs (Assign tree ∷ rest) h = (storing tree h.0, flow_jobs rest h.1)
  flow_jobs (Tested tree one none ∷ rest) h = turned_test (s.turned tree) tree one none (turned_flow s.turned rest) (testing tree h.0) (flow_jobs rest h.1)
  flow_jobs (Jumped to ∷ rest) h = flow_jobs rest h
  flow_jobs (Ended ∷ rest) h = flow_jobs rest h

  -- a job that stores something is no turned test
  not_turned : (k : ℕ) (a b : JobModel) (t : Bool) → KeepsOrGains (mode_stock task s.isas) (IsUsable task.netlist s.isas) width temps node_limit t a b → (a.destination ≡ tested → ⊥) → t ≡ false
  not_turned k a b t (inl kept) not = kept.0
  not_turned k a b true (inr gain) not = absurd (not gain.respelled.spelled.0)
  not_turned k a b false (inr gain) not = refl

  assign_job : (flow : List Flow) (at tree : ℕ) → AreFlowJobs task.jobs flow → slice_get flow at ≡ Some (Assign tree) → IsStoringJob task.jobs tree
  assign_job [] at tree h e = absurd (cc e)
  assign_job (Assign t ∷ rest) zero tree h e = subst (IsStoringJob task.jobs) (same t tree e) h.0
    where
      same : (x y : ℕ) → Some (Assign x) ≡ Some (Assign y) → x ≡ y
      same x y e = cc
  assign_job (Tested t a b ∷ rest) zero tree h e = absurd (cc e)
  assign_job (Jumped to ∷ rest) zero tree h e = absurd (cc e)
  assign_job (Ended ∷ rest) zero tree h e = absurd (cc e)
  assign_job (Assign t ∷ rest) (suc at) tree h e = assign_job rest at tree h.1 e
  assign_job (Tested t a b ∷ rest) (suc at) tree h e = assign_job rest at tree h.1 e
  assign_job (Jumped to ∷ rest) (suc at) tree h e = assign_job rest at tree h e
  assign_job (Ended ∷ rest) (suc at) tree h e = assign_job rest at tree h e

  only : TurnsTests s.turned task.flow
  only at tree e =
      let j = assign_job task.flow at tree checked.jobs.tests e in
      let o = other_at tree j.job j.at in
      not_turned tree j.job o.0 (s.turned tree) (s.are.each tree j.job o.0 j.at o.1) j.destination

  -- ---- the task

  spelled_jobs : HasJobs (with_jobs task (turned_flow s.turned task.flow) s.jobs)
  spelled_jobs = record {
    held = checked.jobs.held;
    room = checked.jobs.room;
    turned = s.turned;
    only = subst (TurnsTests s.turned) plain.flow only;
    flow = ap (turned_flow s.turned) plain.flow;
    meant = program_told (task_memory task) temps task.program s.turned task.jobs s.jobs are_respelled plain.meant;
    count = s.are.count ∙ checked.jobs.count;
    one = all_one 0 task.jobs s.jobs whole checked.jobs.one;
    tests = flow_jobs task.flow checked.jobs.tests;
    small = all_small 0 task.jobs s.jobs whole checked.jobs.small;
  }

  pub spelled_checked : IsChecked spelled
  spelled_checked =
      subst IsChecked (sym s.is)
      (record { netlist = checked.netlist; program = checked.program; words = checked.words; jobs = spelled_jobs })

-- ---- coded

-- what the code is told of a netlist doesn't speak of the jobs
told_with : (modes : Modes) (marks : List Bool) (task : Task) (flow : List Flow) (jobs : List JobModel) → HasModes modes marks task → HasModes modes marks (with_jobs task flow jobs)
told_with modes marks task flow jobs h = record {
  isas = h.isas;
  are = record {
    special = h.are.special;
    machines = h.are.machines;
    nets = h.are.nets;
    patterns = h.are.patterns;
    lists = h.are.lists;
    forms = h.are.forms;
    reach = h.are.reach;
    file = h.are.file;
    passages = h.are.passages;
  };
  long = h.long;
  usable = h.usable;
}

module _ (modes : Modes) (usable : List Bool) (places : Places) (blocks other : Blocks) (task : Task) (coded : IsCodedIn modes usable places blocks task) where
  -- the cells have a word's width
  cell_is : (machine : KnownMachine) → slice_get modes.machines.now 0 ≡ Some machine → memory_width (known_netlist machine).storages ≡ task.width
  cell_is machine at =
      ap (λ (n : Netlist). memory_width n.storages) (coded.told.are.nets 0 machine at)
      ∙ ap memory_width (base_of task.netlist task.netlist.special 0).storages ∙ coded.checked.words

  equal_spelled : IsPlain task → AreBlocksIn Equal modes usable places.temps blocks other → (spelled : Task) × IsSpelledTask task spelled × IsCodedIn modes usable places other spelled
  equal_spelled plain (turned, machine, at, are, flow) =
      let isas = coded.told.isas in
      let jobs = models_of_jobs other.jobs.items in
      let by_places = subst (λ n. AreSpelled (stock_at modes.forms.now places.temps) (UsableAt usable) n places.temps node_limit turned (models_of_jobs blocks.jobs.items) jobs) (cell_is machine at) are in
      let by_forms =
      spelled_along (stock_at modes.forms.now places.temps) (mode_stock task isas) (UsableAt usable) (IsUsable task.netlist isas) (λ v. (coded.told.usable v).0) (λ v. (coded.told.usable v).1)
      (λ v can. told_stock modes task isas coded.told.are places.temps coded.placed.temps v (can_within task.netlist (λ u. (isas u).all) v ((coded.told.usable v).0 can)))
      task.width places.temps node_limit turned (models_of_jobs blocks.jobs.items) jobs by_places in
      let by_task =
      subst (λ n. AreSpelled (mode_stock task isas) (IsUsable task.netlist isas) task.width n node_limit turned (models_of_jobs blocks.jobs.items) jobs) coded.placed.temps by_forms in
      let is : IsSpelledTask task (with_jobs task (turned_flow turned task.flow) jobs) = record {
        isas = isas;
        turned = turned;
        jobs = jobs;
        are = subst (λ (ws : List JobModel). AreSpelled (mode_stock task isas) (IsUsable task.netlist isas) task.width (task_temps task) node_limit turned ws jobs) coded.jobs by_task;
        is = refl;
      } in (
        with_jobs task (turned_flow turned task.flow) jobs,
        is,
        record {
          told = told_with modes usable task (turned_flow turned task.flow) jobs coded.told;
          steps = coded.steps;
          jumps = coded.jumps;
          checked = spelled_checked task coded.checked plain (with_jobs task (turned_flow turned task.flow) jobs) is;
          placed = record { temps = coded.placed.temps; list = coded.placed.list };
          flow = flow ∙ ap (turned_flow turned) coded.flow;
          jobs = refl;
        },
      )

  pub spelled_coded : (spelling : Spelling) → MaySpell spelling task → AreBlocksIn spelling modes usable places.temps blocks other
      → (spelled : Task) × IsSpelledAs spelling task spelled × IsCodedIn modes usable places other spelled
  spelled_coded Own may are = (task, refl, subst (λ (b : Blocks). IsCodedIn modes usable places b task) (sym are) coded)
  spelled_coded Equal may are = equal_spelled may are

-- a task in another spelling is one on the same netlist
pub spelled_netlist : (spelling : Spelling) (task spelled : Task) → IsSpelledAs spelling task spelled → spelled.netlist ≡ task.netlist
spelled_netlist Own task spelled is = ap (λ (t : Task). t.netlist) is
spelled_netlist Equal task spelled is = ap (λ (t : Task). t.netlist) is.is

-- right code for the task in another spelling traces the program
pub right_by_equal : (task spelled : Task) (image : Image) → IsSpelledTask task spelled → IsRightImage spelled image → IsRightByEqualTrees task image
right_by_equal task spelled image is right = record {
  spelled = spelled;
  is = is;
  made = right.made;
  traces = subst (λ (t : Task). TracesRight t.netlist image (strace t.width t.program)) is.is right.traces;
}

-- ---- refusals

module _ (spelling : Spelling) (task spelled : Task) (is : IsSpelledAs spelling task spelled) where
  steps_of : HasSteps spelled → HasSteps task
  steps_of h = record { steps = λ stepless. h.steps (subst IsStepless (sym (spelled_netlist spelling task spelled is)) stepless) }

  pub fault_so : (fault : CodeFault) → IsCodeFault spelled fault → IsSpelledFault spelling fault task
  fault_so NoStep h = subst IsStepless (spelled_netlist spelling task spelled is) h
  fault_so NoJump h = (steps_of h.0, subst IsJumpless (spelled_netlist spelling task spelled is) h.1)
  fault_so Memory h = tt
  fault_so (NoCover number) h = record { spelled = spelled; is = is; said = h }
  fault_so (NoReach bound reach) h = record { spelled = spelled; is = is; said = h }
  fault_so (ImageFull len size bound) h = record { spelled = spelled; is = is; said = h }

-- a netlist of whose forms no code can be made
pub formless_so : (spelling : Spelling) (task : Task) (fault : CodeFault) → IsFormless task.netlist fault → IsSpelledFault spelling fault task
formless_so spelling task NoStep h = h
formless_so spelling task NoJump h = (record { steps = h.0 }, h.1)
formless_so spelling task Memory h = tt
formless_so spelling task (NoCover number) h = absurd h
formless_so spelling task (NoReach b r) h = absurd h
formless_so spelling task (ImageFull l s b) h = absurd h

-- the refusals of the task's own spelling, and of equal trees
pub own_fault : (task : Task) (fault : CodeFault) → IsSpelledFault Own fault task → IsCodeFault task fault
own_fault task NoStep h = h
own_fault task NoJump h = h
own_fault task Memory h = tt
own_fault task (NoCover number) h = subst (λ (t : Task). IsCodeFault t (NoCover number)) h.is h.said
own_fault task (NoReach bound reach) h = subst (λ (t : Task). IsCodeFault t (NoReach bound reach)) h.is h.said
own_fault task (ImageFull len size bound) h = subst (λ (t : Task). IsCodeFault t (ImageFull len size bound)) h.is h.said

pub tuned_fault : (task : Task) (fault : CodeFault) → IsSpelledFault Equal fault task → IsTunedFault task fault
tuned_fault task NoStep h = h
tuned_fault task NoJump h = h
tuned_fault task Memory h = tt
tuned_fault task (NoCover number) h = record { spelled = h.spelled; is = h.is; said = h.said }
tuned_fault task (NoReach bound reach) h = record { spelled = h.spelled; is = h.is; said = h.said }
tuned_fault task (ImageFull len size bound) h = record { spelled = h.spelled; is = h.is; said = h.said }
