-- The steps and the words of a planned program's cuts and tests.
use Rattle.std.proofs.Common.{◌≡◌, ◌≢◌, ◌<◌, ◌≤◌, ◌+◌, ◌-◌, ◌^◌, ◌++◌, ℕ, zero, suc, List, [], ◌∷◌, Option, Some, length, slice_get, bit_or, refl, sym, ◌∙◌, ap, subst, append-nil, append_assoc, arith}
use Rattle.std.specs.Option.{unwrap_or}
use Rattle.rec_bits.proofs.Lists.{all_append, there as get_there}
use Rattle.rec_bits.proofs.Options.{same_Some}
use Rattle.bit_bdd.specs.Diagrams.{Diagrams}
use Rattle.net_model.specs.declared.hardware.Netlist.{Netlist}
use Rattle.net_model.specs.ModeRules.{base_at, modes_in}
use Rattle.net_model.specs.Nets.{file_place}
use Rattle.net_model.specs.Patterns.{Pattern}
use Rattle.net_model.proofs.ModeFaults.{some_modes}
use Rattle.form_model.specs.Covers.{StockModel, stock_with}
use Rattle.form_model.specs.Live.{Regs, no_regs, regs_of, singles}
use Rattle.form_model.specs.Forms.{FormModel, models_of_forms, tested}
use Rattle.form_model.specs.Steps.{branch_setting, cover_steps}
use Rattle.form_model.specs.declared.flow.Flow.{Flow}
use Rattle.form_model.specs.declared.forms.Forms.{Forms}
use Rattle.form_model.specs.declared.forms.Step.{Step}
use Rattle.compaction.specs.Laws.{operation_in}
use Rattle.compaction.specs.Words.{HaveWords}
use Rattle.compaction.specs.Lists.{EachHasPatternsOnce, HasPatternsOnce}
use Rattle.compaction.specs.Tables.{KnowsReads}
use Rattle.emit_seq.specs.Emits.{IsEmitted, branch_of}
use Rattle.emit_seq.specs.Spares.{wanted}
use Rattle.emit_seq.specs.declared.emits.Emitted.{Emitted}
use Rattle.live_sets.specs.Listed.{AreListed}
use Rattle.live_sets.proofs.Kept.{listed_of}
use Rattle.mode_set.specs.Costs.{PlanModel}
use Rattle.mode_set.specs.Keeping.{Isas, IsUsable}
use Rattle.mode_set.specs.ModeWords.{IsModeWord}
use Rattle.mode_set.specs.Plans.{forms_stock, stock_at}
use Rattle.src_trees.specs.Blocks.{job_at, jobs_at}
use Rattle.src_trees.specs.Lowered.{JobModel}
use Rattle.transfer_set.specs.Machines.{IsReadyFor}
use Rattle.word_fit.specs.Fits.{fits_over}
use Rattle.word_fit.specs.Groups.{AllHaveWords}
use Rattle.right_code.specs.Covered.{mode_stock}
use Rattle.right_code.specs.Cuts.{AreBlockCuts, AreCutWords, AreJobWords, Cut, cuts_of, plan_at, plan_choices, plans_at, with_mode}
use Rattle.right_code.specs.Forks.{cover_form}
use Rattle.right_code.specs.Jobs.{job_steps, jobs_steps, tree_or_none, tree_used}
use Rattle.right_code.specs.Tasks.{Task, task_jobs}
use Rattle.right_code.proofs.Chosen.{AllMode, own_net}
use Rattle.right_code.proofs.Right.{run_words_of, test_words_of}
use Rattle.right_code.proofs.Covering.{planned_length}
use Rattle.compaction.specs.declared.packer.PackedBlock.{PackedBlock}
use Rattle.compaction.specs.declared.machine.KnownMachine.{KnownMachine}
use Rattle.code_gen.specs.declared.views.Modes.{Modes}
use Rattle.code_gen.specs.declared.views.Passage.{Passage}
use Rattle.code_gen.specs.declared.views.PlannedProgram.{PlannedProgram}
use Rattle.code_gen.specs.Blocks.{IsOnce, IsPackedBlock}
use Rattle.code_gen.specs.Machines.{known_netlist, known_patterns}
use Rattle.code_gen.specs.Inner.Coded.{AddsCuts, AddsGroups, AddsPacked, AddsRun, AreCutsCoded, HaveWordsIn, IsTestCode, cuts_from, mode_group, no_block}
use Rattle.code_gen.specs.Inner.Planning.{AreReady, AreReadyAll, IsPassage, IsPlanning, planned_steps, plans_in, jobs_in}
use Rattle.code_gen.specs.Inner.Registers.{AreConditionReads}
use Rattle.code_gen.specs.Inner.Views.{mode_bits, place_mode}
use Rattle.code_gen.proofs.ByMode.{books_long, ready_at}
use Rattle.code_gen.proofs.Cutting.{IsAway, StartsAway, alone_first, alone_words, away_place, jobs_apart, mode_steps, places_mode, plans_apart, starts_away, zeros_first, zeros_words}
use Rattle.code_gen.proofs.Frames.{held_is, machine_there, machine_within, mode_usable, net_is, root_form, root_of, stock_is, test_mode, usable_within, wanted_is}
use Rattle.code_gen.proofs.ModeRegs.{mode_live, mode_with}
use Rattle.code_gen.proofs.Packing.{told_words}
use Rattle.code_gen.proofs.Stepping.{even_places}

-- ---- the same for the same netlist

abbrev HasWords : Netlist → List Pattern → List Step → Regs → Type 0
HasWords netlist patterns steps live =
    AllHaveWords (operation_in netlist patterns) (fits_over netlist (operation_in netlist patterns)) (singles steps) live

words_moved : (n m : Netlist) (p q : List Pattern) (xs ys : List Step) (a b : Regs) → n ≡ m → p ≡ q → xs ≡ ys → a ≡ b → HasWords n p xs a → HasWords m q ys b
words_moved n m p q xs ys a b e f g h have =
    subst (HasWords m q ys) h (subst (λ (steps : List Step). HasWords m q steps a) g (subst (λ (list : List Pattern). HasWords m list xs a) f (subst (λ (net : Netlist). HasWords net p xs a) e have)))

block_moved : (n m : Netlist) (p q : List Pattern) (xs ys : List Step) (a b : Regs) (block : PackedBlock) → n ≡ m → p ≡ q → xs ≡ ys → a ≡ b → IsPackedBlock n p xs a block → IsPackedBlock m q ys b block
block_moved n m p q xs ys a b block e f g h packed =
    subst (λ (live : Regs). IsPackedBlock m q ys live block) h
    (subst (λ (steps : List Step). IsPackedBlock m q steps a block) g (subst (λ (list : List Pattern). IsPackedBlock m list xs a block) f (subst (λ (net : Netlist). IsPackedBlock net p xs a block) e packed)))

module _ (modes : Modes) (program : PlannedProgram) (task : Task) (isas : Isas task.netlist) (p : IsPlanning modes program task isas) where
  pub even : length (plans_in program) ≡ length (jobs_in program)
  even = planned_length (mode_stock task isas) (IsUsable task.netlist isas) (task_jobs task) (plans_in program) p.plans ∙ ap (λ (jobs : List JobModel). length jobs) (sym p.jobs)

  -- the mode alone is live behind a cut
  pub live_is : regs_of (mode_bits modes.special) ≡ with_mode task.netlist.special no_regs
  live_is = mode_live modes.special ∙ ap (λ (o : Option ℕ). with_mode o no_regs) p.modes.special

  -- ---- neighbouring jobs of one mode

  module _ (v at n : ℕ) (lt : v < modes_in task.netlist) (all : AllMode v (plans_at program.flow.now (plans_in program) at n)) where
    abbrev run_jobs : List JobModel
    run_jobs = jobs_at program.flow.now (jobs_in program) at n

    abbrev run_plans : List PlanModel
    run_plans = plans_at program.flow.now (plans_in program) at n

    pub run_steps : planned_steps modes program.temps run_jobs run_plans ≡ jobs_steps (mode_stock task isas v) run_jobs (plan_choices run_plans)
    run_steps =
        mode_steps (stock_at modes.forms.now program.temps) v run_jobs run_plans all
        ∙ ap (λ (stock : StockModel). jobs_steps stock run_jobs (plan_choices run_plans)) (stock_is modes program task isas p v lt)

    pub run_words : HaveWordsIn modes v (planned_steps modes program.temps run_jobs run_plans)
    run_words machine there =
        words_moved (own_net task isas v) (known_netlist machine) (isas v).patterns (known_patterns machine)
        (jobs_steps (mode_stock task isas v) own_jobs (plan_choices own_plans)) (planned_steps modes program.temps run_jobs run_plans) (with_mode task.netlist.special no_regs) (regs_of (mode_bits modes.special))
        (sym (net_is modes program task isas p v machine lt there)) (sym (p.modes.patterns v machine there))
        ((λ i. jobs_steps (mode_stock task isas v) (jobs_at (sym p.flow i) (sym p.jobs i) at n) (plan_choices (plans_at (sym p.flow i) (plans_in program) at n))) ∙ sym run_steps) (sym live_is)
        (run_words_of task p.checked isas (plans_in program) p.plans v at n own_all (with_mode task.netlist.special no_regs) (λ r live. live))
      where
        own_jobs : List JobModel
        own_jobs = jobs_at task.flow (task_jobs task) at n

        own_plans : List PlanModel
        own_plans = plans_at task.flow (plans_in program) at n

        own_all : AllMode v own_plans
        own_all = subst (λ (flow : List Flow). AllMode v (plans_at flow (plans_in program) at n)) p.flow all

    -- what they are packed into is their code
    pub run_packed : (own : PackedBlock) → ((machine : KnownMachine) → slice_get modes.machines.now v ≡ Some machine → IsPackedBlock (known_netlist machine) (known_patterns machine) (planned_steps modes program.temps run_jobs run_plans) (regs_of (mode_bits modes.special)) own)
        → AreJobWords (own_net task isas v) task.netlist.special (isas v).patterns (mode_stock task isas v) run_jobs (plan_choices run_plans) own.groups own.words
    run_packed own each =
        let there = machine_there modes program task isas p v lt in
        let block : IsPackedBlock (own_net task isas v) (isas v).patterns (jobs_steps (mode_stock task isas v) run_jobs (plan_choices run_plans)) (with_mode task.netlist.special no_regs) own =
        block_moved (known_netlist there.0) (own_net task isas v) (known_patterns there.0) (isas v).patterns (planned_steps modes program.temps run_jobs run_plans) (jobs_steps (mode_stock task isas v) run_jobs (plan_choices run_plans))
        (regs_of (mode_bits modes.special)) (with_mode task.netlist.special no_regs) own (net_is modes program task isas p v there.0 lt there.1) (p.modes.patterns v there.0 there.1) run_steps live_is (each there.0 there.1) in
        record { packing = block.packing; least = block.least }

  -- ---- the job at a place, of another mode

  module _ (at v : ℕ) (mode : place_mode program at ≡ suc v) where
    pub away : IsAway (jobs_in program) (plans_in program) (slice_get program.flow.now at) (suc v)
    away = away_place (jobs_in program) (plans_in program) (slice_get program.flow.now at) v even mode

    pub away_usable : IsUsable task.netlist isas (suc v)
    away_usable = subst (IsUsable task.netlist isas) away.mode (mode_usable modes program task isas p away.number away.planned away.has_plan)

    pub away_within : suc v < modes_in task.netlist
    away_within = usable_within modes program task isas p (suc v) away_usable

    pub one_mode : AllMode (suc v) (plans_at program.flow.now (plans_in program) at 1)
    one_mode = places_mode (suc v) (plans_in program) program.flow.now at 1 (λ k lt. ap (place_mode program) (let z : at + k ≡ at = omega (arith, lt) in z) ∙ mode)

    pub away_passage : (passage : Passage) × (slice_get modes.passages.now (suc v) ≡ Some (Some passage))
    away_passage = let known = p.modes.passages v away_usable in (known.0, known.1)

    -- between the words of its passage
    pub away_cut : (passage : Passage) → slice_get modes.passages.now (suc v) ≡ Some (Some passage) → (groups : List (List Step)) (words : List ℕ)
        → AreJobWords (own_net task isas (suc v)) task.netlist.special (isas (suc v)).patterns (mode_stock task isas (suc v)) (jobs_at program.flow.now (jobs_in program) at 1) (plan_choices (plans_at program.flow.now (plans_in program) at 1)) groups words
        → AreCutWords task isas (suc v) (jobs_at program.flow.now (jobs_in program) at 1) (plan_choices (plans_at program.flow.now (plans_in program) at 1))
        (mode_group passage.enter ∷ (groups ++ mode_group passage.leave ∷ [])) (passage.enter.word ∷ (words ++ passage.leave.word ∷ []))
    away_cut passage there groups words job =
        let known = p.modes.passages v away_usable in
        let same : known.0 ≡ passage = one_passage known.0 passage (sym known.1 ∙ there) in
        let is : IsPassage task.netlist isas (suc v) passage = subst (IsPassage task.netlist isas (suc v)) same known.2 in (
          away_usable.0,
          record { step = record { pattern = passage.enter.pattern; setting = 0 }; word = passage.enter.word },
          record { step = record { pattern = passage.leave.pattern; setting = 0 }; word = passage.leave.word },
          groups,
          words,
          refl,
          refl,
          is.enter,
          job,
          subst (λ n. IsModeWord (base_at task.netlist n) task.netlist.special (isas (suc v)).patterns (isas (suc v)).all 0 passage.leave.pattern passage.leave.word) (sym (held_is task.netlist (suc v) away_within)) is.leave,
        )
      where
        one_passage : (a b : Passage) → Some (Some a) ≡ Some (Some b) → a ≡ b
        one_passage a b e = cc

  -- ---- a test

  module _ (number : ℕ) (job : JobModel) (planned : PlanModel) (has_job : slice_get (jobs_in program) number ≡ Some job) (has_plan : slice_get (plans_in program) number ≡ Some planned) (goes : job.destination ≡ tested) where
    own_job : slice_get (task_jobs task) number ≡ Some job
    own_job = ap (λ (jobs : List JobModel). slice_get jobs number) (sym p.jobs) ∙ has_job

    -- its steps are those of a cover by the forms of mode 0
    pub test_steps : job_steps (stock_at modes.forms.now program.temps 0) job planned.choice ≡ job_steps (mode_stock task isas 0) job planned.choice
    test_steps = ap (λ (stock : StockModel). job_steps stock job planned.choice) (stock_is modes program task isas p 0 (some_modes task.netlist))

    -- what the branch reads and the mode are live behind them
    pub test_live : (read : ℕ) → wanted (mode_stock task isas 0) tested (tree_used job planned.choice) planned.choice.cover ≡ regs_of read
        → regs_of (bit_or read (mode_bits modes.special)) ≡ with_mode task.netlist.special (wanted (mode_stock task isas 0) tested (tree_used job planned.choice) planned.choice.cover)
    test_live read same = mode_with modes.special read ∙ (λ i. with_mode (p.modes.special i) (regs_of read)) ∙ ap (with_mode task.netlist.special) (sym same)

    pub test_words : (live : Regs) → live ≡ with_mode task.netlist.special (wanted (mode_stock task isas 0) tested (tree_used job planned.choice) planned.choice.cover) → (machine : KnownMachine) → slice_get modes.machines.now 0 ≡ Some machine
        → AllHaveWords (operation_in (known_netlist machine) (known_patterns machine)) (fits_over (known_netlist machine) (operation_in (known_netlist machine) (known_patterns machine)))
        (singles (job_steps (stock_at modes.forms.now program.temps 0) job planned.choice)) live
    test_words live same machine there =
        words_moved (own_net task isas 0) (known_netlist machine) (isas 0).patterns (known_patterns machine)
        (job_steps (mode_stock task isas 0) job planned.choice) (job_steps (stock_at modes.forms.now program.temps 0) job planned.choice) wants live
        (sym (p.modes.nets 0 machine there)) (sym (p.modes.patterns 0 machine there)) (sym test_steps) (sym same)
        (test_words_of task p.checked isas (plans_in program) p.plans number job planned own_job has_plan goes wants (λ r live. live))
      where
        wants : Regs
        wants = with_mode task.netlist.special (wanted (mode_stock task isas 0) tested (tree_used job planned.choice) planned.choice.cover)

    pub test_packed : (live : Regs) → live ≡ with_mode task.netlist.special (wanted (mode_stock task isas 0) tested (tree_used job planned.choice) planned.choice.cover) → (machine : KnownMachine) → slice_get modes.machines.now 0 ≡ Some machine
        → (own : PackedBlock) → IsPackedBlock (known_netlist machine) (known_patterns machine) (job_steps (stock_at modes.forms.now program.temps 0) job planned.choice) live own
        → IsPackedBlock (base_at task.netlist 0) (isas 0).patterns (job_steps (mode_stock task isas 0) job planned.choice)
        (with_mode task.netlist.special (wanted (mode_stock task isas 0) tested (tree_used job planned.choice) planned.choice.cover)) own
    test_packed live same machine there own packed =
        block_moved (known_netlist machine) (base_at task.netlist 0) (known_patterns machine) (isas 0).patterns
        (job_steps (stock_at modes.forms.now program.temps 0) job planned.choice) (job_steps (mode_stock task isas 0) job planned.choice) live
        (with_mode task.netlist.special (wanted (mode_stock task isas 0) tested (tree_used job planned.choice) planned.choice.cover)) own
        (p.modes.nets 0 machine there) (p.modes.patterns 0 machine there) test_steps same packed

    -- what is told of the forms and of the patterns of mode 0, and a set of the registers that the condition of the branch reads
    module _ (forms : Forms) (machine : KnownMachine) (here : slice_get modes.forms.now 0 ≡ Some forms) (there : slice_get modes.machines.now 0 ≡ Some machine)
        (n : ℕ) (small : n < 2 ^ 16) (reads : (form : FormModel) → slice_get (models_of_forms forms.list.items) (root_of planned.choice.cover) ≡ Some form → AreConditionReads (known_patterns machine) form.pattern n)
        (bits : ℕ) (same : bits ≡ mode_bits modes.special) where
      abbrev after : ℕ
      after = bit_or n bits

      told : stock_with forms.list.items program.temps forms.file ≡ stock_at modes.forms.now program.temps 0
      told = ap (forms_stock program.temps) (sym here)

      live : regs_of after ≡ with_mode task.netlist.special (wanted (mode_stock task isas 0) tested (tree_used job planned.choice) planned.choice.cover)
      live = ap (λ k. regs_of (bit_or n k)) same ∙ test_live n (wanted_is modes program task isas p number job planned has_job has_plan goes forms here machine there n small reads)

      module _ (e : Emitted) (is : IsEmitted (stock_with forms.list.items program.temps forms.file) job.destination job.trees planned.choice e)
          (list : List Step) (listed : list ≡ e.steps) where
        tree : is.tree ≡ tree_used job planned.choice
        tree = sym (ap tree_or_none is.used)

        steps : list ≡ job_steps (stock_at modes.forms.now program.temps 0) job planned.choice
        steps =
            listed
            ∙ is.steps
            ∙ ap (λ t. cover_steps (stock_with forms.list.items program.temps forms.file) job.destination t planned.choice.cover) tree
            ∙ ap (λ (stock : StockModel). job_steps stock job planned.choice) told

        pub emitted_words : AllHaveWords (operation_in (known_netlist machine) (known_patterns machine)) (fits_over (known_netlist machine) (operation_in (known_netlist machine) (known_patterns machine))) (singles list) (regs_of after)
        emitted_words =
            subst (λ (xs : List Step). AllHaveWords (operation_in (known_netlist machine) (known_patterns machine)) (fits_over (known_netlist machine) (operation_in (known_netlist machine) (known_patterns machine))) (singles xs) (regs_of after))
            (sym steps) (test_words (regs_of after) live machine there)

        pub emitted_code : (block : PackedBlock) → IsPackedBlock (known_netlist machine) (known_patterns machine) list (regs_of after) block
            → IsTestCode task isas job planned block (record { form = root_of planned.choice.cover; setting = unwrap_or e.branch 0 })
        emitted_code block packed = record {
          packed = test_packed (regs_of after) live machine there block (subst (λ (xs : List Step). IsPackedBlock (known_netlist machine) (known_patterns machine) xs (regs_of after) block) steps packed);
          form =
              subst (λ v. slice_get (isas v).keeping (root_of planned.choice.cover) ≡ Some (cover_form (mode_stock task isas v) planned.choice.cover))
              (test_mode modes program task isas p number job planned has_job has_plan goes) (root_form modes program task isas p number job planned has_job has_plan);
          setting =
              ap (λ b. unwrap_or b 0) (is.branch ∙ ap (λ d. branch_of (stock_with forms.list.items program.temps forms.file) d is.tree planned.choice.cover) goes)
              ∙ ap (λ t. branch_setting (stock_with forms.list.items program.temps forms.file) t planned.choice.cover) tree
              ∙ ap (λ (stock : StockModel). branch_setting stock (tree_used job planned.choice) planned.choice.cover) (told ∙ stock_is modes program task isas p 0 (some_modes task.netlist));
        }

-- ---- groups and words behind a block

adds_then : (a b c : PackedBlock) (gs hs : List (List Step)) (ws vs : List ℕ) → AddsGroups a b gs ws → AddsGroups b c hs vs → AddsGroups a c (gs ++ hs) (ws ++ vs)
adds_then a b c gs hs ws vs p q = record {
  groups = q.groups ∙ ap (λ (list : List (List Step)). list ++ hs) p.groups ∙ append_assoc a.groups gs hs;
  words = q.words ∙ ap (λ (list : List ℕ). list ++ vs) p.words ∙ append_assoc a.words ws vs;
}

-- the steps of the jobs at so many places from one on
abbrev pub place_steps : Modes → PlannedProgram → ℕ → ℕ → List Step
place_steps modes program at count = planned_steps modes program.temps (jobs_at program.flow.now (jobs_in program) at count) (plans_at program.flow.now (plans_in program) at count)

-- each mode has a book
pub book_within : (machines : List KnownMachine) (books : List Diagrams) (v : ℕ) → AreReadyAll machines books → v < length machines → v < length books
book_within machines books v ready lt = let many = books_long machines books ready in omega (arith, lt, many)

-- what is known of the machine of a mode in any book
pub record IsKnown (machine : KnownMachine) : Type 0 where
  pub reads : KnowsReads machine
  pub listed : AreListed machine.machine
  pub file : machine.machine.patterns.now.file ≡ file_place (known_netlist machine).storages

pub known_at : (modes : Modes) (books : List Diagrams) (v : ℕ) (machine : KnownMachine) → AreReady modes books → v < length modes.machines.now → slice_get modes.machines.now v ≡ Some machine → IsKnown machine
known_at modes books v machine ready lt at =
    let book = get_there books v (book_within modes.machines.now books v ready lt) in
    let own = ready_at modes.machines.now books v machine book.0 ready at book.1 in
    record {
      reads = own.reads;
      listed = listed_of (known_netlist machine) book.0 machine.machine.pool.now machine.machine.patterns.now own.ready;
      file = own.ready.patterns.file;
    }

-- groups that have words by its patterns have them by its table
pub known_words : (machine : KnownMachine) → IsKnown machine → (groups : List (List Step)) (live : Regs)
    → AllHaveWords (operation_in (known_netlist machine) (known_patterns machine)) (fits_over (known_netlist machine) (operation_in (known_netlist machine) (known_patterns machine))) groups live
    → HaveWords machine.machine groups live
known_words machine known groups live have = told_words machine.machine groups live known.file have

-- steps have words by the patterns of a mode
pub steps_known : (modes : Modes) (mode : ℕ) (steps : List Step) (machine : KnownMachine) (book : Diagrams) (live : ℕ) → slice_get modes.machines.now mode ≡ Some machine
    → IsReadyFor machine.machine book → live ≡ mode_bits modes.special → HaveWordsIn modes mode steps
    → HaveWords machine.machine (singles steps) (regs_of live)
steps_known modes mode steps machine book live there ready same have =
    told_words machine.machine (singles steps) (regs_of live) ready.patterns.file
    (subst (λ n. HasWords (known_netlist machine) (known_patterns machine) steps (regs_of n)) (sym same) (have machine there))

-- steps that were packed by the instruction set of a mode, with the mode live behind them
pub packed_in : (modes : Modes) (mode : ℕ) (steps : List Step) (old new own : PackedBlock) (machine : KnownMachine) (live : ℕ) → slice_get modes.machines.now mode ≡ Some machine → live ≡ mode_bits modes.special
    → AddsGroups old new own.groups own.words → IsOnce own → IsPackedBlock (known_netlist machine) (known_patterns machine) steps (regs_of live) own → AddsPacked modes mode steps old new
packed_in modes mode steps old new own machine bits there same adds once packed = record {
  own = own;
  adds = adds;
  once = once;
  packed = λ other at. subst (λ (m : KnownMachine). IsPackedBlock (known_netlist m) (known_patterns m) steps (regs_of (mode_bits modes.special)) own) (same_Some machine other (sym there ∙ at))
      (subst (λ n. IsPackedBlock (known_netlist machine) (known_patterns machine) steps (regs_of n) own) same packed);
}

-- a step alone has its pattern once
one_once : (step : Step) → HasPatternsOnce (step ∷ [])
one_once step = λ i j d less within. absurd (omega (arith, less, within))

module _ (modes : Modes) (program : PlannedProgram) where
  -- neighbouring jobs of mode 0
  pub zeros_run : (at count : ℕ) (old new : PackedBlock) → ((k : ℕ) → k < count → place_mode program (at + k) ≡ 0)
      → AddsPacked modes 0 (place_steps modes program at count) old new → AddsRun modes program 0 at count old new
  zeros_run at count old new all a = record {
    groups = a.own.groups;
    words = a.own.words;
    adds = a.adds;
    once = a.once;
    cut = λ task isas p. run_packed modes program task isas p 0 at count (some_modes task.netlist) (places_mode 0 (plans_in program) program.flow.now at count all) a.own a.packed;
  }

  -- a job of another mode between the words of its passage
  pub alone_run : (mode at : ℕ) (old first middle new : PackedBlock) (passage : Passage) → 0 < mode → place_mode program at ≡ mode → slice_get modes.passages.now mode ≡ Some (Some passage)
      → AddsGroups old first (mode_group passage.enter ∷ []) (passage.enter.word ∷ [])
      → AddsPacked modes mode (place_steps modes program at 1) first middle
      → AddsGroups middle new (mode_group passage.leave ∷ []) (passage.leave.word ∷ []) → AddsRun modes program mode at 1 old new
  alone_run zero at old first middle new passage some mode there enter a leave = absurd (omega (arith, some))
  alone_run (suc v) at old first middle new passage some mode there enter a leave = record {
    groups = mode_group passage.enter ∷ (a.own.groups ++ mode_group passage.leave ∷ []);
    words = passage.enter.word ∷ (a.own.words ++ passage.leave.word ∷ []);
    adds =
        adds_then old middle new (mode_group passage.enter ∷ a.own.groups) (mode_group passage.leave ∷ []) (passage.enter.word ∷ a.own.words) (passage.leave.word ∷ [])
        (adds_then old first middle (mode_group passage.enter ∷ []) a.own.groups (passage.enter.word ∷ []) a.own.words enter a.adds) leave;
    once = (
      one_once (record { pattern = passage.enter.pattern; setting = 0 }),
      all_append HasPatternsOnce a.own.groups (mode_group passage.leave ∷ []) a.once (one_once (record { pattern = passage.leave.pattern; setting = 0 }), tt),
    );
    cut = λ task isas p. away_cut modes program task isas p at v mode passage there a.own.groups a.own.words
        (run_packed modes program task isas p (suc v) at 1 (away_within modes program task isas p at v mode) (one_mode modes program task isas p at v mode) a.own a.packed);
  }

  -- its mode has a machine, its steps have words of it, and it has a passage
  module _ (task : Task) (isas : Isas task.netlist) (p : IsPlanning modes program task isas) where
    pub alone_mode : (mode at : ℕ) → 0 < mode → place_mode program at ≡ mode → mode < modes_in task.netlist
    alone_mode zero at some mode = absurd (omega (arith, some))
    alone_mode (suc v) at some mode = away_within modes program task isas p at v mode

    pub alone_within : (mode at : ℕ) → 0 < mode → place_mode program at ≡ mode → mode < length modes.machines.now
    alone_within zero at some mode = absurd (omega (arith, some))
    alone_within (suc v) at some mode = machine_within modes program task isas p (suc v) (away_within modes program task isas p at v mode)

    pub alone_steps : (mode at : ℕ) → 0 < mode → place_mode program at ≡ mode
        → HaveWordsIn modes mode (place_steps modes program at 1)
    alone_steps zero at some mode = absurd (omega (arith, some))
    alone_steps (suc v) at some mode = run_words modes program task isas p (suc v) at 1 (away_within modes program task isas p at v mode) (one_mode modes program task isas p at v mode)

    pub alone_passage : (mode at : ℕ) → 0 < mode → place_mode program at ≡ mode → (passage : Passage) × (slice_get modes.passages.now mode ≡ Some (Some passage))
    alone_passage zero at some mode = absurd (omega (arith, some))
    alone_passage (suc v) at some mode = away_passage modes program task isas p at v mode

  -- where a job of mode 0 stands a run of such jobs has one
  pub run_some : (at count end : ℕ) → at < end → place_mode program at ≡ 0 → (at + count < end → place_mode program (at + count) ≢ 0) → 0 < count
  run_some at zero end lt mode last = absurd (last (omega (arith, lt)) (ap (place_mode program) (let z : at + 0 ≡ at = omega arith in z) ∙ mode))
  run_some at (suc count) end lt mode last = omega arith

  -- ---- cuts, one after the other

  pub cuts_start : (at end : ℕ) (block : PackedBlock) → block ≡ no_block → AddsCuts modes program at at end no_block block
  cuts_start at end block e = record {
    groups = [];
    words = [];
    adds = record { groups = ap (λ (b : PackedBlock). b.groups) e; words = ap (λ (b : PackedBlock). b.words) e };
    once = tt;
    cuts = λ task isas p later rest more. more;
  }

  pub cuts_then : (at next last end : ℕ) (old middle new : PackedBlock) → AddsCuts modes program at next end old middle → AddsCuts modes program next last end middle new → AddsCuts modes program at last end old new
  cuts_then at next last end old middle new a b = record {
    groups = a.groups ++ b.groups;
    words = a.words ++ b.words;
    adds = adds_then old middle new a.groups b.groups a.words b.words a.adds b.adds;
    once = all_append HasPatternsOnce a.groups b.groups a.once b.once;
    cuts = λ task isas p later rest more.
        subst (λ (gs : List (List Step)). AreBlockCuts task isas (cuts_from program at end) gs ((a.words ++ b.words) ++ rest)) (sym (append_assoc a.groups b.groups later))
        (subst (λ (ws : List ℕ). AreBlockCuts task isas (cuts_from program at end) (a.groups ++ (b.groups ++ later)) ws) (sym (append_assoc a.words b.words rest))
        (a.cuts task isas p (b.groups ++ later) (b.words ++ rest) (b.cuts task isas p later rest more)));
  }

  -- the cuts from a place on are those of so many places and of the places behind them
  cuts_apart : (at count end : ℕ) → at + count ≤ end → cuts_from program at end
      ≡ cuts_of (jobs_at program.flow.now (jobs_in program) at count ++ jobs_at program.flow.now (jobs_in program) (at + count) (end - (at + count)))
      (plans_at program.flow.now (plans_in program) at count ++ plans_at program.flow.now (plans_in program) (at + count) (end - (at + count)))
  cuts_apart at count end le =
      ap (λ n. cuts_of (jobs_at program.flow.now (jobs_in program) at n) (plans_at program.flow.now (plans_in program) at n)) (let z : end - at ≡ count + (end - (at + count)) = omega (arith, le) in z)
      ∙ (λ i. cuts_of (jobs_apart program.flow.now (jobs_in program) at count (end - (at + count)) i) (plans_apart program.flow.now (plans_in program) at count (end - (at + count)) i))

  pub zeros_cut : (at count end : ℕ) (old new : PackedBlock) → at + count ≤ end → ((k : ℕ) → k < count → place_mode program (at + k) ≡ 0) → (at + count < end → place_mode program (at + count) ≢ 0)
      → AddsRun modes program 0 at count old new → AddsCuts modes program at (at + count) end old new
  zeros_cut at count end old new le all last a = record {
    groups = a.groups;
    words = a.words;
    adds = a.adds;
    once = a.once;
    cuts = λ task isas p later rest more.
        (let jobs : List JobModel = jobs_at program.flow.now (jobs_in program) at count in
        let plans : List PlanModel = plans_at program.flow.now (plans_in program) at count in
        let as_many : length (plans_in program) ≡ length (jobs_in program) = even modes program task isas p in
        let split =
        cuts_apart at count end le
        ∙ zeros_first jobs plans (jobs_at program.flow.now (jobs_in program) (at + count) (end - (at + count))) (plans_at program.flow.now (plans_in program) (at + count) (end - (at + count)))
        (even_places (jobs_in program) (plans_in program) as_many program.flow.now at count) (places_mode 0 (plans_in program) program.flow.now at count all) (starts as_many (end - (at + count)) refl) in
        subst (λ (cuts : List Cut). AreBlockCuts task isas cuts (a.groups ++ later) (a.words ++ rest)) (sym split)
        (zeros_words task isas jobs (plan_choices plans) (cuts_from program (at + count) end) a.groups later a.words rest (a.cut task isas p) more));
  }
    where
      starts : length (plans_in program) ≡ length (jobs_in program) → (m : ℕ) → end - (at + count) ≡ m
          → StartsAway (cuts_of (jobs_at program.flow.now (jobs_in program) (at + count) m) (plans_at program.flow.now (plans_in program) (at + count) m))
      starts as_many zero e = tt
      starts as_many (suc m) e = by (place_mode program (at + count)) refl
        where
          by : (v : ℕ) → place_mode program (at + count) ≡ v → StartsAway (cuts_of (jobs_at program.flow.now (jobs_in program) (at + count) (suc m)) (plans_at program.flow.now (plans_in program) (at + count) (suc m)))
          by zero f = absurd (last (omega (arith, e)) f)
          by (suc v) f = starts_away (jobs_in program) (plans_in program) program.flow.now (at + count) (suc m) v as_many f

  pub alone_cut : (mode at end : ℕ) (old new : PackedBlock) → 0 < mode → at + 1 ≤ end → place_mode program at ≡ mode → AddsRun modes program mode at 1 old new → AddsCuts modes program at (at + 1) end old new
  alone_cut zero at end old new some le mode a = absurd (omega (arith, some))
  alone_cut (suc v) at end old new some le mode a = record {
    groups = a.groups;
    words = a.words;
    adds = a.adds;
    once = a.once;
    cuts = λ task isas p later rest more.
        (let own : IsAway (jobs_in program) (plans_in program) (slice_get program.flow.now at) (suc v) = away modes program task isas p at v mode in
        let jobs : List JobModel = jobs_at program.flow.now (jobs_in program) at 1 in
        let plans : List PlanModel = plans_at program.flow.now (plans_in program) at 1 in
        let here : slice_get program.flow.now (at + 0) ≡ slice_get program.flow.now at = ap (slice_get program.flow.now) (let z : at + 0 ≡ at = omega arith in z) in
        let one : jobs ≡ own.job ∷ [] = ap (job_at (jobs_in program)) here ∙ own.jobs in
        let cover : plans ≡ own.planned ∷ [] = ap (plan_at (plans_in program)) here ∙ own.plans in
        let split =
        cuts_apart at 1 end le
        ∙ alone_first v jobs plans own.job own.planned (jobs_at program.flow.now (jobs_in program) (at + 1) (end - (at + 1))) (plans_at program.flow.now (plans_in program) (at + 1) (end - (at + 1))) one cover own.mode in
        subst (λ (cuts : List Cut). AreBlockCuts task isas cuts (a.groups ++ later) (a.words ++ rest)) (sym split)
        (alone_words task isas (suc v) jobs (plan_choices plans) own.job (cuts_from program (at + 1) end) a.groups later a.words rest one (a.cut task isas p) more));
  }

  -- ---- the whole block

  module _ (at count place : ℕ) (block : PackedBlock) (last : place ≡ at + count) (adds : AddsCuts modes program at place (at + count) no_block block) where
    pub block_once : IsOnce block
    block_once = subst EachHasPatternsOnce (sym adds.adds.groups) adds.once

    pub block_cuts : AreCutsCoded modes program at count block
    block_cuts task isas p =
        let none : AreBlockCuts task isas (cuts_from program place (at + count)) [] [] =
        subst (λ n. AreBlockCuts task isas (cuts_of (jobs_at program.flow.now (jobs_in program) place n) (plans_at program.flow.now (plans_in program) place n)) [] [])
        (let z : 0 ≡ at + count - place = omega (arith, last) in z) (refl, refl) in
        let whole = adds.cuts task isas p [] [] none in
        record {
          cuts =
              subst (λ n. AreBlockCuts task isas (cuts_of (jobs_at program.flow.now (jobs_in program) at n) (plans_at program.flow.now (plans_in program) at n)) block.groups block.words) (let z : at + count - at ≡ count = omega arith in z)
              (subst (λ (gs : List (List Step)). AreBlockCuts task isas (cuts_from program at (at + count)) gs block.words) (append-nil adds.groups ∙ sym adds.adds.groups)
              (subst (λ (ws : List ℕ). AreBlockCuts task isas (cuts_from program at (at + count)) (adds.groups ++ []) ws) (append-nil adds.words ∙ sym adds.adds.words) whole));
        }
