-- What is built for a planned program is built for its task.
use Rattle.std.proofs.Common.{◌≡◌, ℕ, suc, ◌+◌, ◌<◌, ◌≤◌, ◌^◌, List, [], ◌∷◌, Option, Some, length, slice_get, refl, sym, ◌∙◌, ap, subst, arith}
use Rattle.std.specs.List.{AllByRecursion}
use Rattle.std.proofs.lemmas.List.{length-map}
use Rattle.net_model.specs.declared.hardware.Code.{Code}
use Rattle.net_model.specs.declared.hardware.Netlist.{Netlist}
use Rattle.net_model.specs.CheckedRules.{code_size}
use Rattle.net_model.specs.ModeRules.{base_at}
use Rattle.net_model.specs.Nets.{code_bits, word_width}
use Rattle.net_model.specs.Patterns.{Pattern}
use Rattle.net_model.proofs.Bases.{base_of}
use Rattle.net_model.proofs.ModeFaults.{some_modes}
use Rattle.src_model.specs.Written.{stmts_of}
use Rattle.src_model.proofs.Bounds.{rules_hold}
use Rattle.code_model.specs.declared.image.Image.{Image}
use Rattle.code_model.specs.declared.image.Places.{Places}
use Rattle.code_model.specs.declared.image.Word.{Word}
use Rattle.code_model.specs.ImageFits.{CostFits, IsFitting, PlaceFits, limits_of}
use Rattle.code_model.specs.Places.{words_of}
use Rattle.compaction.specs.Laws.{operation_in}
use Rattle.form_model.specs.Covers.{StockModel}
use Rattle.form_model.specs.Live.{Regs, regs_of}
use Rattle.form_model.specs.Forms.{FormModel, models_of_forms}
use Rattle.form_model.specs.declared.flow.Flow.{Flow}
use Rattle.form_model.specs.declared.forms.Forms.{Forms}
use Rattle.form_model.specs.declared.forms.Step.{Step}
use Rattle.form_set.specs.Listing.{greatest_reach}
use Rattle.mode_set.specs.Costs.{PlanModel}
use Rattle.mode_set.specs.Keeping.{IsModeRegister, Isas, IsUsable}
use Rattle.word_fit.specs.Fits.{FitsTurning}
use Rattle.src_trees.specs.Lowered.{JobModel}
use Rattle.src_trees.proofs.LowerLemmas.{in_few}
use Rattle.branch_fix.specs.declared.outline.Branch.{Branch}
use Rattle.branch_fix.specs.Bounds.{bound_of, control_words, program_bound, sum_of}
use Rattle.branch_fix.specs.Costs.{SizesWithin, block_costs}
use Rattle.branch_fix.specs.Laid.{IsLaid, outline}
use Rattle.branch_fix.specs.declared.laid.Item.{Item}
use Rattle.branch_fix.specs.declared.laid.Item.TheVariants.{Group, Jump}
use Rattle.branch_fix.specs.declared.laid.Laid.{Laid}
use Rattle.right_code.specs.Bounded.{HasBound}
use Rattle.right_code.specs.Covered.{AllPlanned, mode_stock, numbered, plan_costs}
use Rattle.right_code.specs.Tasks.{IsChecked, Task, task_jobs}
use Rattle.right_code.proofs.OneBound.{bound_one}
use Rattle.right_code.proofs.Right.{jump_words_of, right_image}
use Rattle.right_code.proofs.TaskFlows.{task_bound, task_is_flow, task_words}
use Rattle.compaction.specs.declared.packer.PackedBlock.{PackedBlock}
use Rattle.code_gen.specs.declared.fault.CodeFault.{CodeFault}
use Rattle.code_gen.specs.declared.fault.CodeFault.TheVariants.{NoStep, NoJump, NoCover, NoReach, ImageFull, Memory}
use Rattle.compaction.specs.declared.machine.KnownMachine.{KnownMachine}
use Rattle.code_gen.specs.declared.views.Modes.{Modes}
use Rattle.code_gen.specs.declared.views.PlannedProgram.{PlannedProgram}
use Rattle.code_gen.specs.Inner.Coded.{AreItemWords, HasWord, IsBlockCode}
use Rattle.code_gen.specs.Inner.Imaged.{ArePlaces, IsImageMade, IsLengthFault, IsNear, IsTaskImage, OfTask}
use Rattle.code_gen.specs.Inner.Planning.{IsPlanning, costs_in, plans_in, reach_at, reach_or_none, jobs_in}
use Rattle.code_gen.specs.Inner.Views.{mode_bits}
use Rattle.code_gen.specs.Machines.{known_netlist, known_patterns}
use Rattle.code_gen.specs.Refusals.{IsBeyondReach, IsCodeFault, IsCoverable, IsJumpless, IsReached, IsStepless, IsImageTooLong}
use Rattle.code_gen.proofs.Fitting.{image_fitting}
use Rattle.code_gen.proofs.Frames.{covered, forms_there, plan_of_job, test_mode, tests}
use Rattle.code_gen.proofs.Lengths.{code_within}
use Rattle.code_gen.proofs.Making.{branches_made, sizes}
use Rattle.code_gen.proofs.ModeRegs.{base_register, mode_register, turn_kept}
use Rattle.code_gen.proofs.Running.{even}
use Rattle.code_gen.proofs.Told.{has_jumps}
use Rattle.code_gen.proofs.Whole.{image_made, task_outline}

-- jobs with plans have as many costs
costs_long : (stock : ℕ → StockModel) (Usable : ℕ → Type 0) (jobs : List JobModel) (plans : List PlanModel) → AllPlanned stock Usable jobs plans → length (plan_costs jobs plans) ≡ length jobs
costs_long stock Usable [] [] h = refl
costs_long stock Usable [] (d ∷ plans) h = absurd h
costs_long stock Usable (w ∷ jobs) [] h = absurd h
costs_long stock Usable (w ∷ jobs) (d ∷ plans) h = ap suc (costs_long stock Usable jobs plans h.1)

-- items whose jumps have words
all_have : (netlist : Netlist) (patterns : List Pattern) (kept : Regs) (items : List Item)
    → ((k : ℕ) (step : Step) → slice_get items k ≡ Some (Jump step) → (word : ℕ) × FitsTurning netlist word (operation_in netlist patterns step) kept) → AllByRecursion (HasWord netlist patterns kept) items
all_have netlist patterns kept [] h = tt
all_have netlist patterns kept (Group block at ∷ items) h = (tt, all_have netlist patterns kept items (λ k. h (suc k)))
all_have netlist patterns kept (Jump step ∷ items) h = (h 0 step refl, all_have netlist patterns kept items (λ k. h (suc k)))

-- the same for the same netlist, patterns and registers
have_moved : (n m : Netlist) (p q : List Pattern) (a b : Regs) (items : List Item) → n ≡ m → p ≡ q → a ≡ b → AllByRecursion (HasWord n p a) items → AllByRecursion (HasWord m q b) items
have_moved n m p q a b items e f g h =
    subst (λ (regs : Regs). AllByRecursion (HasWord m q regs) items) g
    (subst (λ (list : List Pattern). AllByRecursion (HasWord m list a) items) f (subst (λ (net : Netlist). AllByRecursion (HasWord net p a) items) e h))

words_moved : (n m : Netlist) (p q : List Pattern) (a b : Regs) (blocks : List PackedBlock) (items : List Item) (words : List Word) → n ≡ m → p ≡ q → a ≡ b → AreItemWords n p a blocks items words → AreItemWords m q b blocks items words
words_moved n m p q a b blocks items words e f g h =
    subst (λ (regs : Regs). AreItemWords m q regs blocks items words) g
    (subst (λ (list : List Pattern). AreItemWords m list a blocks items words) f (subst (λ (net : Netlist). AreItemWords net p a blocks items words) e h))

module _ (modes : Modes) (program : PlannedProgram) (task : Task) (isas : Isas task.netlist) (p : IsPlanning modes program task isas) where
  -- the costs of the task's jobs
  pub costs_are : costs_in program ≡ plan_costs (task_jobs task) (plans_in program)
  costs_are = p.costs ∙ ap (λ (jobs : List JobModel). plan_costs jobs (plans_in program)) p.jobs

  costs_many : length (plan_costs (jobs_in program) (plans_in program)) ≡ length (task_jobs task)
  costs_many =
      ap (λ (jobs : List JobModel). length (plan_costs jobs (plans_in program))) p.jobs
      ∙ costs_long (mode_stock task isas) (IsUsable task.netlist isas) (task_jobs task) (plans_in program) p.plans

  -- the bound is the task's
  pub bound_there : bound_of program.flow.now (costs_in program) ≡ program_bound task.program (plan_costs (task_jobs task) (plans_in program))
  bound_there = (λ j. bound_of (p.flow j) (costs_are j)) ∙ task_words task p.checked.jobs (plan_costs (task_jobs task) (plans_in program))

  -- the register that holds the mode is one of the netlist of mode 0, too
  first_register : IsModeRegister task.netlist.special (base_at task.netlist 0)
  first_register = base_register task.netlist 0 task.netlist.special (mode_register task.netlist task.netlist.special p.checked.netlist.special)

  -- jumps reach as far as those of mode 0 that keep the mode
  pub reach_is : reach_at modes 0 ≡ greatest_reach (isas 0).keeping
  reach_is =
      let f = forms_there modes program task isas p 0 (some_modes task.netlist) in
      ap reach_or_none f.1 ∙ p.modes.reach 0 f.0 f.1

  module _ (blocks : List PackedBlock) (branches : List Branch) (code : IsBlockCode task isas program.flow.now (jobs_in program) (plans_in program) (length program.flow.now) blocks branches) where
    -- the blocks keep to the bound
    pub within : sum_of (sizes blocks) + control_words program.flow.now ≤ bound_of program.flow.now (costs_in program)
    within =
        subst (λ f. sum_of (sizes blocks) + control_words f ≤ bound_of f (costs_in program)) (sym p.flow)
        (subst (λ cs. sum_of (sizes blocks) + control_words task.flow ≤ bound_of task.flow cs) (sym p.costs)
        (task_bound task p.checked.jobs (plan_costs (jobs_in program) (plans_in program)) (sizes blocks) (costs_many ∙ p.checked.jobs.count)
        (subst (λ f. SizesWithin (sizes blocks) (block_costs f (plan_costs (jobs_in program) (plans_in program)) f 0)) p.flow
        (code_within task isas (jobs_in program) (plans_in program) (even modes program task isas p) (covered modes program task isas p) (test_mode modes program task isas p)
        program.flow.now blocks branches (tests modes program task isas p) (plan_of_job modes program task isas p) code))))

    code_there : IsBlockCode task isas task.flow (task_jobs task) (plans_in program) (length task.flow) blocks branches
    code_there =
        subst (λ (jobs : List JobModel). IsBlockCode task isas task.flow jobs (plans_in program) (length task.flow) blocks branches) p.jobs
        (subst (λ (flow : List Flow). IsBlockCode task isas flow (jobs_in program) (plans_in program) (length flow) blocks branches) p.flow code)

    module _ (laid : Laid) (forms : Forms) (most bound : ℕ) (first : slice_get modes.forms.now 0 ≡ Some forms) (is : IsLaid (outline program.flow.now (sizes blocks) branches forms most bound) laid) where
      laid_there : IsLaid (task_outline task (isas 0).keeping (sizes blocks) branches most bound) laid
      laid_there =
          subst (λ (list : List FormModel). IsLaid (record { flow = task.flow; sizes = sizes blocks; branches = branches; forms = list; reach = greatest_reach (isas 0).keeping; words = most; bound = bound }) laid) (p.modes.forms 0 forms first)
          (subst (λ far. IsLaid (record { flow = task.flow; sizes = sizes blocks; branches = branches; forms = models_of_forms forms.list.items; reach = far; words = most; bound = bound }) laid) (p.modes.reach 0 forms first)
          (subst (λ (flow : List Flow). IsLaid (record { flow = flow; sizes = sizes blocks; branches = branches; forms = models_of_forms forms.list.items; reach = forms.reach; words = most; bound = bound }) laid) p.flow is))

      items_there : (k : ℕ) (step : Step) → slice_get laid.items k ≡ Some (Jump step)
          → (word : ℕ) × FitsTurning (base_at task.netlist 0) word (operation_in (base_at task.netlist 0) (isas 0).patterns step) (regs_of (mode_bits task.netlist.special))
      items_there k step e =
          let most_words = laid_there.most in
          let reaches = laid_there.reached in
          let long = laid_there.long in
          let w =
          jump_words_of task p.checked isas (plans_in program) p.plans laid_there.parts
          (record { sizes = sizes blocks; branches = branches; settled = laid_there.settled; reached = omega (arith, most_words, reaches, long) })
          (branches_made task isas task.flow (task_jobs task) (plans_in program) blocks branches code_there laid_there.parts laid_there.settled)
          k step (ap (λ xs. slice_get xs k) (sym laid_there.items) ∙ e) in
          (w.0, turn_kept (base_at task.netlist 0) (operation_in (base_at task.netlist 0) (isas 0).patterns step) task.netlist.special first_register w.0 w.1)

      -- each jump and branch has a word
      pub items_have : (machine : KnownMachine) → slice_get modes.machines.now 0 ≡ Some machine → AllByRecursion (HasWord (known_netlist machine) (known_patterns machine) (regs_of (mode_bits modes.special))) laid.items
      items_have machine there =
          have_moved (base_at task.netlist 0) (known_netlist machine) (isas 0).patterns (known_patterns machine) (regs_of (mode_bits task.netlist.special)) (regs_of (mode_bits modes.special)) laid.items
          (sym (p.modes.nets 0 machine there)) (sym (p.modes.patterns 0 machine there)) (ap (λ (o : Option ℕ). regs_of (mode_bits o)) (sym p.modes.special))
          (all_have (base_at task.netlist 0) (isas 0).patterns (regs_of (mode_bits task.netlist.special)) laid.items items_there)

      -- the image is made for the task
      module _ (bound_of_costs : bound ≡ bound_of program.flow.now (costs_in program)) (places : Places) (placed : ArePlaces task places) (image : Image) (machine : KnownMachine) (there : slice_get modes.machines.now 0 ≡ Some machine)
          (items : AreItemWords (known_netlist machine) (known_patterns machine) (regs_of (mode_bits modes.special)) blocks laid.items image.words) where
        bits_there : word_width (known_netlist machine) ≡ word_width task.netlist
        bits_there = ap word_width (p.modes.nets 0 machine there) ∙ word_same (base_at task.netlist 0) task.netlist (base_of task.netlist task.netlist.special 0).codes
          where
            word_same : (n m : Netlist) → n.codes ≡ m.codes → word_width n ≡ word_width m
            word_same n m e = ap (λ (codes : List Code). code_bits (slice_get codes 0)) e

        pub is_made : image.marks ≡ laid.marks → image.costs ≡ numbered 0 (costs_in program) → image.bits ≡ word_width (known_netlist machine)
            → image.temps ≡ places.temps → image.places ≡ places.list → IsImageMade image task
        is_made marks costs bits temps list =
            let made =
            image_made task isas first_register (plans_in program) p.plans blocks branches code_there laid most bound laid_there
            (bound_of_costs ∙ bound_there) image
            (words_moved (known_netlist machine) (base_at task.netlist 0) (known_patterns machine) (isas 0).patterns (regs_of (mode_bits modes.special)) (regs_of (mode_bits task.netlist.special)) blocks laid.items image.words
            (p.modes.nets 0 machine there) (p.modes.patterns 0 machine there) (ap (λ (o : Option ℕ). regs_of (mode_bits o)) p.modes.special) items)
            marks (costs ∙ ap (numbered 0) costs_are) (bits ∙ bits_there)
            (record { temps = temps ∙ placed.temps; places = list ∙ placed.list; held = p.checked.jobs.held; room = p.checked.jobs.room }) in
            record { made = made.0; reached = made.1 }

-- ---- how long code may be

module _ (modes : Modes) (program : PlannedProgram) (task : Task) (isas : Isas task.netlist) (p : IsPlanning modes program task isas) where
  pub has_bound : (bound : ℕ) → bound ≡ bound_of program.flow.now (costs_in program) → HasBound task bound (reach_at modes 0)
  has_bound bound e = record {
    isas = isas;
    plans = plans_in program;
    planned = p.plans;
    is = e ∙ bound_there modes program task isas p;
    far = reach_is modes program task isas p;
  }

  module _ (bound : ℕ) (is : bound ≡ bound_of program.flow.now (costs_in program)) (reach : ℕ) (far : reach ≡ reach_at modes 0) where
    bounded : HasBound task bound reach
    bounded = subst (HasBound task bound) (sym far) (has_bound bound is)

    -- jumps don't reach
    pub beyond : reach < bound → IsBeyondReach bound reach task
    beyond lt = record { has = bounded; beyond = lt }

    -- they do
    pub near : bound ≤ reach → IsNear task
    near le = record { bound = bound; reach = reach; has = bounded; within = le }

    -- an image is longer than the code
    pub too_long : (image : Image) → IsImageMade image task → (len size : ℕ) → len ≡ length image.words → size ≡ code_size task.netlist.codes → size < len → IsImageTooLong len size bound task
    too_long image made len size long room above =
        let words : length (words_of image) ≡ length image.words = length-map image.words (λ (w : Word). w.word) in
        let own = made.made in
        let own_bound : HasBound task (program_bound task.program (plan_costs (task_jobs task) own.plans)) (greatest_reach (own.isas 0).keeping) =
        record { isas = own.isas; plans = own.plans; planned = own.planned; is = refl; far = refl } in
        let same = bound_one task _ _ bound reach own_bound bounded in
        let one = same.0 in
        let most = own.most in
        record {
          image = image;
          made = made.made;
          long = long ∙ sym words;
          room = room;
          reach = reach;
          has = bounded;
          above = above;
          most = omega (arith, most, long, words, one);
        }

  -- the code is as large as that of mode 0
  pub codes_there : (machine : KnownMachine) → slice_get modes.machines.now 0 ≡ Some machine → code_size (known_netlist machine).codes ≡ code_size task.netlist.codes
  codes_there machine there = ap (λ (n : Netlist). code_size n.codes) (p.modes.nets 0 machine there) ∙ ap code_size (base_of task.netlist task.netlist.special 0).codes

  -- there is room for an image
  module _ (image : Image) (made : IsImageMade image task) (room : length image.words ≤ code_size task.netlist.codes) where
    in_room : length (words_of image) ≤ code_size task.netlist.codes
    in_room =
        let words : length (words_of image) ≡ length image.words = length-map image.words (λ (w : Word). w.word) in
        omega (arith, words, room)

    pub is_right : IsNear task → IsTaskImage image task
    is_right close = record { right = right_image task p.checked image made.made in_room made.reached; near = close }

    places_are : (places : Places) → ArePlaces task places → image.places ≡ places.list
    places_are places placed = made.made.layout.places ∙ sym placed.list

    pub is_fitting : (places : Places) → ArePlaces task places → AllByRecursion PlaceFits places.list → AllByRecursion CostFits image.costs → IsFitting (limits_of task.netlist) image
    is_fitting places placed named costs =
        image_fitting task p.checked image made.made in_room made.reached (subst (AllByRecursion PlaceFits) (sym (places_are places placed)) named) costs

-- ---- tasks

-- a checked task has few trees
pub few_jobs : (task : Task) → IsChecked task → length (task_jobs task) ≤ 65536
few_jobs task checked =
    let statements = (rules_hold task.width task.program checked.program).few_statements in
    let jobs = checked.jobs.count in
    omega (arith, statements, jobs)

-- and its flow few places
pub few_places : (task : Task) → IsChecked task → length task.flow ≤ 2 ^ 32
few_places task checked =
    let statements = (rules_hold task.width task.program checked.program).few_statements in
    let places = in_few (stmts_of task.program.body) in
    let long = (task_is_flow task checked.jobs).long in
    omega (arith, statements, places, long)

-- ---- refusals

-- code that may be too long
near_reached : (task : Task) → IsCoverable task → IsNear task → IsReached task
near_reached task coverable near = record { coverable = coverable; bound = near.bound; reach = near.reach; has = near.has; within = near.within }

length_fault : (task : Task) → IsCoverable task → (fault : CodeFault) → IsLengthFault fault task → IsCodeFault task fault
length_fault task coverable (NoReach b r) h = (coverable, h)
length_fault task coverable (ImageFull l s b) h = (near_reached task coverable h.0, h.1)
length_fault task coverable Memory h = tt
length_fault task coverable NoStep h = absurd h
length_fault task coverable NoJump h = absurd h
length_fault task coverable (NoCover number) h = absurd h

-- what is said of the task of a planned program
module _ (modes : Modes) (program : PlannedProgram) (places : Places) (task : Task) (isas : Isas task.netlist) (p : IsPlanning modes program task isas) (placed : ArePlaces task places)
    (steps : IsStepless task.netlist → ⊥) (jumps : IsJumpless task.netlist → ⊥) where
  -- its trees are covered
  coverable : IsCoverable task
  coverable = record {
    jumps = has_jumps task steps jumps;
    covers = record {
      costs = numbered 0 (plan_costs (task_jobs task) (plans_in program));
      are = record { isas = isas; plans = plans_in program; planned = p.plans; are = refl };
    };
  }

  pub told_reached : (image : Image) → OfTask modes program places (IsTaskImage image) → IsReached task
  told_reached image h = near_reached task coverable (h task isas p placed).near

  pub told_fault : (fault : CodeFault) → OfTask modes program places (IsLengthFault fault) → IsCodeFault task fault
  told_fault fault h = length_fault task coverable fault (h task isas p placed)
