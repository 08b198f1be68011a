-- An image that is made for a task traces its program.
use Rattle.std.proofs.lemmas.Bool.{ltb-true}
use Rattle.net_model.specs.Nets.{memory_width, size_in}
use Rattle.std.proofs.Common.{◌≡◌, zero, suc, [], ◌∷◌, Option, Some, None, slice_get, nat_lt, if◌then◌else◌, Bool, true, false, ℕ, ◌≤◌, ◌<◌, List, length, slice_index, refl, sym, ◌∙◌, ap, arith, subst}
use Rattle.rec_bits.proofs.Options.{same_Some}
use Rattle.net_model.specs.declared.hardware.Space.TheVariants.{File as InFile}
use Rattle.net_model.specs.CheckedRules.{code_size, IsMode}
use Rattle.net_model.specs.Widths.{WordFits}
use Rattle.src_model.specs.Written.{stmts_of}
use Rattle.src_model.specs.Rules.{temp_count}
use Rattle.src_model.specs.Trace.{strace}
use Rattle.code_model.specs.declared.image.Image.{Image}
use Rattle.code_model.specs.Places.{words_of}
use Rattle.code_model.specs.Right.{TracesRight}
use Rattle.form_model.specs.Covers.{JobCoverModel, IsChosen}
use Rattle.form_model.specs.Forms.{FormModel, tested}
use Rattle.form_model.specs.declared.forms.Step.{Step}
use Rattle.form_model.specs.Live.{Regs, no_regs, singles}
use Rattle.form_model.specs.Steps.{branch_setting}
use Rattle.compaction.specs.Laws.{operation_in}
use Rattle.emit_seq.specs.Spares.{wanted}
use Rattle.word_fit.specs.Fits.{fits_over}
use Rattle.word_fit.specs.Groups.{AllHaveWords}
use Rattle.net_model.proofs.WordWidths.{has_bits}
use Rattle.form_set.specs.Listing.{greatest_reach}
use Rattle.net_model.proofs.Bases.{base_of}
use Rattle.net_model.proofs.ModeFaults.{some_modes}
use Rattle.mode_set.specs.Costs.{PlanModel}
use Rattle.mode_set.specs.Keeping.{IsModeRegister, Isas, held}
use Rattle.net_model.specs.ModeRules.{KeepsInOrder, base_at, modes_in}
use Rattle.src_trees.specs.Blocks.{jobs_at}
use Rattle.src_trees.specs.Flows.{places_in}
use Rattle.src_trees.specs.Lowered.{JobModel}
use Rattle.src_trees.specs.Measures.{AllSmall, IsSmall}
use Rattle.branch_fix.specs.Inner.Flowing.{IsFlow}
use Rattle.branch_fix.specs.Items.{items_from, jump_form}
use Rattle.branch_fix.specs.Parts.{PartsFit, address, starts, total}
use Rattle.branch_fix.specs.declared.laid.Item.TheVariants.{Jump}
use Rattle.branch_fix.specs.declared.part.BranchedTest.{BranchedTest}
use Rattle.branch_fix.specs.declared.part.LayoutPart.TheVariants.{Test}
use Rattle.branch_fix.specs.declared.part.LayoutPart.{LayoutPart}
use Rattle.branch_fix.proofs.Addresses.{fit_length}
use Rattle.branch_fix.proofs.Laying.{settled_fit}
use Rattle.right_code.specs.Bounded.{HasBound}
use Rattle.right_code.specs.Covered.{ArePlans, mode_stock}
use Rattle.right_code.specs.Cuts.{Cut, cuts_of, plan_choices, plans_at, with_mode}
use Rattle.right_code.specs.Inner.Forks.{test_of}
use Rattle.right_code.specs.Inner.Jobs.{AreCovered}
use Rattle.right_code.specs.Laid.{IsLayout}
use Rattle.mode_set.specs.Words.{FitsTurn}
use Rattle.right_code.specs.Images.{IsBranchOf, IsMadeFor, IsRightImage}
use Rattle.right_code.specs.Inner.Blocks.{IsKit}
use Rattle.right_code.specs.Inner.Laid.{AreTurns, IsLaidCode}
use Rattle.right_code.specs.Jobs.{IsCovered, job_steps, jobs_steps, tree_or_none, tree_used}
use Rattle.right_code.specs.Tasks.{IsChecked, Task, task_jobs}
use Rattle.right_code.proofs.Chosen.{AllMode, CutsCovered, as_test, block_covered, cuts_covered, own_net, run_covered, test_plan}
use Rattle.right_code.proofs.Covered.{covered_of}
use Rattle.right_code.proofs.Fitting.{code_fits, word_in}
use Rattle.right_code.proofs.Given.{given_forms, given_turns, given_words}
use Rattle.right_code.proofs.Jumping.{AllTurn, IsAsked, layout_words}
use Rattle.right_code.proofs.Kept.{forms_keep, part_of}
use Rattle.right_code.proofs.Known.{known_of}
use Rattle.right_code.proofs.Worded.{block_words, test_words}
use Rattle.right_code.proofs.Layouts.{within_code}
use Rattle.right_code.proofs.Made.{FormsGive, has_in, is_kit, kit_in, machine, made_laid, made_traces}
use Rattle.right_code.proofs.OneBound.{made_reached}
use Rattle.right_code.specs.FlowJobs.{AllOne, IsTestJob, node_limit}
use Rattle.right_code.proofs.TaskFlows.{task_is_flow, task_upto}
use Rattle.right_code.proofs.Tasks.{test_job_of}

-- a job of small jobs is small
small_at : (bits temps most : ℕ) (jobs : List JobModel) (k : ℕ) (job : JobModel) → AllSmall bits temps most jobs → slice_get jobs k ≡ Some job → IsSmall bits temps most job
small_at bits temps most [] k job h e = absurd (cc e)
small_at bits temps most (w ∷ jobs) zero job h e = subst (IsSmall bits temps most) (same_Some w job e) h.0
small_at bits temps most (w ∷ jobs) (suc k) job h e = small_at bits temps most jobs k job h.1 e

module _ (task : Task) (checked : IsChecked task) where
  -- a number that stands for a mode is one
  held_within : (v : ℕ) → held task.netlist v < modes_in task.netlist
  held_within v = by_number v (some_modes task.netlist)
    where
      by_number : (v : ℕ) → 0 < modes_in task.netlist → held task.netlist v < modes_in task.netlist
      by_number zero some = some
      by_number (suc v) some = by_bool (nat_lt (suc v) (modes_in task.netlist)) refl
        where
          by_bool : (b : Bool) → nat_lt (suc v) (modes_in task.netlist) ≡ b → (if b then suc v else 0) < modes_in task.netlist
          by_bool true e = ltb-true (suc v) (modes_in task.netlist) e
          by_bool false e = some

  keeps : (v : ℕ) → KeepsInOrder (base_at task.netlist (held task.netlist v))
  keeps v = checked.netlist.each (held task.netlist v) (held_within v)

  register : IsModeRegister task.netlist.special task.netlist
  register = of_mode task.netlist.special checked.netlist.special
    where
      of_mode : (o : Option ℕ) → IsMode task.netlist o → IsModeRegister o task.netlist
      of_mode None h = tt
      of_mode (Some mode) h = h.0

  -- ---- what the netlist is in a mode has its storages and codes

  same_storages : (v : ℕ) → (base_at task.netlist (held task.netlist v)).storages ≡ task.netlist.storages
  same_storages v = (base_of task.netlist task.netlist.special (held task.netlist v)).storages

  same_codes : (v : ℕ) → (base_at task.netlist (held task.netlist v)).codes ≡ task.netlist.codes
  same_codes v = (base_of task.netlist task.netlist.special (held task.netlist v)).codes

  -- the trees are small
  pub small : AllSmall task.width (temp_count task.width task.program) node_limit (task_jobs task)
  small = checked.jobs.small

  -- parts of the program have words
  some_total : (forms : List FormModel) (parts : List LayoutPart) → PartsFit forms task.flow 0 task.flow parts → 1 ≤ total parts
  some_total forms parts fits =
      let f : IsFlow task.flow (places_in (stmts_of task.program.body)) = task_is_flow task checked.jobs in
      let n = fit_length forms task.flow 0 task.flow parts fits in
      let l = f.long in
      let a : address parts 0 < total parts = within_code forms task.flow (places_in (stmts_of task.program.body)) parts 0 f fits (omega (arith, n, l)) in
      omega (arith, a)

  -- ---- the forms

  module _ (isas : Isas task.netlist) where
    pub give : (v : ℕ) → FormsGive (own_net task isas v) (isas v).patterns task.width (size_in InFile task.netlist.storages) (isas v).keeping
    give v =
        let e = same_storages v in
        subst (λ n. FormsGive (own_net task isas v) (isas v).patterns task.width n (isas v).keeping) (ap (size_in InFile) e)
        (subst (λ n. FormsGive (own_net task isas v) (isas v).patterns n (size_in InFile (own_net task isas v).storages) (isas v).keeping) (ap memory_width e ∙ checked.words)
        (given_forms (own_net task isas v) (keeps v).order (keeps v).rules (isas v).patterns (isas v).are (isas v).all (isas v).most (isas v).forms task.netlist.special (isas v).keeping (isas v).kept))

    pub turns : 1 ≤ greatest_reach (isas 0).keeping → AreTurns (base_at task.netlist 0) (isas 0).patterns (isas 0).keeping (greatest_reach (isas 0).keeping)
    turns some =
        given_turns (base_at task.netlist 0) (keeps 0).order (keeps 0).rules (isas 0).patterns (isas 0).are (isas 0).all (isas 0).most (isas 0).forms task.netlist.special (isas 0).keeping (isas 0).kept some

    pub job_covered : (v number : ℕ) (job : JobModel) → slice_get (task_jobs task) number ≡ Some job → (choice : JobCoverModel) → IsChosen (mode_stock task isas v) job.destination job.trees choice → IsCovered (mode_stock task isas v) job choice
    job_covered v number job at choice c = covered_of task.width (mode_stock task isas v) (give v).reads node_limit job choice (small_at task.width (temp_count task.width task.program) node_limit (task_jobs task) number job small at) c

    -- ---- words of steps

    sized : (v : ℕ) → size_in InFile task.netlist.storages ≡ size_in InFile (own_net task isas v).storages
    sized v = ap (size_in InFile) (sym (same_storages v))

    register_in : (v : ℕ) → IsModeRegister task.netlist.special (own_net task isas v)
    register_in v = has_in task.netlist.special task.netlist (own_net task isas v) (sym (same_storages v)) register

    one : AllOne (task_jobs task)
    one = checked.jobs.one

    covers_at : (cuts : List Cut) (k : ℕ) (x : Cut) → CutsCovered task isas cuts → slice_get cuts k ≡ Some x → AreCovered (mode_stock task isas x.mode) x.jobs x.choices
    covers_at [] k x c e = absurd (cc e)
    covers_at (y ∷ cuts) zero x c e = subst (λ (z : Cut). AreCovered (mode_stock task isas z.mode) z.jobs z.choices) (same_Some y x e) c.0
    covers_at (y ∷ cuts) (suc k) x c e = covers_at cuts k x c.1 e

    -- the steps of covers by the forms of a mode have words
    steps_words : (v : ℕ) (jobs : List JobModel) (choices : List JobCoverModel) (live : Regs) → AreCovered (mode_stock task isas v) jobs choices → ((r : ℕ) → live r ≡ true → with_mode task.netlist.special no_regs r ≡ true)
        → AllHaveWords (operation_in (own_net task isas v) (isas v).patterns) (fits_over (own_net task isas v) (operation_in (own_net task isas v) (isas v).patterns)) (singles (jobs_steps (mode_stock task isas v) jobs choices)) live
    steps_words v jobs choices live c f =
        block_words (own_net task isas v) (keeps v).order (keeps v).rules (has_bits (own_net task isas v) (keeps v).order (keeps v).rules) (isas v).patterns (known_of (own_net task isas v) (keeps v).order (keeps v).rules (isas v).patterns (isas v).are) (isas v).most (isas v).all (isas v).forms.list
        (mode_stock task isas v) (sized v) (part_of (own_net task isas v) (isas v).patterns task.netlist.special (isas v).all (isas v).keeping (isas v).kept) task.netlist.special
        (forms_keep (own_net task isas v) (isas v).patterns task.netlist.special (isas v).all (isas v).keeping (isas v).kept) jobs choices live c f

    module _ (plans : List PlanModel) (planned : ArePlans task isas plans) where
      pub cut_words_of : (at n k : ℕ) (x : Cut) → slice_get (cuts_of (jobs_at task.flow (task_jobs task) at n) (plans_at task.flow plans at n)) k ≡ Some x
          → (live : Regs) → ((r : ℕ) → live r ≡ true → with_mode task.netlist.special no_regs r ≡ true)
          → AllHaveWords (operation_in (own_net task isas x.mode) (isas x.mode).patterns) (fits_over (own_net task isas x.mode) (operation_in (own_net task isas x.mode) (isas x.mode).patterns)) (singles (jobs_steps (mode_stock task isas x.mode) x.jobs x.choices)) live
      cut_words_of at n k x e live less =
          steps_words x.mode x.jobs x.choices live
          (covers_at (cuts_of (jobs_at task.flow (task_jobs task) at n) (plans_at task.flow plans at n)) k x
          (cuts_covered task isas (jobs_at task.flow (task_jobs task) at n) (plans_at task.flow plans at n)
          (block_covered task isas (λ v. (give v).reads) node_limit small one plans planned task.flow at n)) e) less

      -- and each step of neighbouring jobs whose plans are of one mode
      pub run_words_of : (v at n : ℕ) → AllMode v (plans_at task.flow plans at n) → (live : Regs) → ((r : ℕ) → live r ≡ true → with_mode task.netlist.special no_regs r ≡ true)
          → AllHaveWords (operation_in (own_net task isas v) (isas v).patterns) (fits_over (own_net task isas v) (operation_in (own_net task isas v) (isas v).patterns))
          (singles (jobs_steps (mode_stock task isas v) (jobs_at task.flow (task_jobs task) at n) (plan_choices (plans_at task.flow plans at n)))) live
      run_words_of v at n all live less =
          steps_words v (jobs_at task.flow (task_jobs task) at n) (plan_choices (plans_at task.flow plans at n)) live
          (run_covered task isas v (jobs_at task.flow (task_jobs task) at n) (plans_at task.flow plans at n) all
          (block_covered task isas (λ v. (give v).reads) node_limit small one plans planned task.flow at n)) less

      test_covered : (number : ℕ) (job : JobModel) (own : PlanModel) → slice_get (task_jobs task) number ≡ Some job → slice_get plans number ≡ Some own → job.destination ≡ tested → IsCovered (mode_stock task isas 0) (test_of job) own.choice
      test_covered number job own at there e =
          let d = test_plan task isas (λ v. (give v).reads) node_limit small one plans planned (task_jobs task) plans number job small planned at e in
          let same : d.0 ≡ own = one_plan d.0 own (sym d.1 ∙ there) in
          subst (λ (x : JobModel). IsCovered (mode_stock task isas 0) x own.choice) (sym (as_test job e)) (subst (λ (p : PlanModel). IsCovered (mode_stock task isas 0) job p.choice) same d.2)
        where
          one_plan : (a b : PlanModel) → Some a ≡ Some b → a ≡ b
          one_plan a b e = cc

      -- and each step of a test
      pub test_words_of : (number : ℕ) (job : JobModel) (own : PlanModel) → slice_get (task_jobs task) number ≡ Some job → slice_get plans number ≡ Some own → job.destination ≡ tested
          → (live : Regs) → ((r : ℕ) → live r ≡ true → with_mode task.netlist.special (wanted (mode_stock task isas 0) tested (tree_used job own.choice) own.choice.cover) r ≡ true)
          → AllHaveWords (operation_in (own_net task isas 0) (isas 0).patterns) (fits_over (own_net task isas 0) (operation_in (own_net task isas 0) (isas 0).patterns)) (singles (job_steps (mode_stock task isas 0) job own.choice)) live
      test_words_of number job own at there e live less =
          subst (λ (x : JobModel). AllHaveWords (operation_in (own_net task isas 0) (isas 0).patterns) (fits_over (own_net task isas 0) (operation_in (own_net task isas 0) (isas 0).patterns)) (singles (job_steps (mode_stock task isas 0) x own.choice)) live) (as_test job e)
          (test_words (own_net task isas 0) (keeps 0).order (keeps 0).rules (has_bits (own_net task isas 0) (keeps 0).order (keeps 0).rules) (isas 0).patterns (known_of (own_net task isas 0) (keeps 0).order (keeps 0).rules (isas 0).patterns (isas 0).are) (isas 0).most (isas 0).all (isas 0).forms.list
          (mode_stock task isas 0) (sized 0) (part_of (own_net task isas 0) (isas 0).patterns task.netlist.special (isas 0).all (isas 0).keeping (isas 0).kept) task.netlist.special
          (forms_keep (own_net task isas 0) (isas 0).patterns task.netlist.special (isas 0).all (isas 0).keeping (isas 0).kept) job own.choice live (test_covered number job own at there e) less)

      -- and each jump and branch of a layout
      some_reach : (parts : List LayoutPart) → IsLayout (isas 0).keeping task.flow parts (greatest_reach (isas 0).keeping) → 1 ≤ greatest_reach (isas 0).keeping
      some_reach parts layout =
          let fits : PartsFit (isas 0).keeping task.flow 0 task.flow parts = settled_fit (isas 0).keeping task.flow layout.sizes layout.branches parts layout.settled in
          let a = some_total (isas 0).keeping parts fits in
          let r = layout.reached in
          omega (arith, a, r)

      pub jump_words_of : (parts : List LayoutPart) → IsLayout (isas 0).keeping task.flow parts (greatest_reach (isas 0).keeping)
          → ((at : ℕ) (f : BranchedTest) → slice_get parts at ≡ Some (Test f) → (job : JobModel) → slice_get (task_jobs task) f.tree ≡ Some job → (own : PlanModel) → slice_get plans f.tree ≡ Some own → IsBranchOf (mode_stock task isas 0) job own.choice f)
          → (k : ℕ) (step : Step) → slice_get (items_from (isas 0).keeping (jump_form (isas 0).keeping (greatest_reach (isas 0).keeping)) (starts parts) 0 parts) k ≡ Some (Jump step)
          → (word : ℕ) × FitsTurn (own_net task isas 0) task.netlist.special word (operation_in (own_net task isas 0) (isas 0).patterns step)
      jump_words_of parts layout branch k step e =
          layout_words (own_net task isas 0) (keeps 0).order (keeps 0).rules task.netlist.special (isas 0).patterns (greatest_reach (isas 0).keeping) (mode_stock task isas 0) turning refl (turns (some_reach parts layout)) task.flow parts (places_in (stmts_of task.program.body))
          (task_is_flow task checked.jobs) (task_upto task checked.jobs) layout asked k step e
        where
          turning : AllTurn (own_net task isas 0) task.netlist.special (isas 0).patterns (isas 0).keeping
          turning = given_words (own_net task isas 0) (keeps 0).order (keeps 0).rules (isas 0).patterns (isas 0).are (isas 0).all (isas 0).most (isas 0).forms task.netlist.special (isas 0).keeping (isas 0).kept (register_in 0)

          fits : PartsFit (isas 0).keeping task.flow 0 task.flow parts
          fits = settled_fit (isas 0).keeping task.flow layout.sizes layout.branches parts layout.settled

          asked : (at : ℕ) (f : BranchedTest) → slice_get parts at ≡ Some (Test f)
              → IsAsked (own_net task isas 0) (keeps 0).order (keeps 0).rules task.netlist.special (isas 0).patterns (greatest_reach (isas 0).keeping) (mode_stock task isas 0) turning refl (turns (some_reach parts layout)) task.flow parts (places_in (stmts_of task.program.body)) (task_is_flow task checked.jobs) (task_upto task checked.jobs) layout f
          asked at f e =
              let t : IsTestJob (task_jobs task) f.tree = test_job_of (task_jobs task) (isas 0).keeping task.flow parts at f fits checked.jobs.tests e in
              let d = test_plan task isas (λ v. (give v).reads) node_limit small one plans planned (task_jobs task) plans f.tree t.job small planned t.at t.destination in
              let c : IsCovered (mode_stock task isas 0) (test_of t.job) d.0.choice = test_covered f.tree t.job d.0 t.at d.1 t.destination in
              let b : IsBranchOf (mode_stock task isas 0) t.job d.0.choice f = branch at f e t.job t.at d.0 d.1 in
              let is : tree_used t.job d.0.choice ≡ c.covers.tree = ap tree_or_none c.covers.used in
              record { tree = c.covers.tree; cover = d.0.choice.cover; orderly = c.covers.orderly; form = b.form; setting = b.setting ∙ ap (λ x. branch_setting (mode_stock task isas 0) x d.0.choice.cover) is }

  -- ---- the image

  module _ (image : Image) (made : IsMadeFor task image) where
    -- it has words
    some_words : 1 ≤ length (words_of image)
    some_words =
        let s = some_total (made.isas 0).keeping made.parts (settled_fit (made.isas 0).keeping task.flow made.sizes made.branches made.parts made.settled) in
        let m = made.long in
        omega (arith, s, m)

    kit : IsKit (machine task image made) 0 (kit_in task image made 0)
    kit = is_kit task image made keeps (give made.isas) register node_limit small checked.jobs.one checked.jobs.tests 0 refl

    laid : length (words_of image) ≤ code_size task.netlist.codes → length (words_of image) ≤ greatest_reach (made.isas 0).keeping
        → IsLaidCode (machine task image made) (kit_in task image made 0) image task.flow (task_jobs task) made.parts (greatest_reach (made.isas 0).keeping)
    laid room reached =
        made_laid task image made keeps (give made.isas) register node_limit small checked.jobs.one checked.jobs.tests room reached

    traces : length (words_of image) ≤ code_size task.netlist.codes → length (words_of image) ≤ greatest_reach (made.isas 0).keeping → TracesRight task.netlist image (strace task.width task.program)
    traces room reached =
        let s = some_words in
        made_traces task image made keeps (give made.isas) register node_limit small checked.jobs.one checked.jobs.tests room reached
        (turns made.isas (omega (arith, s, reached))) checked.program checked.words checked.jobs

    -- its words have the width of the netlist's words
    pub image_fits : length (words_of image) ≤ code_size task.netlist.codes → length (words_of image) ≤ greatest_reach (made.isas 0).keeping → (a : ℕ) → WordFits task.netlist (slice_index (words_of image) a)
    image_fits room reached a =
        let s = some_words in
        let m = made.long in
        word_in (base_at task.netlist 0) task.netlist (slice_index (words_of image) a) (same_codes 0)
        (code_fits (machine task image made) (kit_in task image made 0) kit image task.flow (task_jobs task) made.parts (greatest_reach (made.isas 0).keeping) checked.jobs.tests (laid room reached) (omega (arith, s, m)) a)

    pub right_image : length (words_of image) ≤ code_size task.netlist.codes → length (words_of image) ≤ greatest_reach (made.isas 0).keeping → IsRightImage task image
    right_image room reached = record { made = made; traces = traces room reached }

    pub bounded_image : (bound reach : ℕ) → HasBound task bound reach → bound ≤ reach → length (words_of image) ≤ code_size task.netlist.codes → IsRightImage task image
    bounded_image bound reach has within room = right_image room (made_reached task image made bound reach has within)
