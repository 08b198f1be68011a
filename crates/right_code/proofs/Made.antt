-- An image that is made for a task is code as the layout orders it, and traces the program with each
-- mark in mode 0.
use Rattle.std.proofs.Common.{ℕ, zero, suc, ◌≡◌, ◌≤◌, ◌==◌, ◌||◌, Bool, true, if◌then◌else◌, List, [], ◌∷◌, ◌++◌, length, Option, Some, None, refl, sym, ◌∙◌, ap, arith, subst, slice_get}
use Rattle.rec_bits.proofs.Options.{same_Some}
use Rattle.net_model.specs.declared.hardware.Netlist.{Netlist}
use Rattle.net_model.specs.declared.hardware.Storage.{Storage}
use Rattle.net_model.specs.CheckedRules.{code_size}
use Rattle.net_model.specs.declared.hardware.Space.TheVariants.{File as InFile}
use Rattle.net_model.specs.Nets.{IsRegister, file_place, memory_width, size_in}
use Rattle.net_model.specs.Patterns.{Pattern}
use Rattle.src_model.specs.Rules.{first_fault, temp_count}
use Rattle.src_model.specs.Trace.{strace}
use Rattle.code_model.specs.declared.image.Image.{Image}
use Rattle.code_model.specs.Places.{words_of}
use Rattle.form_model.specs.declared.forms.Step.{Step}
use Rattle.form_model.specs.Covers.{JobCoverModel, StockModel}
use Rattle.form_model.specs.Live.{Regs, no_regs}
use Rattle.form_model.specs.Forms.{FormModel, tested}
use Rattle.form_model.specs.Shapes.{shape_setting}
use Rattle.form_set.specs.Listing.{greatest_reach}
use Rattle.emit_seq.specs.ReadWords.{AllReadWords}
use Rattle.emit_seq.specs.Formed.{AreFormed}
use Rattle.emit_seq.specs.Spares.{AreShared, wanted}
use Rattle.net_model.specs.Modes.{IsBase}
use Rattle.net_model.specs.ModeRules.{KeepsInOrder}
use Rattle.code_model.specs.Right.{TracesRight}
use Rattle.net_model.proofs.Bases.{base_of}
use Rattle.mode_set.specs.Keeping.{AreKeeping, IsModeRegister, held}
use Rattle.src_trees.specs.Blocks.{jobs_at}
use Rattle.src_trees.specs.Lowered.{JobModel}
use Rattle.src_trees.specs.Measures.{AllSmall}
use Rattle.branch_fix.specs.Parts.{PartsFit}
use Rattle.branch_fix.specs.Sections.{Section, section_jobs}
use Rattle.branch_fix.proofs.Laying.{settled_fit}
use Rattle.right_code.specs.Jobs.{IsCovered, job_steps, jobs_steps, tree_used}
use Rattle.mode_set.specs.ModeWords.{FitsModeWord}
use Rattle.right_code.specs.Cuts.{AreBlockCuts, AreCutWords, AreJobWords, Cut, cuts_of, plans_at, with_mode}
use Rattle.right_code.specs.Images.{AreTestWords, IsMadeFor}
use Rattle.right_code.specs.Tasks.{HasJobs, Task, task_memory, task_jobs}
use Rattle.right_code.specs.Inner.Blocks.{IsKit, IsModeWordMade, Kit, Machine}
use Rattle.right_code.specs.Inner.Forks.{test_of}
use Rattle.right_code.specs.Inner.Jobs.{AreCovered}
use Rattle.right_code.specs.Inner.Laid.{AreSectionsReady, AreTurns, IsBlockReady, IsLaidCode, IsSectionReady}
use Rattle.right_code.proofs.Branching.{shape_fixed}
use Rattle.right_code.proofs.Chosen.{CutsCovered, as_test, block_covered, cut_jobs, cuts_covered, cuts_jobs, own_kit, own_net, test_plan}
use Rattle.right_code.proofs.Kept.{keep_of}
use Rattle.right_code.proofs.ModeKept.{StepsApart, job_apart, jobs_apart, packed_keep}
use Rattle.right_code.proofs.Ordered.{ordered_right}
use Rattle.right_code.proofs.Standing.{shown_some}
use Rattle.right_code.specs.FlowJobs.{AllOne, AreFlowJobs, IsTestJob}
use Rattle.right_code.proofs.Tasks.{test_job_of}

-- ---- what forms of a mode give

pub record FormsGive (netlist : Netlist) (patterns : List Pattern) (width size : ℕ) (forms : List FormModel) : Type 0 where
  pub formed : AreFormed (file_place netlist.storages) patterns (length netlist.storages) size forms
  pub shared : AreShared forms
  pub reads : AllReadWords width forms

jobs_spare : (o : Option ℕ) (netlist : Netlist) (patterns : List Pattern) (width : ℕ) (all : List FormModel) (stock : StockModel) → AreKeeping netlist patterns o all stock.forms → FormsGive netlist patterns width stock.file stock.forms
    → (jobs : List JobModel) (choices : List JobCoverModel) → AreCovered stock jobs choices → StepsApart o netlist patterns (jobs_steps stock jobs choices)
jobs_spare None netlist patterns width all stock k g jobs choices c = tt
jobs_spare (Some mode) netlist patterns width all stock k g jobs choices c =
    jobs_apart stock (file_place netlist.storages) patterns (length netlist.storages) mode g.formed g.shared (keep_of netlist patterns mode all stock.forms k) jobs choices c

job_spare : (o : Option ℕ) (netlist : Netlist) (patterns : List Pattern) (width : ℕ) (all : List FormModel) (stock : StockModel) → AreKeeping netlist patterns o all stock.forms → FormsGive netlist patterns width stock.file stock.forms
    → (job : JobModel) (choice : JobCoverModel) → IsCovered stock job choice → StepsApart o netlist patterns (job_steps stock job choice)
job_spare None netlist patterns width all stock k g job choice c = tt
job_spare (Some mode) netlist patterns width all stock k g job choice c =
    job_apart stock (file_place netlist.storages) patterns (length netlist.storages) mode g.formed g.shared (keep_of netlist patterns mode all stock.forms k) job choice c

pub has_in : (o : Option ℕ) (a b : Netlist) → a.storages ≡ b.storages → IsModeRegister o a → IsModeRegister o b
has_in None a b e h = tt
has_in (Some mode) a b e h = subst (λ (list : List Storage). IsRegister (slice_get list mode)) e h

-- a mode word puts its number
word_made : (netlist : Netlist) (special : Option ℕ) (patterns : List Pattern) (forms : List FormModel) (to number word : ℕ) → IsModeRegister special netlist → FitsModeWord netlist special patterns forms to number word → IsModeWordMade netlist special word to
word_made netlist special patterns forms to number word h f = record {
  clean = f.given.clean;
  id = f.mode;
  is = f.is;
  register = subst (λ o. IsModeRegister o netlist) f.is h;
  value = f.form.value;
  move = f.given.gives;
  puts = record { fixed = shape_fixed f.form.value to _ (shown_some (shape_setting f.form.value to) f.puts.shown); is = f.value };
  steps = f.steps;
  memory = f.memory;
}

wanted_on : (o : Option ℕ) (live : Regs) (r : ℕ) → live r ≡ true → with_mode o live r ≡ true
wanted_on None live r e = e
wanted_on (Some mode) live r e = ap (λ (b : Bool). b || (r == mode)) e

-- ---- the image

module _ (task : Task) (image : Image) (made : IsMadeFor task image) where
  abbrev pub net_in : ℕ → Netlist
  net_in v = own_net task made.isas v

  abbrev pub kit_in : ℕ → Kit
  kit_in v = own_kit task made.isas v

  abbrev pub machine : Machine
  machine = record { netlist = task.netlist; temps = temp_count task.width task.program }

  module _ (keeps : (v : ℕ) → KeepsInOrder (net_in v)) (give : (v : ℕ) → FormsGive (net_in v) (made.isas v).patterns task.width (size_in InFile task.netlist.storages) (made.isas v).keeping) (register : IsModeRegister task.netlist.special task.netlist) (most : ℕ)
      (small : AllSmall task.width (temp_count task.width task.program) most (task_jobs task)) (one : AllOne (task_jobs task)) (tests : AreFlowJobs (task_jobs task) task.flow) where
    pub is_kit : (v : ℕ) → held task.netlist v ≡ v → IsKit machine v (kit_in v)
    is_kit v e = record {
      base = subst (λ x. IsBase task.netlist task.netlist.special x (net_in v)) e (base_of task.netlist task.netlist.special (held task.netlist v));
      order = (keeps v).order;
      keeps = (keeps v).rules;
      sized = ap (size_in InFile) (sym (base_of task.netlist task.netlist.special (held task.netlist v)).storages);
      formed = (give v).formed;
      temps = refl;
    }

    has : (v : ℕ) → IsModeRegister task.netlist.special (net_in v)
    has v = has_in task.netlist.special task.netlist (net_in v) (sym (base_of task.netlist task.netlist.special (held task.netlist v)).storages) register

    -- ---- sections

    jobs_ready : (v : ℕ) (jobs : List JobModel) (choices : List JobCoverModel) (groups : List (List Step)) (words : List ℕ) → AreCovered (kit_in v).stock jobs choices
        → AreJobWords (net_in v) task.netlist.special (made.isas v).patterns (kit_in v).stock jobs choices groups words → IsBlockReady (net_in v) task.netlist.special (made.isas v).patterns (kit_in v).stock jobs words (length words)
    jobs_ready v jobs choices groups words c p = record {
      choices = choices;
      covered = c;
      live = with_mode task.netlist.special no_regs;
      groups = groups;
      means = p.packing.means;
      least = p.least;
      long = refl;
      kept = packed_keep task.netlist.special (net_in v) (made.isas v).patterns (jobs_steps (kit_in v).stock jobs choices) no_regs groups words (has v)
          (jobs_spare task.netlist.special (net_in v) (made.isas v).patterns task.width (made.isas v).all (kit_in v).stock (made.isas v).kept (give v) jobs choices c) p.packing p.least;
    }

    cut_ready : (v : ℕ) (jobs : List JobModel) (choices : List JobCoverModel) (groups : List (List Step)) (words : List ℕ) → AreCovered (kit_in v).stock jobs choices → AreCutWords task made.isas v jobs choices groups words
        → (n : ℕ) × IsSectionReady machine (kit_in 0) v jobs n words
    cut_ready zero jobs choices groups words c p = (length words, jobs_ready 0 jobs choices groups words c p)
    cut_ready (suc v) jobs choices groups words c p =
        let is : held task.netlist (suc v) ≡ suc v = ap (λ (b : Bool). if b then suc v else 0) p.0 in (
          length p.4,
          (
            kit_in (suc v),
            is_kit (suc v) is,
            p.1.word,
            p.4,
            p.2.word,
            p.6,
            word_made (net_in 0) task.netlist.special (made.isas 0).patterns (made.isas 0).all (suc v) p.1.step.pattern p.1.word (has 0) p.7.fits,
            jobs_ready (suc v) jobs choices p.3 p.4 c p.8,
            word_made (net_in (suc v)) task.netlist.special (made.isas (suc v)).patterns (made.isas (suc v)).all 0 p.2.step.pattern p.2.word (has (suc v)) p.9.fits,
          ),
        )

    record CutsReady (cuts : List Cut) (words : List ℕ) : Type 0 where
      sections : List Section
      jobs : cut_jobs cuts ≡ section_jobs sections
      ready : AreSectionsReady machine (kit_in 0) sections words

    cuts_ready : (cuts : List Cut) (groups : List (List Step)) (words : List ℕ) → CutsCovered task made.isas cuts → AreBlockCuts task made.isas cuts groups words → CutsReady cuts words
    cuts_ready [] groups words c p = record { sections = []; jobs = refl; ready = p.1 }
    cuts_ready (x ∷ cuts) groups words c p =
        let one_cut = cut_ready x.mode x.jobs x.choices p.0 p.2 c.0 p.6 in
        let r : CutsReady cuts p.3 = cuts_ready cuts p.1 p.3 c.1 p.7 in
        record {
          sections = record { mode = x.mode; jobs = x.jobs; words = one_cut.0 } ∷ r.sections;
          jobs = ap (λ (list : List JobModel). x.jobs ++ list) r.jobs;
          ready = (p.2, p.3, p.5, one_cut.1, r.ready);
        }

    -- ---- the code

    pub made_laid : length (words_of image) ≤ code_size task.netlist.codes → length (words_of image) ≤ greatest_reach (made.isas 0).keeping
        → IsLaidCode machine (kit_in 0) image task.flow (task_jobs task) made.parts (greatest_reach (made.isas 0).keeping)
    made_laid room reached =
        let fit : PartsFit (made.isas 0).keeping task.flow 0 task.flow made.parts = settled_fit (made.isas 0).keeping task.flow made.sizes made.branches made.parts made.settled in
        let long = made.long in
        let codes : code_size (net_in 0).codes ≡ code_size task.netlist.codes = ap code_size (is_kit 0 refl).base.codes in
        record {
          layout = record { sizes = made.sizes; branches = made.branches; settled = made.settled; reached = omega (arith, long, reached) };
          room = omega (arith, long, room, codes);
          marks = made.marks;
          words = made.words;
          stand = made.stand;
          long = made.long;
          blocks = λ at n block size b e.
              (let p = made.blocks at n block size b e in
              let c = block_covered task made.isas (λ v. (give v).reads) most small one made.plans made.planned task.flow at n in
              let r : CutsReady (cuts_of (jobs_at task.flow (task_jobs task) at n) (plans_at task.flow made.plans at n)) (made.words block) =
              cuts_ready (cuts_of (jobs_at task.flow (task_jobs task) at n) (plans_at task.flow made.plans at n)) (made.groups block) (made.words block)
              (cuts_covered task made.isas (jobs_at task.flow (task_jobs task) at n) (plans_at task.flow made.plans at n) c) p.0 in
              record { sections = r.sections; are = cuts_jobs task made.isas (jobs_at task.flow (task_jobs task) at n) (plans_at task.flow made.plans at n) c ∙ r.jobs; ready = r.ready; long = p.1 });
          forks = λ at f e job has_job.
              (let t : IsTestJob (task_jobs task) f.tree = test_job_of (task_jobs task) (made.isas 0).keeping task.flow made.parts at f fit tests e in
              let aim : job.destination ≡ tested = ap (λ (x : JobModel). x.destination) (same_Some job t.job (sym has_job ∙ t.at)) ∙ t.destination in
              let d = test_plan task made.isas (λ v. (give v).reads) most small one made.plans made.planned (task_jobs task) made.plans f.tree job small made.planned has_job aim in
              let same : test_of job ≡ job = as_test job aim in
              let p : AreTestWords (net_in 0) task.netlist.special (made.isas 0).patterns (kit_in 0).stock (test_of job) d.0.choice (made.groups f.block) (made.words f.block) f =
              subst (λ (x : JobModel). AreTestWords (net_in 0) task.netlist.special (made.isas 0).patterns (kit_in 0).stock x d.0.choice (made.groups f.block) (made.words f.block) f) (sym same) (made.tests at f e job has_job d.0 d.1) in
              let c : IsCovered (kit_in 0).stock (test_of job) d.0.choice = subst (λ (x : JobModel). IsCovered (kit_in 0).stock x d.0.choice) (sym same) d.2 in
              record {
                choice = d.0.choice;
                covered = c;
                live = with_mode task.netlist.special (wanted (kit_in 0).stock tested (tree_used (test_of job) d.0.choice) d.0.choice.cover);
                groups = made.groups f.block;
                means = p.packing.means;
                least = p.least;
                long = p.long;
                kept = packed_keep task.netlist.special (net_in 0) (made.isas 0).patterns (job_steps (kit_in 0).stock (test_of job) d.0.choice) (wanted (kit_in 0).stock tested (tree_used (test_of job) d.0.choice) d.0.choice.cover) (made.groups f.block) (made.words f.block) (has 0)
                    (job_spare task.netlist.special (net_in 0) (made.isas 0).patterns task.width (made.isas 0).all (kit_in 0).stock (made.isas 0).kept (give 0) (test_of job) d.0.choice c) p.packing p.least;
                wants = λ r h. wanted_on task.netlist.special (wanted (kit_in 0).stock tested (tree_used (test_of job) d.0.choice) d.0.choice.cover) r h;
                form = p.branch.form;
                setting = p.branch.setting;
              });
        }

    -- from every start state in mode 0
    pub made_traces : length (words_of image) ≤ code_size task.netlist.codes → length (words_of image) ≤ greatest_reach (made.isas 0).keeping → AreTurns (net_in 0) (made.isas 0).patterns (made.isas 0).keeping (greatest_reach (made.isas 0).keeping)
        → first_fault task.width task.program ≡ None → memory_width task.netlist.storages ≡ task.width → HasJobs task → TracesRight task.netlist image (strace task.width task.program)
    made_traces room reached turns program wide jobs =
        ordered_right machine (kit_in 0) (is_kit 0 refl) image (greatest_reach (made.isas 0).keeping) turns (task_memory task) task.program jobs.turned task.jobs made.parts program wide jobs.held jobs.room made.layout.places jobs.only jobs.meant
        (subst (λ flow. IsLaidCode machine (kit_in 0) image flow (task_jobs task) made.parts (greatest_reach (made.isas 0).keeping)) jobs.flow (made_laid room reached))
