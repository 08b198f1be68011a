-- What a program passes, path by path: from each place of its flow a path leads to the next test or to
-- the end, over jobs that are safe, and the checkpoints there are those of the program.
use Rattle.std.proofs.Common.{ℕ, zero, suc, ◌≡◌, ◌≤◌, ◌<◌, ◌+◌, ◌^◌, Bool, true, false, not, if◌then◌else◌, List, [], ◌∷◌, ◌++◌, Option, Some, None, refl, sym, ◌∙◌, subst, arith, slice_get}
use Rattle.rec_bits.specs.Operators.{bit_of}
use Rattle.src_model.specs.declared.program.Cmp.{Cmp}
use Rattle.src_model.specs.declared.program.Cmp.TheVariants.{Ne}
use Rattle.src_model.specs.declared.checkpoint.Checkpoint.TheVariants.{At, End as TheEnd}
use Rattle.src_model.specs.declared.program.Var.{Var as Declared}
use Rattle.src_model.specs.Written.{SrcExprModel, SpotModel, SrcTestModel as Tested, StmtModel, assign, choice, while, count, StmtsModel, no_acts, act, ElseModel, without, otherwise, ProgramModel, stmts_of}
use Rattle.src_model.specs.Rules.{first_fault}
use Rattle.src_model.specs.Sizes.{statements, statements_in}
use Rattle.src_model.specs.Loops.{Round, place_shape}
use Rattle.src_model.specs.Meaning.{assigned, holds, FitsStore}
use Rattle.src_model.specs.Ways.{Passed, Onward, pass, choose, loop, finish}
use Rattle.src_model.specs.Trace.{started, stepped, counting, after_change, run_stmt, run_in, run_else}
use Rattle.src_model.specs.Inner.Sound.{Holds, Turns, SoundAssign, SoundTest, SoundCount, Sound, SoundIn, SoundElse}
use Rattle.src_model.proofs.WayLemmas.{Keeps, loop_step}
use Rattle.src_model.proofs.TraceLemmas.{counted_body, body_keeps, counted_keeps}
use Rattle.src_model.proofs.RangeLemmas.{inside}
use Rattle.src_model.proofs.CounterLemmas.{assign_holds, start_turns, turn_holds, step_turns}
use Rattle.src_model.proofs.SoundLemmas.{program_sound}
use Rattle.form_model.specs.declared.flow.Flow.{Flow}
use Rattle.form_model.specs.declared.flow.Flow.TheVariants.{Assign, Test, Jump, End}
use Rattle.src_trees.specs.Lowered.{MemoryMap, JobModel, holds_at_one, answer, job_of_assign, job_of_test, job_of_start, job_of_counting, job_of_step, stmt_jobs, jobs_in, jobs_else}
use Rattle.src_trees.specs.Flows.{program_flow, program_jobs, places_for, places_in, places_else, else_entry, asked, flow_of, flow_in, flow_else}
use Rattle.src_trees.specs.Seen.{seen_store, CanAssign, CanTest}
use Rattle.src_trees.specs.Held.{HasCellRoom, HoldsCells, HoldsVars}
use Rattle.src_trees.specs.Meant.{KeepsMeaning, count_test}
use Rattle.src_trees.specs.Doing.{done, all_done, job_value, AllAre}
use Rattle.src_trees.proofs.Cells.{done_words}
use Rattle.src_trees.proofs.Following.{own_meaning}
use Rattle.rec_bits.proofs.Booleans.{and_from}
use Rattle.rec_bits.proofs.Options.{same_Some}
use Rattle.src_trees.proofs.Parts.{stand_all, Stand, stand_left, stand_right, in_length, flow_length, jobs_in_length, stmt_jobs_length, all_done_length}
use Rattle.follow.specs.Paths.{Path, path_from, checkpoint_at}
use Rattle.follow.specs.Safe.{IsSafe, AreSafe, IsTestSafe}
use Rattle.follow.proofs.Safety.{safe_assign, safe_test, safe_start, safe_step}

-- ---- paths and checkpoints

module _ (mem : MemoryMap) (temps : ℕ) (vars : List Declared) (flow : List Flow) (jobs : List JobModel) where
  -- there is a path from a place, whose jobs are safe in these cells and leave them words, and so is the
  -- job of a test at its end
  pub record Way (at : ℕ) (cells : List ℕ) : Type 0 where
    pub most : ℕ
    pub path : Path
    pub is : path_from flow jobs most at ≡ Some path
    pub safe : AreSafe mem temps vars cells path.jobs
    pub asks : IsTestSafe mem temps vars jobs (checkpoint_at (slice_get flow path.to)) (all_done path.jobs cells)
    pub holds : HoldsCells temps mem (all_done path.jobs cells)

  -- what comes after a checkpoint: the test there has an answer, which decides where it goes on;
  -- nothing comes after the end
  abbrev pub Onwards : Option Flow → List ℕ → List Passed → (ℕ → Type 0) → Type 0
  Onwards None cells ps Later = ⊥
  Onwards (Some (Assign tree)) cells ps Later = ⊥
  Onwards (Some (Test tree one zer)) cells ps Later =
      (d : Bool) × (job : JobModel) × (slice_get jobs tree ≡ Some job) × IsSafe mem temps vars cells job
      × AllAre (bit_of d) cells job.trees × Later (if d then one else zer)
  Onwards (Some (Jump to)) cells ps Later = ⊥
  Onwards (Some End) cells ps Later = ps ≡ []

  -- with these cells at a place of the flow where a path ends, these checkpoints are passed
  abbrev pub Passes : Option Flow → List ℕ → List Passed → Type 0
  Passes f cells [] = Unit {0}
  Passes f cells (p ∷ ps) =
      (checkpoint_at f ≡ Some p.label) × (seen_store mem cells ≡ p.cells)
      × Onwards f cells ps (λ (to : ℕ). (w : Way to cells) × Passes (slice_get flow w.path.to) (all_done w.path.jobs cells) ps)

  -- and so they are from any place
  abbrev pub PassesFrom : ℕ → List ℕ → List Passed → Type 0
  PassesFrom at cells ps = (w : Way at cells) × Passes (slice_get flow w.path.to) (all_done w.path.jobs cells) ps

  over_job : (at tree n : ℕ) (job : JobModel) (path : Path) → slice_get flow at ≡ Some (Assign tree) → slice_get jobs tree ≡ Some job → path_from flow jobs n (at + 1) ≡ Some path
      → path_from flow jobs (suc n) at ≡ Some (record { jobs = job ∷ path.jobs; to = path.to })
  over_job at tree n job path e f g = rw e (rw f (rw g refl))

  over_jump : (at to n : ℕ) (path : Path) → slice_get flow at ≡ Some (Jump to) → path_from flow jobs n to ≡ Some path → path_from flow jobs (suc n) at ≡ Some path
  over_jump at to n path e g = rw e g

  at_test : (at tree one zer : ℕ) → slice_get flow at ≡ Some (Test tree one zer) → path_from flow jobs 1 at ≡ Some (record { jobs = []; to = at })
  at_test at tree one zer e = rw e refl

  at_end : (at : ℕ) → slice_get flow at ≡ Some End → path_from flow jobs 1 at ≡ Some (record { jobs = []; to = at })
  at_end at e = rw e refl

  pub on_job : (at tree : ℕ) (job : JobModel) (cells : List ℕ) (ps : List Passed) → slice_get flow at ≡ Some (Assign tree) → slice_get jobs tree ≡ Some job → IsSafe mem temps vars cells job
      → PassesFrom (at + 1) (done job cells) ps → PassesFrom at cells ps
  on_job at tree job cells ps e f safe h = (
    record {
      most = suc h.0.most;
      path = record { jobs = job ∷ h.0.path.jobs; to = h.0.path.to };
      is = over_job at tree h.0.most job h.0.path e f h.0.is;
      safe = (safe, h.0.safe);
      asks = h.0.asks;
      holds = h.0.holds;
    },
    h.1,
  )

  pub on_jump : (at to : ℕ) (cells : List ℕ) (ps : List Passed) → slice_get flow at ≡ Some (Jump to) → PassesFrom to cells ps → PassesFrom at cells ps
  on_jump at to cells ps e h = (
    record {
      most = suc h.0.most;
      path = h.0.path;
      is = over_jump at to h.0.most h.0.path e h.0.is;
      safe = h.0.safe;
      asks = h.0.asks;
      holds = h.0.holds;
    },
    h.1,
  )

  -- at a test and at the end
  asks_test : (at tree one zer : ℕ) (cells : List ℕ) (job : JobModel) → slice_get flow at ≡ Some (Test tree one zer) → slice_get jobs tree ≡ Some job → IsSafe mem temps vars cells job
      → IsTestSafe mem temps vars jobs (checkpoint_at (slice_get flow at)) cells
  asks_test at tree one zer cells job e f safe =
      subst (λ x. IsTestSafe mem temps vars jobs (checkpoint_at x) cells) (sym e)
      (λ other is. subst (IsSafe mem temps vars cells) (same_Some job other (sym f ∙ is)) safe)

  abbrev way_at_test : (at tree one zer : ℕ) (cells : List ℕ) (job : JobModel) → slice_get flow at ≡ Some (Test tree one zer) → slice_get jobs tree ≡ Some job → IsSafe mem temps vars cells job
      → HoldsCells temps mem cells → Way at cells
  way_at_test at tree one zer cells job e f safe h = record {
    most = 1;
    path = record { jobs = []; to = at };
    is = at_test at tree one zer e;
    safe = tt;
    asks = asks_test at tree one zer cells job e f safe;
    holds = h;
  }

  abbrev way_at_end : (at : ℕ) (cells : List ℕ) → slice_get flow at ≡ Some End → HoldsCells temps mem cells → Way at cells
  way_at_end at cells e h = record {
    most = 1;
    path = record { jobs = []; to = at };
    is = at_end at e;
    safe = tt;
    asks = subst (λ x. IsTestSafe mem temps vars jobs (checkpoint_at x) cells) (sym e) tt;
    holds = h;
  }

-- ---- what a store keeps at a place: in the bodies of loops, or at the test of a `for` within them

data Phase : Type 0 where
  body : List Round → Phase
  turn : List Round → List ℕ → ℕ → ℕ → Phase

abbrev Meets : ℕ → List Declared → Phase → List ℕ → Type 0
Meets bits vars (body rounds) cells = Holds bits vars rounds cells
Meets bits vars (turn rounds counter from to) cells = Turns bits vars rounds counter from to cells

module _ (mem : MemoryMap) (temps : ℕ) (vars : List Declared) (flow : List Flow) (jobs : List JobModel) (held : HoldsVars temps vars mem) where
  -- from a place, in all cells that keep what is kept there, a way on is passed
  abbrev StandsAt : ℕ → Phase → Onward → ℕ → Type 0
  StandsAt i j way m = (k : ℕ) → k ≤ m → (cells : List ℕ) → HoldsCells temps mem cells → Meets mem.word vars j (seen_store mem cells)
      → PassesFrom mem temps vars flow jobs i cells (way k (seen_store mem cells))

  stands_less : (i : ℕ) (j : Phase) (way : Onward) (m : ℕ) → StandsAt i j way (suc m) → StandsAt i j way m
  stands_less i j way m h k le = h k (omega arith)

  -- ---- assignments and jumps

  -- a job that does what an assignment says
  record Does (job : JobModel) (j k : Phase) (change : List ℕ → List ℕ) : Type 0 where
    safe : (cells : List ℕ) → HoldsCells temps mem cells → Meets mem.word vars j (seen_store mem cells) → IsSafe mem temps vars cells job
    is : (cells : List ℕ) → HoldsCells temps mem cells → Meets mem.word vars j (seen_store mem cells) → seen_store mem (done job cells) ≡ change (seen_store mem cells)
    fits : (cells : List ℕ) → HoldsCells temps mem cells → Meets mem.word vars j (seen_store mem cells) → job_value cells job.trees < 2 ^ mem.word
    keeps : (store : List ℕ) → Meets mem.word vars j store → Meets mem.word vars k (change store)

  done_holds : (job : JobModel) (cells : List ℕ) → HoldsCells temps mem cells → job_value cells job.trees < 2 ^ mem.word → HoldsCells temps mem (done job cells)
  done_holds job cells h fits = record {
    room = subst (HasCellRoom temps mem) (sym (all_done_length (job ∷ []) cells)) h.room;
    words = done_words (2 ^ mem.word) job cells h.words fits;
  }

  assigned_stands : (i : ℕ) (j k : Phase) (change : List ℕ → List ℕ) (tree : ℕ) (job : JobModel) (way : Onward) (m : ℕ) → slice_get flow i ≡ Some (Assign tree) → slice_get jobs tree ≡ Some job → Does job j k change
      → StandsAt (i + 1) k way m → StandsAt i j (after_change change way) m
  assigned_stands i j k change tree job way m at_flow at_jobs does h n le cells c q =
      let same : seen_store mem (done job cells) ≡ change (seen_store mem cells) = does.is cells c q in
      let kept : Meets mem.word vars k (seen_store mem (done job cells)) = subst (Meets mem.word vars k) (sym same) (does.keeps (seen_store mem cells) q) in
      let later : PassesFrom mem temps vars flow jobs (i + 1) (done job cells) (way n (seen_store mem (done job cells))) = h n le (done job cells) (done_holds job cells c (does.fits cells c q)) kept in
      on_job mem temps vars flow jobs i tree job cells (way n (change (seen_store mem cells))) at_flow at_jobs (does.safe cells c q)
      (subst (λ store. PassesFrom mem temps vars flow jobs (i + 1) (done job cells) (way n store)) same later)

  jumped : (i to : ℕ) (j : Phase) (way : Onward) (m : ℕ) → slice_get flow i ≡ Some (Jump to) → StandsAt to j way m → StandsAt i j way m
  jumped i to j way m at_flow h n le cells c q = on_jump mem temps vars flow jobs i to cells (way n (seen_store mem cells)) at_flow (h n le cells c q)

  end_stands : (i : ℕ) (j : Phase) (m : ℕ) → slice_get flow i ≡ Some End → StandsAt i j finish m
  end_stands i j m at_flow zero le cells c q = (way_at_end mem temps vars flow jobs i cells at_flow c, tt)
  end_stands i j m at_flow (suc n) le cells c q = (
    way_at_end mem temps vars flow jobs i cells at_flow c,
    subst (λ f. Passes mem temps vars flow jobs f cells (record { label = TheEnd; cells = seen_store mem cells } ∷ [])) (sym at_flow) (refl, refl, refl),
  )

  -- ---- tests

  -- a job whose trees tell a test, and what the store keeps behind it
  record Tells (job : JobModel) (cmp : Cmp) (test : List ℕ → Bool) (j k other : Phase) : Type 0 where
    safe : (cells : List ℕ) → HoldsCells temps mem cells → Meets mem.word vars j (seen_store mem cells) → IsSafe mem temps vars cells job
    are : (cells : List ℕ) → HoldsCells temps mem cells → Meets mem.word vars j (seen_store mem cells) → AllAre (bit_of (answer cmp (test (seen_store mem cells)))) cells job.trees
    on_true : (store : List ℕ) → Meets mem.word vars j store → test store ≡ true → Meets mem.word vars k store
    on_false : (store : List ℕ) → Meets mem.word vars j store → test store ≡ false → Meets mem.word vars other store

  module _ (i tree yes_to no_to : ℕ) (cmp : Cmp) (test : List ℕ → Bool) (job : JobModel) (j k other : Phase) (at_flow : slice_get flow i ≡ Some (asked cmp tree yes_to no_to)) (at_jobs : slice_get jobs tree ≡ Some job)
      (tells : Tells job cmp test j k other) where
    here_to : (cells : List ℕ) (c : HoldsCells temps mem cells) → IsSafe mem temps vars cells job → (ps : List Passed) → Passes mem temps vars flow jobs (slice_get flow i) cells ps
        → PassesFrom mem temps vars flow jobs i cells ps
    here_to cells c safe ps h = by (holds_at_one cmp) at_flow
      where
        by : (b : Bool) → slice_get flow i ≡ Some (if b then Test tree yes_to no_to else Test tree no_to yes_to) → PassesFrom mem temps vars flow jobs i cells ps
        by true e = (way_at_test mem temps vars flow jobs i tree yes_to no_to cells job e at_jobs safe c, h)
        by false e = (way_at_test mem temps vars flow jobs i tree no_to yes_to cells job e at_jobs safe c, h)

    test_stands : (a b : Onward) (m : ℕ) → StandsAt yes_to k a m → StandsAt no_to other b m → StandsAt i j (pass (At tree) (choose test a b)) (suc m)
    test_stands a b m p q zero le cells c h = here_to cells c (tells.safe cells c h) [] tt
    test_stands a b m p q (suc n) le cells c h = here_to cells c (tells.safe cells c h) (pass (At tree) (choose test a b) (suc n) (seen_store mem cells)) (by (holds_at_one cmp) refl at_flow)
      where
        store : List ℕ
        store = seen_store mem cells

        yes : test store ≡ true → PassesFrom mem temps vars flow jobs yes_to cells (a n store)
        yes is = p n (omega arith) cells c (tells.on_true store h is)

        no : test store ≡ false → PassesFrom mem temps vars flow jobs no_to cells (b n store)
        no is = q n (omega arith) cells c (tells.on_false store h is)

        one_way : (x : Bool) → test store ≡ x → PassesFrom mem temps vars flow jobs (if x then yes_to else no_to) cells (if x then a n store else b n store)
        one_way true is = yes is
        one_way false is = no is

        other_way : (x : Bool) → test store ≡ x → PassesFrom mem temps vars flow jobs (if not x then no_to else yes_to) cells (if x then a n store else b n store)
        other_way true is = yes is
        other_way false is = no is

        told : (v : Bool) → holds_at_one cmp ≡ v → AllAre (bit_of (if v then test store else not (test store))) cells job.trees
        told v e = subst (λ (w : Bool). AllAre (bit_of (if w then test store else not (test store))) cells job.trees) e (tells.are cells c h)

        by : (v : Bool) → holds_at_one cmp ≡ v → slice_get flow i ≡ Some (if v then Test tree yes_to no_to else Test tree no_to yes_to)
            → Passes mem temps vars flow jobs (slice_get flow i) cells (pass (At tree) (choose test a b) (suc n) store)
        by true e f =
            subst (λ (x : Option Flow). Passes mem temps vars flow jobs x cells (pass (At tree) (choose test a b) (suc n) store)) (sym f)
            (refl, refl, (test store, job, at_jobs, tells.safe cells c h, told true e, one_way (test store) refl))
        by false e f =
            subst (λ (x : Option Flow). Passes mem temps vars flow jobs x cells (pass (At tree) (choose test a b) (suc n) store)) (sym f)
            (refl, refl, (not (test store), job, at_jobs, tells.safe cells c h, told false e, other_way (test store) refl))

    -- a loop: its test, its body, and from the end of the body the test again
    loop_stands : (inner : Onward → Onward) (next : Onward) → Keeps inner → ((way : Onward) (n : ℕ) → StandsAt i j way n → StandsAt yes_to k (inner way) n) → (m : ℕ) → StandsAt no_to other next m
        → StandsAt i j (loop (At tree) test inner next) m
    loop_stands inner next keeps through m h zero le cells c q = here_to cells c (tells.safe cells c q) [] tt
    loop_stands inner next keeps through zero h (suc n) le cells c q = absurd (omega arith)
    loop_stands inner next keeps through (suc m) h (suc n) le cells c q =
        subst (λ (ps : List Passed). PassesFrom mem temps vars flow jobs i cells ps) (sym (loop_step (suc n) (At tree) test inner next keeps (seen_store mem cells)))
        (test_stands (inner (loop (At tree) test inner next)) next m
        (through (loop (At tree) test inner next) m (loop_stands inner next keeps through m (stands_less no_to other next m h)))
        (stands_less no_to other next m h) (suc n) le cells c q)

    once_stands : (a b : Onward) (m : ℕ) → StandsAt yes_to k a m → StandsAt no_to other b m → StandsAt i j (pass (At tree) (choose test a b)) m
    once_stands a b m p q = stands_less i j (pass (At tree) (choose test a b)) m (test_stands a b m p q)

  -- ---- what the jobs of statements do

  meaning : KeepsMeaning mem temps vars (λ job. job)
  meaning = own_meaning mem temps vars held

  can_assign : (rounds : List Round) (place : SpotModel) (e : SrcExprModel) → SoundAssign mem.word vars rounds place e → (store : List ℕ) → Holds mem.word vars rounds store → CanAssign mem.word vars store place e
  can_assign rounds place e f store h = record {
    left = record { fits = f.left.fits; known = f.left.known; inside = inside mem.word vars store h.fits.below rounds h.counts mem.word (place_shape place) f.left.fits f.left.known f.left.within };
    right = record { fits = f.right.fits; known = f.right.known; inside = inside mem.word vars store h.fits.below rounds h.counts mem.word e.shape f.right.fits f.right.known f.right.within };
  }

  assign_does : (rounds : List Round) (place : SpotModel) (e : SrcExprModel) → SoundAssign mem.word vars rounds place e → Does (job_of_assign mem place e) (body rounds) (body rounds) (assigned mem.word vars place e)
  assign_does rounds place e f = record {
    safe = λ cells c h. safe_assign mem temps vars held cells c place e (can_assign rounds place e f (seen_store mem cells) h, f.width);
    is = λ cells c h. (meaning.assigns place e).store cells c (can_assign rounds place e f (seen_store mem cells) h, f.width);
    fits = λ cells c h. (meaning.assigns place e).fits cells c (can_assign rounds place e f (seen_store mem cells) h, f.width);
    keeps = λ store h. assign_holds mem.word vars rounds place e store f (can_assign rounds place e f store h).left.inside h;
  }

  start_does : (rounds : List Round) (counter : List ℕ) (from to : ℕ) → SoundCount mem.word vars rounds counter from to → Does (job_of_start mem counter from) (body rounds) (turn rounds counter from to) (started vars counter from)
  start_does rounds counter from to f =
      let below : from < 2 ^ mem.word = omega (arith, f.fits.order, f.fits.below) in
      record {
        safe = λ cells c h. safe_start mem temps vars held cells c counter from (f.plain, below);
        is = λ cells c h. (meaning.starts counter from).store cells c (f.plain, below);
        fits = λ cells c h. (meaning.starts counter from).fits cells c (f.plain, below);
        keeps = λ store h. start_turns mem.word vars rounds counter from to f store h;
      }

  step_does : (rounds : List Round) (counter : List ℕ) (from to : ℕ) → SoundCount mem.word vars rounds counter from to
      → Does (job_of_step mem counter) (body (record { counter = counter; from = from; to = to } ∷ rounds)) (turn rounds counter from to) (stepped mem.word vars counter)
  step_does rounds counter from to f = record {
    safe = λ cells c h. safe_step mem temps vars held cells c counter f.plain;
    is = λ cells c h. (meaning.steps counter).store cells c f.plain;
    fits = λ cells c h. (meaning.steps counter).fits cells c f.plain;
    keeps = λ store h. step_turns mem.word vars rounds counter from to f store h;
  }

  can_test : (rounds : List Round) (test : Tested) → SoundTest mem.word vars rounds test → (store : List ℕ) → Holds mem.word vars rounds store → CanTest mem.word vars store test
  can_test rounds test f store h = record {
    words = h.fits.below;
    sides = f.sides;
    left_known = f.left_known;
    right_known = f.right_known;
    inside = and_from _ _
        (inside mem.word vars store h.fits.below rounds h.counts _ test.left.shape f.sides.left f.left_known f.left_within)
        (inside mem.word vars store h.fits.below rounds h.counts _ test.right.shape f.sides.right f.right_known f.right_within);
  }

  test_tells : (rounds : List Round) (test : Tested) → SoundTest mem.word vars rounds test → Tells (job_of_test mem test) test.cmp (holds mem.word vars test) (body rounds) (body rounds) (body rounds)
  test_tells rounds test f = record {
    safe = λ cells c h. safe_test mem temps vars held cells c test (can_test rounds test f (seen_store mem cells) h);
    are = λ cells c h. (meaning.tests test).value cells c (can_test rounds test f (seen_store mem cells) h);
    on_true = λ store h e. h;
    on_false = λ store h e. h;
  }

  can_count : (rounds : List Round) (counter : List ℕ) (at from to : ℕ) → SoundCount mem.word vars rounds counter from to → (store : List ℕ) → Turns mem.word vars rounds counter from to store → CanTest mem.word vars store (count_test counter at to)
  can_count rounds counter at from to f store t = record {
    words = t.holds.fits.below;
    sides = record { left = tt; right = f.fits.below; left_width = refl; right_width = refl };
    left_known = f.plain;
    right_known = tt;
    inside = refl;
  }

  counting_tells : (rounds : List Round) (counter : List ℕ) (at from to : ℕ) → SoundCount mem.word vars rounds counter from to
      → Tells (job_of_counting mem counter at to) Ne (counting vars counter to) (turn rounds counter from to) (body (record { counter = counter; from = from; to = to } ∷ rounds)) (body rounds)
  counting_tells rounds counter at from to f = record {
    safe = λ cells c t. safe_test mem temps vars held cells c (count_test counter at to) (can_count rounds counter at from to f (seen_store mem cells) t);
    are = λ cells c t. (meaning.tests (count_test counter at to)).value cells c (can_count rounds counter at from to f (seen_store mem cells) t);
    on_true = λ store t e. turn_holds mem.word vars rounds counter from to f store t e;
    on_false = λ store t e. t.holds;
  }

  -- the way on from where an `if`'s test doesn't hold, and that from behind its first part
  record Elsewhere (rounds : List Round) (at : ℕ) (o : ElseModel) (other way : Onward) (m : ℕ) : Type 0 where
    entry : StandsAt (else_entry o at) (body rounds) other m
    over : StandsAt at (body rounds) way m

  -- ---- statements

  mutual
    unfolding run_stmt run_in run_else

    stmt_stands : (rounds : List Round) (a : StmtModel) (tree at : ℕ) → Sound mem.word vars rounds a → Stand flow at (flow_of a tree at) → Stand jobs tree (stmt_jobs mem a) → (way : Onward) (m : ℕ)
        → StandsAt (at + places_for a) (body rounds) way m → StandsAt at (body rounds) (run_stmt mem.word vars a tree way) m
    stmt_stands rounds (assign place e) tree at f in_flow in_jobs way m h =
        assigned_stands at (body rounds) (body rounds) (assigned mem.word vars place e) tree (job_of_assign mem place e) way m in_flow.0 in_jobs.0 (assign_does rounds place e f) h
    stmt_stands rounds (choice test taken other) tree at f in_flow in_jobs way m h =
        let flow_taken : Stand flow (at + 1) (flow_in taken (tree + 1) (at + 1)) =
        stand_left flow (at + 1) (flow_in taken (tree + 1) (at + 1)) (flow_else other (tree + 1 + statements_in taken) (at + 1 + places_in taken)) in_flow.1 in
        let flow_other : Stand flow (at + 1 + places_in taken) (flow_else other (tree + 1 + statements_in taken) (at + 1 + places_in taken)) =
        stand_right flow (at + 1) (at + 1 + places_in taken) (flow_in taken (tree + 1) (at + 1)) (flow_else other (tree + 1 + statements_in taken) (at + 1 + places_in taken))
        (let n = in_length taken (tree + 1) (at + 1) in omega (arith, n)) in_flow.1 in
        let jobs_taken : Stand jobs (tree + 1) (jobs_in mem taken) = stand_left jobs (tree + 1) (jobs_in mem taken) (jobs_else mem other) in_jobs.1 in
        let jobs_other : Stand jobs (tree + 1 + statements_in taken) (jobs_else mem other) =
        stand_right jobs (tree + 1) (tree + 1 + statements_in taken) (jobs_in mem taken) (jobs_else mem other) (let n = jobs_in_length mem taken in omega (arith, n)) in_jobs.1 in
        let o : Elsewhere rounds (at + 1 + places_in taken) other (run_else mem.word vars other (tree + 1 + statements_in taken) way) way m =
        else_stands rounds other (tree + 1 + statements_in taken) (at + 1 + places_in taken) f.2 flow_other jobs_other way m
        (let e : at + (1 + places_in taken + places_else other) ≡ at + 1 + places_in taken + places_else other = omega arith in subst (λ n. StandsAt n (body rounds) way m) e h) in
        once_stands at tree (at + 1) (else_entry other (at + 1 + places_in taken)) test.cmp (holds mem.word vars test) (job_of_test mem test) (body rounds) (body rounds) (body rounds) in_flow.0 in_jobs.0
        (test_tells rounds test f.0) (run_in mem.word vars taken (tree + 1) way) (run_else mem.word vars other (tree + 1 + statements_in taken) way) m
        (stmts_stand rounds taken (tree + 1) (at + 1) f.1 flow_taken jobs_taken way m o.over) o.entry
    stmt_stands rounds (while test inner) tree at f in_flow in_jobs way m h =
        let flow_inner : Stand flow (at + 1) (flow_in inner (tree + 1) (at + 1)) = stand_left flow (at + 1) (flow_in inner (tree + 1) (at + 1)) (Jump at ∷ []) in_flow.1 in
        let flow_back : slice_get flow (at + 1 + places_in inner) ≡ Some (Jump at) =
        (stand_right flow (at + 1) (at + 1 + places_in inner) (flow_in inner (tree + 1) (at + 1)) (Jump at ∷ []) (let n = in_length inner (tree + 1) (at + 1) in omega (arith, n)) in_flow.1).0 in
        let e : at + (1 + places_in inner + 1) ≡ at + 1 + places_in inner + 1 = omega arith in
        loop_stands at tree (at + 1) (at + 1 + places_in inner + 1) test.cmp (holds mem.word vars test) (job_of_test mem test) (body rounds) (body rounds) (body rounds) in_flow.0 in_jobs.0
        (test_tells rounds test f.0) (run_in mem.word vars inner (tree + 1)) way (body_keeps mem.word vars inner (tree + 1))
        (λ next n back. stmts_stand rounds inner (tree + 1) (at + 1) f.1 flow_inner in_jobs.1 next n (jumped (at + 1 + places_in inner) at (body rounds) next n flow_back back))
        m (subst (λ n. StandsAt n (body rounds) way m) e h)
    stmt_stands rounds (count counter from_at from to inner) tree at f in_flow in_jobs way m h =
        let round : Round = record { counter = counter; from = from; to = to } in
        let test_item : Flow = asked Ne (tree + 1) (at + 2) (at + 2 + places_in inner + 2) in
        let back : List Flow = Assign (tree + 2 + statements_in inner) ∷ (Jump (at + 1) ∷ []) in
        let rest : Stand flow (at + 2) (flow_in inner (tree + 2) (at + 2) ++ back) = stand_right flow at (at + 2) (Assign tree ∷ (test_item ∷ [])) (flow_in inner (tree + 2) (at + 2) ++ back) refl in_flow in
        let flow_inner : Stand flow (at + 2) (flow_in inner (tree + 2) (at + 2)) = stand_left flow (at + 2) (flow_in inner (tree + 2) (at + 2)) back rest in
        let flow_back : Stand flow (at + 2 + places_in inner) back =
        stand_right flow (at + 2) (at + 2 + places_in inner) (flow_in inner (tree + 2) (at + 2)) back (let n = in_length inner (tree + 2) (at + 2) in omega (arith, n)) rest in
        let jobs_rest : Stand jobs (tree + 2) (jobs_in mem inner ++ job_of_step mem counter ∷ []) =
        stand_right jobs tree (tree + 2) (job_of_start mem counter from ∷ (job_of_counting mem counter from_at to ∷ [])) (jobs_in mem inner ++ job_of_step mem counter ∷ []) refl in_jobs in
        let jobs_inner : Stand jobs (tree + 2) (jobs_in mem inner) = stand_left jobs (tree + 2) (jobs_in mem inner) (job_of_step mem counter ∷ []) jobs_rest in
        let jobs_last : Stand jobs (tree + 2 + statements_in inner) (job_of_step mem counter ∷ []) =
        stand_right jobs (tree + 2) (tree + 2 + statements_in inner) (jobs_in mem inner) (job_of_step mem counter ∷ []) (let n = jobs_in_length mem inner in omega (arith, n)) jobs_rest in
        let e : at + (2 + places_in inner + 2) ≡ at + 2 + places_in inner + 2 = omega arith in
        assigned_stands at (body rounds) (turn rounds counter from to) (started vars counter from) tree (job_of_start mem counter from)
        (loop (At (tree + 1)) (counting vars counter to) (counted_body mem.word vars counter inner (tree + 2)) way) m in_flow.0 in_jobs.0 (start_does rounds counter from to f.0)
        (loop_stands (at + 1) (tree + 1) (at + 2) (at + 2 + places_in inner + 2) Ne (counting vars counter to) (job_of_counting mem counter from_at to) (turn rounds counter from to) (body (round ∷ rounds)) (body rounds) in_flow.1.0 in_jobs.1.0
        (counting_tells rounds counter from_at from to f.0) (counted_body mem.word vars counter inner (tree + 2)) way (counted_keeps mem.word vars counter inner (tree + 2))
        (λ next n again.
        stmts_stand (round ∷ rounds) inner (tree + 2) (at + 2) f.1 flow_inner jobs_inner (after_change (stepped mem.word vars counter) next) n
        (assigned_stands (at + 2 + places_in inner) (body (round ∷ rounds)) (turn rounds counter from to) (stepped mem.word vars counter) (tree + 2 + statements_in inner) (job_of_step mem counter) next n flow_back.0 jobs_last.0
        (step_does rounds counter from to f.0)
        (jumped (at + 2 + places_in inner + 1) (at + 1) (turn rounds counter from to) next n flow_back.1.0 again)))
        m (subst (λ n. StandsAt n (body rounds) way m) e h))

    stmts_stand : (rounds : List Round) (list : StmtsModel) (tree at : ℕ) → SoundIn mem.word vars rounds list → Stand flow at (flow_in list tree at) → Stand jobs tree (jobs_in mem list) → (way : Onward) (m : ℕ)
        → StandsAt (at + places_in list) (body rounds) way m → StandsAt at (body rounds) (run_in mem.word vars list tree way) m
    stmts_stand rounds no_acts tree at f in_flow in_jobs way m h = let e : at + 0 ≡ at = omega arith in subst (λ n. StandsAt n (body rounds) way m) e h
    stmts_stand rounds (act a rest) tree at f in_flow in_jobs way m h =
        stmt_stands rounds a tree at f.0 (stand_left flow at (flow_of a tree at) (flow_in rest (tree + statements a) (at + places_for a)) in_flow)
        (stand_left jobs tree (stmt_jobs mem a) (jobs_in mem rest) in_jobs) (run_in mem.word vars rest (tree + statements a) way) m
        (stmts_stand rounds rest (tree + statements a) (at + places_for a) f.1
        (stand_right flow at (at + places_for a) (flow_of a tree at) (flow_in rest (tree + statements a) (at + places_for a)) (let n = flow_length a tree at in omega (arith, n)) in_flow)
        (stand_right jobs tree (tree + statements a) (stmt_jobs mem a) (jobs_in mem rest) (let n = stmt_jobs_length mem a in omega (arith, n)) in_jobs) way m
        (let e : at + (places_for a + places_in rest) ≡ at + places_for a + places_in rest = omega arith in subst (λ n. StandsAt n (body rounds) way m) e h))

    -- where an `if`'s test doesn't hold, and behind its first part
    else_stands : (rounds : List Round) (o : ElseModel) (tree at : ℕ) → SoundElse mem.word vars rounds o → Stand flow at (flow_else o tree at) → Stand jobs tree (jobs_else mem o) → (way : Onward) (m : ℕ)
        → StandsAt (at + places_else o) (body rounds) way m → Elsewhere rounds at o (run_else mem.word vars o tree way) way m
    else_stands rounds without tree at f in_flow in_jobs way m h =
        let e : at + 0 ≡ at = omega arith in
        let here : StandsAt at (body rounds) way m = subst (λ n. StandsAt n (body rounds) way m) e h in
        record { entry = here; over = here }
    else_stands rounds (otherwise list) tree at f in_flow in_jobs way m h =
        let e : at + (1 + places_in list) ≡ at + 1 + places_in list = omega arith in
        let there : StandsAt (at + 1 + places_in list) (body rounds) way m = subst (λ n. StandsAt n (body rounds) way m) e h in
        record {
          entry = stmts_stand rounds list tree (at + 1) f in_flow.1 in_jobs way m there;
          over = jumped at (at + 1 + places_in list) (body rounds) way m in_flow.0 there;
        }

-- ---- the whole program

-- from the start of a program that keeps its rules, in all cells that hold a store that fits
pub program_passes : (mem : MemoryMap) (temps : ℕ) (l : ProgramModel) → first_fault mem.word l ≡ None → HoldsVars temps l.vars mem → (k : ℕ) (cells : List ℕ) → HoldsCells temps mem cells
    → FitsStore mem.word l.vars (seen_store mem cells)
    → PassesFrom mem temps l.vars (program_flow l) (program_jobs mem l) 0 cells (run_in mem.word l.vars (stmts_of l.body) 0 finish k (seen_store mem cells))
program_passes mem temps l kept held k cells c fits =
    let end : ℕ = places_in (stmts_of l.body) in
    let in_flow : Stand (program_flow l) 0 (flow_in (stmts_of l.body) 0 0) = stand_left (program_flow l) 0 (flow_in (stmts_of l.body) 0 0) (End ∷ []) (stand_all (program_flow l)) in
    let at_end : slice_get (program_flow l) (places_in (stmts_of l.body)) ≡ Some End =
    (stand_right (program_flow l) 0 (places_in (stmts_of l.body)) (flow_in (stmts_of l.body) 0 0) (End ∷ []) (let n = in_length (stmts_of l.body) 0 0 in omega (arith, n)) (stand_all (program_flow l))).0 in
    let e : end ≡ 0 + end = omega arith in
    stmts_stand mem temps l.vars (program_flow l) (program_jobs mem l) held [] (stmts_of l.body) 0 0 (program_sound mem.word l kept) in_flow (stand_all (program_jobs mem l)) finish k
    (subst (λ n. StandsAt mem temps l.vars (program_flow l) (program_jobs mem l) held n (body []) finish k) e
    (end_stands mem temps l.vars (program_flow l) (program_jobs mem l) held end (body []) k at_end))
    k (omega arith) cells c (record { fits = fits; counts = tt })
