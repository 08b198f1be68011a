-- Words that do what a flow with turned tests says do what the flow says, by jobs that are turned
-- back.
use Rattle.std.proofs.Common.{◌≡◌, ℕ, zero, suc, ◌+◌, ◌-◌, ◌==◌, ◌≤◌, ◌<◌, Bool, true, false, cond, ◌&&◌, ◌||◌, not, List, [], ◌∷◌, ◌++◌, map, Option, None, Some, slice_get, refl, sym, ◌∙◌, ap, subst, arith}
use Rattle.std.specs.Prelude.{bit_xor, nat_lt}
use Rattle.std.specs.Int.Bits.{xor_assoc, xor_self, xor_zero_r}
use Rattle.std.specs.Option.{option_map}
use Rattle.std.proofs.Math.Bool.{or_comm}
use Rattle.std.proofs.lemmas.Option.{slice_get-map}
use Rattle.net_model.specs.declared.hardware.Netlist.{Netlist}
use Rattle.net_model.specs.Exprs.{ExprModel}
use Rattle.code_model.specs.declared.image.Image.{Image}
use Rattle.form_model.specs.declared.flow.Flow.{Flow}
use Rattle.form_model.specs.declared.flow.Flow.TheVariants.{Assign, Test, Jump, End}
use Rattle.src_trees.specs.Lowered.{JobModel}
use Rattle.src_trees.specs.Seen.{tree_value}
use Rattle.src_trees.specs.Blocks.{IsAssignBlock, continues, enters, is_assign, is_entered, job_at, job_list, jobs_at}
use Rattle.src_trees.specs.Doing.{AllRead, Lies}
use Rattle.src_trees.specs.Placed.{DoesJobs, DoesTest, IsPlaced}
use Rattle.src_trees.specs.Turned.{Turns, TurnsTests, told_from, job_of_told, jobs_of_told, turned_back, turned_flow, turned_place}

-- ---- the other answer of a tree

xor_one : (v : ℕ) → bit_xor (bit_xor v 1) 1 ≡ v
xor_one v = xor_assoc v 1 1 ∙ ap (bit_xor v) (xor_self 1) ∙ xor_zero_r v

back_one : (cells : List ℕ) (t : ExprModel) → tree_value cells (turned_back t) ≡ 1 → tree_value cells t ≡ 0
back_one cells t e = sym (xor_one (tree_value cells t)) ∙ ap (λ x. bit_xor x 1) e

back_zero : (cells : List ℕ) (t : ExprModel) → tree_value cells (turned_back t) ≡ 0 → tree_value cells t ≡ 1
back_zero cells t e = sym (xor_one (tree_value cells t)) ∙ ap (λ x. bit_xor x 1) e

-- ---- a flow and the one with turned tests

module _ (turned : Turns) where
  same_assign : (f : Option Flow) → is_assign (option_map (turned_place turned) f) ≡ is_assign f
  same_assign None = refl
  same_assign (Some (Assign tree)) = refl
  same_assign (Some (Test tree one zer)) = by (turned tree)
    where
      by : (b : Bool) → is_assign (Some (cond b (Test tree zer one) (Test tree one zer))) ≡ false
      by true = refl
      by false = refl
  same_assign (Some (Jump to)) = refl
  same_assign (Some End) = refl

  assign_kept : (flow : List Flow) (k : ℕ) → is_assign (slice_get (turned_flow turned flow) k) ≡ is_assign (slice_get flow k)
  assign_kept flow k = ap is_assign (slice_get-map (turned_place turned) flow k) ∙ same_assign (slice_get flow k)

  same_enters : (f : Flow) (at : ℕ) → enters (turned_place turned f) at ≡ enters f at
  same_enters (Assign tree) at = refl
  same_enters (Test tree one zer) at = by (turned tree)
    where
      by : (b : Bool) → enters (cond b (Test tree zer one) (Test tree one zer)) at ≡ ((one == at) || (zer == at))
      by true = or_comm (zer == at) (one == at)
      by false = refl
  same_enters (Jump to) at = refl
  same_enters End at = refl

  same_entered : (flow : List Flow) (at : ℕ) → is_entered (turned_flow turned flow) at ≡ is_entered flow at
  same_entered [] at = refl
  same_entered (f ∷ rest) at = cc (same_enters f at, same_entered rest at)

  pub same_continues : (flow : List Flow) (at : ℕ) → continues (turned_flow turned flow) at ≡ continues flow at
  same_continues flow at =
      let a = assign_kept flow (at - 1) in
      let b = assign_kept flow at in
      let c = same_entered flow at in
      ap (λ x. nat_lt 0 at && (x && (is_assign (slice_get (turned_flow turned flow) at) && not (is_entered (turned_flow turned flow) at)))) a
      ∙ ap (λ x. nat_lt 0 at && (is_assign (slice_get flow (at - 1)) && (x && not (is_entered (turned_flow turned flow) at)))) b
      ∙ ap (λ x. nat_lt 0 at && (is_assign (slice_get flow (at - 1)) && (is_assign (slice_get flow at) && not x))) c

  same_block : (flow : List Flow) (at n : ℕ) → IsAssignBlock flow at n → IsAssignBlock (turned_flow turned flow) at n
  same_block flow at n b = record {
    some = b.some;
    assigns = λ k h. assign_kept flow (at + k) ∙ b.assigns k h;
    first = same_continues flow at ∙ b.first;
    inner = λ k h l. same_continues flow (at + k) ∙ b.inner k h l;
    last = same_continues flow (at + n) ∙ b.last;
  }

  -- ---- jobs that are turned back

  told_at : (jobs : List JobModel) (k from : ℕ) → slice_get (told_from turned from jobs) k ≡ option_map (job_of_told (turned (from + k))) (slice_get jobs k)
  told_at [] k from = refl
  told_at (job ∷ later) zero from = (let e : from ≡ from + zero = omega arith in ap (λ n. Some (job_of_told (turned n) job)) e)
  told_at (job ∷ later) (suc k) from =
      let e : from + 1 + k ≡ from + suc k = omega arith in
      told_at later k (from + 1) ∙ ap (λ n. option_map (job_of_told (turned n)) (slice_get later k)) e

  pub told_there : (jobs : List JobModel) (tree : ℕ) → slice_get (jobs_of_told turned jobs) tree ≡ option_map (job_of_told (turned tree)) (slice_get jobs tree)
  told_there jobs tree =
      let e : 0 + tree ≡ tree = omega arith in
      told_at jobs tree 0 ∙ ap (λ n. option_map (job_of_told (turned n)) (slice_get jobs tree)) e

  told_none : (job : Option JobModel) → option_map (job_of_told false) job ≡ job
  told_none None = refl
  told_none (Some job) = refl

  -- the jobs of assignments stay
  module _ (flow : List Flow) (jobs : List JobModel) (tests : TurnsTests turned flow) where
    kept_job : (f : Option Flow) → ((tree : ℕ) → f ≡ Some (Assign tree) → turned tree ≡ false) → job_at jobs (option_map (turned_place turned) f) ≡ job_at (jobs_of_told turned jobs) f
    kept_job None h = refl
    kept_job (Some (Assign tree)) h =
        sym (ap job_list (told_there jobs tree ∙ ap (λ b. option_map (job_of_told b) (slice_get jobs tree)) (h tree refl) ∙ told_none (slice_get jobs tree)))
    kept_job (Some (Test tree one zer)) h = by (turned tree)
      where
        by : (b : Bool) → job_at jobs (Some (cond b (Test tree zer one) (Test tree one zer))) ≡ []
        by true = refl
        by false = refl
    kept_job (Some (Jump to)) h = refl
    kept_job (Some End) h = refl

    kept_jobs : (at n : ℕ) → jobs_at (turned_flow turned flow) jobs at n ≡ jobs_at flow (jobs_of_told turned jobs) at n
    kept_jobs at zero = refl
    kept_jobs at (suc n) =
        let one : job_at jobs (slice_get (turned_flow turned flow) (at + n)) ≡ job_at (jobs_of_told turned jobs) (slice_get flow (at + n)) =
        ap (job_at jobs) (slice_get-map (turned_place turned) flow (at + n)) ∙ kept_job (slice_get flow (at + n)) (λ tree e. tests (at + n) tree e) in
        cc (kept_jobs at n, one)

-- ---- where no test is turned

pub turned_nowhere : (flow : List Flow) → turned_flow (λ k. false) flow ≡ flow
turned_nowhere [] = refl
turned_nowhere (Assign tree ∷ rest) = ap (λ fs. Assign tree ∷ fs) (turned_nowhere rest)
turned_nowhere (Test tree one zer ∷ rest) = ap (λ fs. Test tree one zer ∷ fs) (turned_nowhere rest)
turned_nowhere (Jump to ∷ rest) = ap (λ fs. Jump to ∷ fs) (turned_nowhere rest)
turned_nowhere (End ∷ rest) = ap (λ fs. End ∷ fs) (turned_nowhere rest)

told_all : (from : ℕ) (jobs : List JobModel) → told_from (λ k. false) from jobs ≡ jobs
told_all from [] = refl
told_all from (job ∷ later) = ap (λ ws. job ∷ ws) (told_all (from + 1) later)

pub told_nowhere : (jobs : List JobModel) → jobs_of_told (λ k. false) jobs ≡ jobs
told_nowhere jobs = told_all 0 jobs

-- ---- tests

-- a tree that is turned back reads what it reads itself
back_reads : (temps : ℕ) (cells : List ℕ) (trees : List ExprModel) → AllRead temps cells (map turned_back trees) → AllRead temps cells trees
back_reads temps cells [] h = tt
back_reads temps cells (t ∷ trees) h = (h.0.0, back_reads temps cells trees h.1)

-- a job that was told of is one of the jobs
told_is : (turned : Turns) (jobs : List JobModel) (tree : ℕ) (job : JobModel) → slice_get (jobs_of_told turned jobs) tree ≡ Some job → (given : JobModel) × (slice_get jobs tree ≡ Some given) × (job_of_told (turned tree) given ≡ job)
told_is turned jobs tree job e = by (slice_get jobs tree) refl
  where
    by : (o : Option JobModel) → slice_get jobs tree ≡ o → (given : JobModel) × (slice_get jobs tree ≡ Some given) × (job_of_told (turned tree) given ≡ job)
    by None h = absurd (let none : None ≡ Some job = sym (ap (option_map (job_of_told (turned tree))) h) ∙ sym (told_there turned jobs tree) ∙ e in cc)
    by (Some given) h =
        let same : Some (job_of_told (turned tree) given) ≡ Some job = sym (ap (option_map (job_of_told (turned tree))) h) ∙ sym (told_there turned jobs tree) ∙ e in
        (given, h, cc)

module _ (netlist : Netlist) (image : Image) (temps tree : ℕ) (job : JobModel) (from one zer : ℕ) where
  -- a test that is turned, by its job that is turned back
  turned_test : DoesTest netlist image temps tree job from zer one → DoesTest netlist image temps tree (job_of_told true job) from one zer
  turned_test d = record {
    which = d.which;
    used = turned_back d.used;
    among = slice_get-map turned_back job.trees d.which ∙ ap (option_map turned_back) d.among;
    clocks = d.clocks;
    one_later = d.zero_later;
    zero_later = d.one_later;
    asks = λ s calm lies.
        (let own : Lies temps s.cells job = record { reads = back_reads temps s.cells job.trees lies.reads; destination = lies.destination; below = lies.below } in
        let x = d.asks s calm own in
        record {
          label = x.label;
          next = x.next;
          clocked = x.clocked;
          on_one = λ e. x.on_zero (back_one s.cells d.used e);
          on_zero = λ e. x.on_one (back_zero s.cells d.used e);
        });
  }

module _ (netlist : Netlist) (image : Image) (temps : ℕ) (turned : Turns) (flow : List Flow) (jobs : List JobModel) (starts : ℕ → ℕ) (end : ℕ) (tests : TurnsTests turned flow)
    (p : IsPlaced netlist image temps (turned_flow turned flow) jobs starts end) where
  placed_test : (at tree one zer : ℕ) → slice_get flow at ≡ Some (Test tree one zer) → (job : JobModel) → slice_get (jobs_of_told turned jobs) tree ≡ Some job
      → DoesTest netlist image temps tree job (starts at) (starts one) (starts zer)
  placed_test at tree one zer e job f =
      let g = told_is turned jobs tree job f in
      subst (λ j. DoesTest netlist image temps tree j (starts at) (starts one) (starts zer)) g.2 (by (turned tree) refl g.0 g.1)
    where
      there : slice_get (turned_flow turned flow) at ≡ Some (turned_place turned (Test tree one zer))
      there = slice_get-map (turned_place turned) flow at ∙ ap (option_map (turned_place turned)) e

      by : (b : Bool) → turned tree ≡ b → (model : JobModel) → slice_get jobs tree ≡ Some model → DoesTest netlist image temps tree (job_of_told (turned tree) model) (starts at) (starts one) (starts zer)
      by true h model w =
          subst (λ b. DoesTest netlist image temps tree (job_of_told b model) (starts at) (starts one) (starts zer)) (sym h)
          (turned_test netlist image temps tree model (starts at) (starts one) (starts zer)
          (p.tests at tree zer one (there ∙ ap (λ b. Some (cond b (Test tree zer one) (Test tree one zer))) h) model w))
      by false h model w =
          subst (λ b. DoesTest netlist image temps tree (job_of_told b model) (starts at) (starts one) (starts zer)) (sym h)
          (p.tests at tree one zer (there ∙ ap (λ b. Some (cond b (Test tree zer one) (Test tree one zer))) h) model w)

  placed_jump : (at to : ℕ) → slice_get flow at ≡ Some (Jump to) → slice_get (turned_flow turned flow) at ≡ Some (Jump to)
  placed_jump at to e = slice_get-map (turned_place turned) flow at ∙ ap (option_map (turned_place turned)) e

  pub turned_placed : IsPlaced netlist image temps flow (jobs_of_told turned jobs) starts end
  turned_placed = record {
    first = p.first;
    rises = p.rises;
    blocks = λ at n b. subst (λ js. DoesJobs netlist image temps js (starts at) (starts (at + n))) (kept_jobs turned flow jobs tests at n) (p.blocks at n (same_block turned flow at n b));
    tests = placed_test;
    jumps = λ at to e. p.jumps at to (placed_jump at to e);
    behind_jump = λ at to e. p.behind_jump at to (placed_jump at to e);
    long = p.long;
    end_label = p.end_label;
    end_only = p.end_only;
    end_word = p.end_word;
  }
