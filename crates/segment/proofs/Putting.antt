-- Jobs, one after the other.
use Rattle.std.proofs.Common.{◌≡◌, ℕ, zero, suc, List, [], ◌∷◌, map, Option, Some, None, ◌∙◌, sym, ap, refl, subst, slice_get, slice_set}
use Rattle.net_model.specs.declared.states.State.{State}
use Rattle.net_model.specs.Exprs.{ExprModel, const, write_at}
use Rattle.form_model.specs.Forms.{aim_destination}
use Rattle.form_model.specs.Trees.{model_of_tree}
use Rattle.form_model.specs.declared.trees.Aim.{Aim}
use Rattle.form_model.specs.declared.trees.Aim.TheVariants.{Cell as ToCell, Store}
use Rattle.form_model.specs.declared.trees.Tree.{Tree}
use Rattle.net_model.specs.Meaning.{mean}
use Rattle.src_trees.specs.Seen.{tree_value}
use Rattle.form_model.specs.declared.trees.Job.{Job}
use Rattle.src_trees.specs.Doing.{all_done, done, job_value, put_at}
use Rattle.src_trees.specs.Jobs.{model_of_job, models_of_jobs}
use Rattle.src_trees.specs.Lowered.{JobModel}
use Rattle.tree_laws.specs.declared.classes.Classes.{Classes}
use Rattle.tree_laws.specs.Classes.{Grows}
use Rattle.tree_laws.specs.Equal.{memory_alone}
use Rattle.sym_run.specs.declared.known.Cell.{Cell}
use Rattle.sym_run.specs.declared.known.Put.{Put}
use Rattle.class_values.specs.declared.facts.Fact.{Fact}
use Rattle.sym_run.specs.declared.known.Known.{Known}
use Rattle.class_values.specs.Values.{AreFacts}
use Rattle.sym_run.specs.Known.{Evaluates, HoldsOf, StandsFor}
use Rattle.sym_run.specs.Moves.{AreNextCells, IsNextPut, IsWritten, NextCells, cell_for}
use Rattle.class_values.proofs.Keeping.{grows_on, grows_same}
use Rattle.sym_run.proofs.Keeping.{known_kept}
use Rattle.sym_run.proofs.Writing.{set_cells}
use Rattle.std.specs.Prelude.{IfSome}
use Rattle.follow.specs.Trails.{all_jobs, one_more}
use Rattle.mark_start.specs.declared.run.Run.{Run}
use Rattle.segment.specs.declared.run.Segment.{Segment}
use Rattle.mark_start.specs.Marked.{AllReadArrays, AreReads, GoesIn}
use Rattle.segment.specs.Runs.{AreDone, IsDone, IsOverPath, IsPut, IsPutIn, TestReads}
use Rattle.mark_start.specs.Runs.{IsGathered, Stands}
use Rattle.mark_start.proofs.Learning.{gathered_as, stands_kept}
use Rattle.mark_start.proofs.Places.{write_arrays}

-- ---- one job

first_value : (trees : List Tree) (tree : Tree) (now : List ℕ) → slice_get trees 0 ≡ Some tree → job_value now (map model_of_tree trees) ≡ tree_value now (model_of_tree tree)
first_value [] tree now e = absurd (cc)
first_value (t ∷ trees) tree now e = (let same : t ≡ tree = cc in ap (λ (x : Tree). tree_value now (model_of_tree x)) same)

module _ (old new : Classes) (g : Grows old new) (facts : List Fact) (known : Known) where
  holds_value : (e : ExprModel) (o : Option ℕ) → IfSome o (Evaluates old new facts known 0 e) → (memory : List ℕ) (s : State) → AreFacts old memory facts → StandsFor old memory known s → HoldsOf new memory o (mean e s 0)
  holds_value e None h memory s f k = tt
  holds_value e (Some c) h memory s f k = (h memory s f k).holds

  module _ (job : Job) (tree : Tree) (first : slice_get job.trees.items 0 ≡ Some tree) (next : List Cell) where
    pub put_cell : (address : ℕ) (o : Option ℕ) → job.aim ≡ ToCell address → IfSome o (Evaluates old new facts known 0 (model_of_tree tree)) → IsWritten known.cells address o next
        → IsPut (model_of_job job) old new facts known next
    put_cell address o e value w = record {
      grows = g;
      arrays = write_arrays known.cells next address o w;
      cells = λ memory now f k.
          (let k1 = known_kept old new g memory known (memory_alone now) k in
          let v = holds_value (model_of_tree tree) o value memory (memory_alone now) f k in
          let x : NextCells new memory (slice_set known.cells address (cell_for o)) known.inside known.puts (slice_set now address (tree_value now (model_of_tree tree))) =
          set_cells new memory known (memory_alone now) k1 address (tree_value now (model_of_tree tree)) o w.plain v in
          subst (λ (aim : Aim). NextCells new memory next known.inside known.puts (put_at (aim_destination aim) (job_value now (map model_of_tree job.trees.items)) now)) (sym e)
          (subst (λ n. NextCells new memory next known.inside known.puts (slice_set now address n)) (sym (first_value job.trees.items tree now first))
          (subst (λ (xs : List Cell). NextCells new memory xs known.inside known.puts (slice_set now address (tree_value now (model_of_tree tree)))) (sym w.same) x)));
    }

    pub put_stored : (addr : Tree) (address : ℕ) (o : Option ℕ) → job.aim ≡ Store addr → IsWritten known.cells address o next → AreNextCells old new facts known 0 (write_at (model_of_tree addr) (model_of_tree tree)) next → IsPut (model_of_job job) old new facts known next
    put_stored addr address o e w h = record {
      grows = g;
      arrays = write_arrays known.cells next address o w;
      cells = λ memory now f k.
          subst (λ (aim : Aim). NextCells new memory next known.inside known.puts (put_at (aim_destination aim) (job_value now (map model_of_tree job.trees.items)) now)) (sym e)
          (subst (λ n. NextCells new memory next known.inside known.puts (slice_set now (tree_value now (model_of_tree addr)) n)) (sym (first_value job.trees.items tree now first))
          (h memory (memory_alone now) f k));
    }

-- into an array
pub put_element : (old new : Classes) (facts : List Fact) (known : Known) (job : Job) (tree : Tree) → slice_get job.trees.items 0 ≡ Some tree → (puts : List Put) (addr : Tree) → job.aim ≡ Store addr
    → IsNextPut old new facts known 0 (write_at (model_of_tree addr) (model_of_tree tree)) puts → IsPutIn (model_of_job job) old new facts known puts
put_element old new facts known job tree first puts addr e h = record {
  cells = λ memory now f k.
      subst (λ (aim : Aim). NextCells new memory known.cells known.inside puts (put_at (aim_destination aim) (job_value now (map model_of_tree job.trees.items)) now)) (sym e)
      (subst (λ n. NextCells new memory known.cells known.inside puts (slice_set now (tree_value now (model_of_tree addr)) n)) (sym (first_value job.trees.items tree now first))
      (h memory (memory_alone now) f k));
}

pub put_numbered : (old new : Classes) (facts : List Fact) (known : Known) (job : Job) (tree : Tree) → slice_get job.trees.items 0 ≡ Some tree → (puts : List Put) (width address : ℕ) → job.aim ≡ ToCell address
    → IsNextPut old new facts known 0 (write_at (const width address) (model_of_tree tree)) puts → IsPutIn (model_of_job job) old new facts known puts
put_numbered old new facts known job tree first puts width address e h = record {
  cells = λ memory now f k.
      subst (λ (aim : Aim). NextCells new memory known.cells known.inside puts (put_at (aim_destination aim) (job_value now (map model_of_tree job.trees.items)) now)) (sym e)
      (subst (λ n. NextCells new memory known.cells known.inside puts (slice_set now address n)) (sym (first_value job.trees.items tree now first))
      (h memory (memory_alone now) f k));
}

module _ (segment : Segment) where
  -- the addresses of a job's trees, and then its value
  pub after_put : (job : JobModel) (trees : List ExprModel) → trees ≡ job.trees → (a b d : Classes) (run next : Run) (facts : List Fact) (cells : List Cell)
      → IsGathered segment.start (λ now. AllReadArrays segment.start.from.now.spots now trees × GoesIn segment.start.from.now.spots now job.destination) a b run next → facts ≡ next.facts → IsPut job b d facts next.vars cells
      → IsDone segment job a d run (record { facts = next.facts; machine = next.machine; vars = record { regs = next.vars.regs; cells = cells; inside = next.vars.inside; puts = next.vars.puts; file = next.vars.file } })
  after_put job trees same a b d run next facts cells gathered own p = record {
    grows = grows_on a b d gathered.grows p.grows;
    arrays = λ k. (let n = gathered.arrays k in record { machine = n.machine; vars = p.arrays segment.start.from.now.spots n.vars });
    stands = λ memory s now reads k w.
        (let x = gathered.stands memory s now (subst (λ (xs : List ExprModel). AllReadArrays segment.start.from.now.spots now xs) (sym same) reads.0, reads.1) k w in
        let y = stands_kept b d p.grows next memory s now x in
        let n = p.cells memory now (subst (AreFacts b memory) (sym own) x.facts) x.vars in
        record {
          facts = y.facts;
          machine = y.machine;
          vars = record { fits = y.vars.fits; room = n.room; regs = y.vars.regs; cells = n.cells_are; inside = n.are_inside; arrays = n.arrays; file = y.vars.file };
        });
  }

  pub after_element : (job : JobModel) (trees : List ExprModel) → trees ≡ job.trees → (a b d : Classes) (run next : Run) (facts : List Fact) (puts : List Put)
      → IsGathered segment.start (λ now. AllReadArrays segment.start.from.now.spots now trees × GoesIn segment.start.from.now.spots now job.destination) a b run next → facts ≡ next.facts → Grows b d → IsPutIn job b d facts next.vars puts
      → IsDone segment job a d run (record { facts = next.facts; machine = next.machine; vars = record { regs = next.vars.regs; cells = next.vars.cells; inside = next.vars.inside; puts = puts; file = next.vars.file } })
  after_element job trees same a b d run next facts puts gathered own g p = record {
    grows = grows_on a b d gathered.grows g;
    arrays = λ k. (let n = gathered.arrays k in record { machine = n.machine; vars = n.vars });
    stands = λ memory s now reads k w.
        (let x = gathered.stands memory s now (subst (λ (xs : List ExprModel). AllReadArrays segment.start.from.now.spots now xs) (sym same) reads.0, reads.1) k w in
        let y = stands_kept b d g next memory s now x in
        let n = p.cells memory now (subst (AreFacts b memory) (sym own) x.facts) x.vars in
        record {
          facts = y.facts;
          machine = y.machine;
          vars = record { fits = y.vars.fits; room = n.room; regs = y.vars.regs; cells = n.cells_are; inside = n.are_inside; arrays = n.arrays; file = y.vars.file };
        });
  }

-- ---- many

pub job_there : (xs : List Job) (x : ℕ) (job : Job) → slice_get xs x ≡ Some job → slice_get (map model_of_job xs) x ≡ Some (model_of_job job)
job_there [] x job e = absurd (cc)
job_there (y ∷ xs) zero job e = (let same : y ≡ job = cc in ap (λ (z : Job). Some (model_of_job z)) same)
job_there (y ∷ xs) (suc x) job e = job_there xs x job e

no_later : (jobs : List JobModel) (later : List JobModel) → all_jobs jobs [] ≡ Some later → later ≡ []
no_later jobs later e = cc

split_later : (o : Option JobModel) (job : JobModel) (p : Option (List JobModel)) (later : List JobModel) → o ≡ Some job → one_more o p ≡ Some later → (rest : List JobModel) × (p ≡ Some rest) × (later ≡ job ∷ rest)
split_later None job p later e f = absurd (cc)
split_later (Some j) job None later e f = absurd (cc)
split_later (Some j) job (Some rest) later e f = (rest, refl, (let same : j ≡ job = cc in let is : later ≡ j ∷ rest = cc in is ∙ ap (λ (x : JobModel). x ∷ rest) same))

module _ (segment : Segment) where
  pub done_none : (t : Classes) (run : Run) → AreDone segment [] t t run run
  done_none t run = record {
    grows = grows_same t;
    arrays = λ k. k;
    stands = λ memory s now later e r k w. subst (λ (l : List JobModel). Stands t run memory s (all_done l now)) (sym (no_later (models_of_jobs segment.jobs.now) later e)) w;
  }

  pub done_more : (a b d : Classes) (x : ℕ) (rest : List ℕ) (job : Job) (run next last : Run) → slice_get segment.jobs.now x ≡ Some job → IsDone segment (model_of_job job) a b run next → AreDone segment rest b d next last
      → AreDone segment (x ∷ rest) a d run last
  done_more a b d x rest job run next last there first more = record {
    grows = grows_on a b d first.grows more.grows;
    arrays = λ k. more.arrays (first.arrays k);
    stands = λ memory s now later e r k w.
        (let jobs = models_of_jobs segment.jobs.now in
        let v = split_later (slice_get jobs x) (model_of_job job) (all_jobs jobs rest) later (job_there segment.jobs.now x job there) e in
        let reads = subst (λ (l : List JobModel). AreReads segment.start.from.now.spots now l) v.2 r in
        subst (λ (l : List JobModel). Stands d last memory s (all_done l now)) (sym v.2)
        (more.stands memory s (done (model_of_job job) now) v.0 v.1 reads.1 (first.arrays k) (first.stands memory s now reads.0 k w)));
  }

-- ---- the test at the end of the path

module _ (segment : Segment) where
  abbrev Asks : List ℕ → Type 0
  Asks now = TestReads segment.start.from.now.spots (models_of_jobs segment.jobs.now) segment.label now

  -- what a test reads is that of its job
  pub test_gathered : (x : ℕ) (job : Job) (trees : List ExprModel) → segment.label ≡ Some x → slice_get segment.jobs.now x ≡ Some job → trees ≡ (model_of_job job).trees → (a b : Classes) (run next : Run)
      → IsGathered segment.start (λ now. AllReadArrays segment.start.from.now.spots now trees) a b run next → IsGathered segment.start Asks a b run next
  test_gathered x job trees labelled there same a b run next h =
      gathered_as segment.start (λ now. AllReadArrays segment.start.from.now.spots now trees) Asks a b run next
      (λ now asks.
      subst (λ (xs : List ExprModel). AllReadArrays segment.start.from.now.spots now xs) (sym same)
      (subst (λ o. TestReads segment.start.from.now.spots (models_of_jobs segment.jobs.now) o now) labelled asks (model_of_job job) (job_there segment.jobs.now x job there))) h

  pub over_path : (a b d : Classes) (run next last : Run) → AreDone segment segment.path.now a b run next → IsGathered segment.start Asks b d next last → IsOverPath segment a d run last
  over_path a b d run next last jobs test = record {
    grows = grows_on a b d jobs.grows test.grows;
    stands = λ memory s now later e r k w. test.stands memory s (all_done later now) r.1 (jobs.arrays k) (jobs.stands memory s now later e r.0 k w);
  }
