-- From what is known at a mark to what is said at the next one.
use Rattle.std.proofs.Common.{◌≡◌, ℕ, ◌+◌, true, List, Some, sym, refl, ap, ◌∙◌, subst, slice_get, Bor}
use Rattle.rec_bits.specs.Operators.{bit_of}
use Rattle.net_model.specs.declared.states.State.{State}
use Rattle.form_model.specs.declared.trees.Job.{Job}
use Rattle.net_model.specs.Exprs.{ExprModel}
use Rattle.src_trees.specs.Doing.{AllAre, all_done}
use Rattle.src_trees.specs.Jobs.{model_of_job}
use Rattle.src_trees.specs.Lowered.{JobModel}
use Rattle.tree_laws.specs.declared.classes.Classes.{Classes}
use Rattle.tree_laws.specs.Classes.{Grows}
use Rattle.class_values.specs.declared.facts.Fact.{Fact}
use Rattle.sym_run.specs.declared.walk.Arrival.{Arrival}
use Rattle.sym_run.specs.declared.walk.Image.{Image}
use Rattle.sym_run.specs.declared.walk.Walked.{Walked}
use Rattle.sym_run.specs.declared.walk.Walked.TheVariants.{Arrives as Arrived, Late, Lost as Missed}
use Rattle.class_values.specs.Values.{AreFacts}
use Rattle.sym_run.specs.Walks.{Arrives, Crosses, IfArrives}
use Rattle.class_values.proofs.Keeping.{grows_on}
use Rattle.mark_start.specs.declared.hints.Holding.{Holding}
use Rattle.mark_start.specs.declared.run.Run.{Run}
use Rattle.segment.specs.declared.run.Segment.{Segment}
use Rattle.mark_start.specs.Marked.{AllHeld}
use Rattle.segment.specs.Proved.{ComesFrom, ComesHere, ComesOn, HasCome, HasEnded, IsBegun, IsDenied, IsProved}
use Rattle.segment.specs.Runs.{IsAgreed, IsAligned, IsOverPath, IsToldOn}
use Rattle.mark_start.specs.Runs.{IsAtStart, IsLearnt, IsStarted, Stands}
use Rattle.mark_start.proofs.Stores.{mark_store, store_is}
use Rattle.mark_start.proofs.Learning.{learnt_after, learnt_on, stands_kept}
use Rattle.segment.proofs.Putting.{job_there}

module _ (segment : Segment) where
  -- what has come by what is said of the machine behind it
  pub come_aligned : (old middle new : Classes) (run next : Run) (at clocks address left : ℕ) → IsAligned old middle run next
      → HasCome segment next.facts next.vars (record { address = at; known = next.machine; left = clocks }) address left middle new
      → HasCome segment run.facts run.vars (record { address = at; known = run.machine; left = clocks }) address left old new
  come_aligned old middle new run next at clocks address left a h = record {
    here = h.here;
    rest = h.rest;
    agrees = record {
      grows = grows_on old middle new a.grows h.agrees.grows;
      holds = λ e memory s now k. h.agrees.holds e memory s now (a.stands memory s now k);
    };
  }

  -- to a mark that words come to
  pub came : (old next last : Classes) (run : Run) (facts : Bor (List Fact)) → facts.now ≡ run.facts → (walked : Walked) (arrival : Arrival) → walked ≡ Arrived arrival → (address left : ℕ) → Grows old next
      → IfArrives walked (Crosses old next (record { pool = segment.start.pool; facts = facts; code = segment.start.code; marks = segment.marks; counter = segment.start.counter; memory = segment.start.memory; file = segment.start.file }) run.machine segment.clocks)
      → HasCome segment run.facts run.vars arrival address left next last → ComesOn segment old run address left
  came old next last run facts same walked arrival is address left g arrives ended netlist words s cells memory code state w =
      let image : Image = record { pool = segment.start.pool; facts = facts; code = segment.start.code; marks = segment.marks; counter = segment.start.counter; memory = segment.start.memory; file = segment.start.file } in
      let crosses : Crosses old next image run.machine segment.clocks arrival = subst (λ (x : Walked). IfArrives x (Crosses old next image run.machine segment.clocks)) is arrives in
      let c = crosses netlist words memory s (record { sound = code.sound; counter = code.counter; memory = code.memory; file = code.file; code = code.code }) (subst (AreFacts old memory) (sym same) w.facts) w.machine state in
      let a = c.arrives in
      let n = stands_kept old next g run memory s cells w in
      let there : Stands next (record { facts = run.facts; machine = arrival.known; vars = run.vars }) memory a.last cells = record { facts = n.facts; machine = a.stands; vars = n.vars } in
      record {
        after = c.after;
        clocked = c.clocked;
        comes = record {
          taken = a.taken;
          within = ap (λ n. a.taken + n) ended.rest ∙ a.within;
          last = a.last;
          walks = a.walks;
          state = a.state;
          here = a.here ∙ sym ended.here;
          hinted = ended.agrees.holds refl memory a.last cells there;
        };
      }

  -- by what is told more
  pub came_told : (old new : Classes) (run next : Run) → IsToldOn old new run next → (address left : ℕ) → ComesOn segment new next address left → ComesOn segment old run address left
  came_told old new run next told address left comes netlist words s cells memory code state w = comes netlist words s cells memory code state (told.stands memory s cells w)

  pub came_later : (old new : Classes) → Grows old new → (run : Run) (address left : ℕ) → ComesOn segment new run address left → ComesOn segment old run address left
  came_later old new g run address left comes netlist words s cells memory code state w = comes netlist words s cells memory code state (stands_kept old new g run memory s cells w)

  -- behind the path
  pub came_over : (old middle : Classes) (run after : Run) → IsOverPath segment old middle run after → (address left : ℕ) → ComesOn segment middle after address left → ComesFrom segment old run address left
  came_over old middle run after done address left comes netlist words s cells memory later code state arrays reads k path =
      comes netlist words s (all_done later cells) memory code state (done.stands memory s cells later path reads arrays k)

  pub came_here : (old middle next last : Classes) (run after : Run) (facts : Bor (List Fact)) → facts.now ≡ after.facts → (walked : Walked) (address left : ℕ) → IsOverPath segment old middle run after → Grows middle next
      → IfArrives walked (Arrives middle next (record { pool = segment.start.pool; facts = facts; code = segment.start.code; marks = segment.marks; counter = segment.start.counter; memory = segment.start.memory; file = segment.start.file }) after.machine segment.clocks)
      → HasEnded segment after.facts after.vars walked address left next last → ComesHere segment old run address left
  came_here old middle next last run after facts same (Missed at) address left done g arrives ended netlist words s cells memory later code state arrays reads k path = absurd ended
  came_here old middle next last run after facts same Late address left done g arrives ended netlist words s cells memory later code state arrays reads k path = absurd ended
  came_here old middle next last run after facts same (Arrived arrival) address left done g arrives ended netlist words s cells memory later code state arrays reads k path =
      let w = done.stands memory s cells later path reads arrays k in
      let a = arrives netlist words memory s (record { sound = code.sound; counter = code.counter; memory = code.memory; file = code.file; code = code.code }) (subst (AreFacts middle memory) (sym same) w.facts) w.machine state in
      let n = stands_kept middle next g after memory s (all_done later cells) w in
      let there : Stands next (record { facts = after.facts; machine = arrival.known; vars = after.vars }) memory a.last (all_done later cells) = record { facts = n.facts; machine = a.stands; vars = n.vars } in
      record {
        taken = a.taken;
        within = ap (λ n. a.taken + n) ended.rest ∙ a.within;
        last = a.last;
        walks = a.walks;
        state = a.state;
        here = a.here ∙ sym ended.here;
        hinted = ended.agrees.holds refl memory a.last (all_done later cells) there;
      }

  abbrev Told : JobModel → State → List ℕ → Type 0
  Told job s cells = AllAre (bit_of segment.start.answer) cells job.trees × AllHeld segment.start.pool.now segment.start.from.now.holdings s cells

  pub admitted : (job : JobModel) (trees : List ExprModel) → trees ≡ job.trees → (holdings : List Holding) → holdings ≡ segment.start.from.now.holdings → (old middle told new : Classes) (first next run : Run) → Grows old middle
      → IsLearnt segment.start (λ s cells. AllAre (bit_of segment.start.answer) cells trees) middle told first next → IsLearnt segment.start (AllHeld segment.start.pool.now holdings) told new next run → IsLearnt segment.start (Told job) old new first run
  admitted job trees same holdings held old middle told new first next run g answered learnt =
      let both = learnt_after segment.start (λ s cells. AllAre (bit_of segment.start.answer) cells trees × AllHeld segment.start.pool.now holdings s cells) old middle new first run g
      (learnt_on segment.start (λ s cells. AllAre (bit_of segment.start.answer) cells trees) (AllHeld segment.start.pool.now holdings) middle told new first next run answered learnt) in
      record {
        grows = both.grows;
        arrays = both.arrays;
        stands = λ s cells memory m x. both.stands s cells memory m
            (subst (λ (xs : List ExprModel). AllAre (bit_of segment.start.answer) cells xs) (sym same) x.0, subst (λ (xs : List Holding). AllHeld segment.start.pool.now xs s cells) (sym held) x.1);
      }

  pub proved_from : (job : Job) → slice_get segment.jobs.now segment.test ≡ Some job → (old middle new : Classes) (first run : Run) → IsStarted segment.start (model_of_job job) old middle first
      → IsLearnt segment.start (Told (model_of_job job)) middle new first run → (address left : ℕ) → ComesFrom segment new run address left → IsProved segment address left
  proved_from job there old middle new first run start told address left comes netlist words s cells later code state m answer reads path =
      let x = answer (model_of_job job) (job_there segment.jobs.now segment.test job there) in
      let memory = mark_store segment.start netlist words s cells code state in
      let store = store_is segment.start netlist words s cells code state m in
      comes netlist words s cells memory later code state (told.arrays start.arrays) reads
      (told.stands s cells memory store (x.1, m.hinted.holds) start.arrays (start.stands s cells memory store x.0)) path

  pub proved_denied : (job : Job) → slice_get segment.jobs.now segment.test ≡ Some job → (old middle new : Classes) (first : Run) → IsStarted segment.start (model_of_job job) old middle first
      → IsAgreed first (λ s now. AllAre (bit_of segment.start.answer) now (model_of_job job).trees → ⊥) middle new true → IsDenied segment
  proved_denied job there old middle new first start denied netlist words s cells code state m answer =
      let x = answer (model_of_job job) (job_there segment.jobs.now segment.test job there) in
      let memory = mark_store segment.start netlist words s cells code state in
      denied.holds refl memory s cells (start.stands s cells memory (store_is segment.start netlist words s cells code state m) x.0) x.1

  pub begun_from : (old new : Classes) (first run : Run) → IsAtStart segment.start old first → IsLearnt segment.start (λ s cells. Unit {0}) old new first run
      → (address left : ℕ) → ComesHere segment new run address left → IsBegun segment address left
  begun_from old new first run begun learnt address left comes netlist words s cells later code state m reads path =
      let memory = mark_store segment.start netlist words s cells code state in
      let store = store_is segment.start netlist words s cells code state m in
      comes netlist words s cells memory later code state (learnt.arrays begun.arrays) reads (learnt.stands s cells memory store tt begun.arrays (begun.stands s cells memory store)) path
