-- The words of jobs, clocked in order, leave what the jobs leave one after the other.
use Rattle.std.proofs.Common.{◌≡◌, ℕ, ◌+◌, ◌≤◌, ◌^◌, List, [], ◌∷◌, Option, Some, None, drop, length, length-append, refl, sym, ◌∙◌, ap, arith, subst}
use Rattle.net_model.specs.declared.hardware.Netlist.{Netlist}
use Rattle.net_model.specs.declared.hardware.Space.TheVariants.{File as InFile}
use Rattle.net_model.specs.declared.states.State.{State}
use Rattle.net_model.specs.Clock.{Reached, counter_in, run_from}
use Rattle.net_model.specs.Nets.{counter_of, counter_width, file_place, size_in}
use Rattle.net_model.specs.Patterns.{Pattern}
use Rattle.net_model.specs.Widths.{IsState}
use Rattle.emit_seq.specs.Formed.{AreFormed}
use Rattle.form_model.specs.Covers.{JobCoverModel, StockModel}
use Rattle.compaction.specs.Laws.{operation_in}
use Rattle.form_model.specs.Effects.{steps_effect}
use Rattle.form_model.specs.Live.{no_regs}
use Rattle.src_trees.specs.Doing.{AllLie, all_done, done}
use Rattle.src_trees.specs.Lowered.{JobModel}
use Rattle.src_trees.proofs.Behind.{Alike, all_done_behind, all_lie_behind}
use Rattle.word_fit.specs.Fits.{fits_over}
use Rattle.word_fit.specs.Runs.{RunsTo, StandAt}
use Rattle.word_fit.proofs.Least.{all_fit}
use Rattle.right_code.specs.Jobs.{HasOne, IsCovered, job_steps}
use Rattle.right_code.specs.Inner.Jobs.{LeavesDone}
use Rattle.right_code.proofs.Jobs.{job_left}
use Rattle.right_code.proofs.Walked.{filed}
use Rattle.test_code.specs.Tried.{AreJobWords, AreWordsOf}
use Rattle.test_command.proofs.Runs.{any_cycle, run_on, stand_on, stand_parts}

-- the jobs that have a cover
abbrev pub tested_jobs : List JobModel → List (Option JobCoverModel) → List JobModel
tested_jobs (job ∷ jobs) (None ∷ tried) = tested_jobs jobs tried
tested_jobs (job ∷ jobs) (Some choice ∷ tried) = job ∷ tested_jobs jobs tried
tested_jobs _ _ = []

-- these covers are orderly, with a cell for each of their cuts
abbrev pub AreTriedCovers : StockModel → List JobModel → List (Option JobCoverModel) → Type 0
AreTriedCovers stock [] [] = Unit {0}
AreTriedCovers stock (job ∷ jobs) (None ∷ tried) = AreTriedCovers stock jobs tried
AreTriedCovers stock (job ∷ jobs) (Some choice ∷ tried) =
    IsCovered stock job choice × HasOne job.destination job.trees × AreTriedCovers stock jobs tried
AreTriedCovers stock _ _ = ⊥

-- so many clocks don't clash, and leave in the memory what the jobs leave, but for the cells below
-- an address
pub record LeavesAll (netlist : Netlist) (code : List ℕ) (temps : ℕ) (jobs : List JobModel) (s : State) (clocks : ℕ) : Type 0 where
  pub last : State
  pub is : (cycle : ℕ) → run_from cycle netlist code s clocks ≡ Reached last
  pub state : IsState netlist last
  pub alike : Alike temps (all_done jobs s.cells) last.cells

alike_on : (at : ℕ) (xs ys zs : List ℕ) → Alike at xs ys → Alike at ys zs → Alike at xs zs
alike_on at xs ys zs a b = record { same = a.same ∙ b.same; long = a.long ∙ b.long }

module _ (netlist : Netlist) (code : List ℕ) (patterns : List Pattern) (stock : StockModel) (sized : stock.file ≡ size_in InFile netlist.storages) (formed : AreFormed (file_place netlist.storages) patterns (length netlist.storages) stock.file stock.forms) where
  -- the words of one job
  one_left : (job : JobModel) (choice : JobCoverModel) (words : List ℕ) (s : State) → AreJobWords netlist patterns stock job choice words → IsCovered stock job choice → HasOne job.destination job.trees
      → AllLie stock.temps s.cells (job ∷ []) → IsState netlist s → StandAt code (counter_in netlist s) words → counter_in netlist s + length words ≤ 2 ^ counter_width netlist
      → (r : RunsTo netlist code s (length words) no_regs (steps_effect (operation_in netlist patterns) (job_steps stock job choice) s)) × Alike stock.temps (done job s.cells) r.last.cells
  one_left job choice words s made covered one lies state stands room =
      let r : RunsTo netlist code s (length words) no_regs (steps_effect (operation_in netlist patterns) (job_steps stock job choice) s) =
      made.packing.means code words s (all_fit (operation_in netlist patterns) (fits_over netlist (operation_in netlist patterns)) no_regs words made.groups made.least) state stands room in
      let l : LeavesDone stock.temps (job ∷ []) s (steps_effect (operation_in netlist patterns) (job_steps stock job choice) s) =
      job_left stock (file_place netlist.storages) patterns (length netlist.storages) formed job choice s covered one state.regs (filed netlist stock.file s sized state) lies.0 in
      (r, record { same = l.same ∙ ap (drop stock.temps) (sym r.agree.cells); long = l.long ∙ ap length (sym r.agree.cells) })

  -- and those of all of them
  pub all_left : (jobs : List JobModel) (tried : List (Option JobCoverModel)) (words : List ℕ) (s : State) → AreTriedCovers stock jobs tried → AreWordsOf netlist patterns stock jobs tried words
      → AllLie stock.temps s.cells (tested_jobs jobs tried) → IsState netlist s → StandAt code (counter_in netlist s) words → counter_in netlist s + length words ≤ 2 ^ counter_width netlist
      → LeavesAll netlist code stock.temps (tested_jobs jobs tried) s (length words)
  all_left [] [] words s c made lies state stands room = record {
    last = s;
    is = λ cycle. ap (λ (ws : List ℕ). run_from cycle netlist code s (length ws)) made;
    state = state;
    alike = record { same = refl; long = refl };
  }
  all_left [] (choice ∷ tried) words s c made lies state stands room = absurd c
  all_left (job ∷ jobs) [] words s c made lies state stands room = absurd c
  all_left (job ∷ jobs) (None ∷ tried) words s c made lies state stands room = all_left jobs tried words s c made lies state stands room
  all_left (job ∷ jobs) (Some choice ∷ tried) words s c (first, rest, own, later, is) lies state stands room =
      let models : List JobModel = tested_jobs jobs tried in
      let at : ℕ = counter_in netlist s in
      let long : length words ≡ length first + length rest = ap length is ∙ length-append first rest in
      let parts = stand_parts code first rest at (subst (StandAt code at) is stands) in
      let one = one_left job choice first s own c.0 c.1 (lies.0, tt) state parts.0 (omega (arith, room, long)) in
      let r : RunsTo netlist code s (length first) no_regs (steps_effect (operation_in netlist patterns) (job_steps stock job choice) s) = one.0 in
      let alike : Alike stock.temps (done job s.cells) r.last.cells = one.1 in
      let on = stand_on code rest (at + length first) (counter_in netlist r.last) (2 ^ counter_width netlist) r.counter (r.state.fits.regs (counter_of netlist.codes)) (omega (arith, room, long)) parts.1 in
      let k : LeavesAll netlist code stock.temps models r.last (length rest) =
      all_left jobs tried rest r.last c.2 later (all_lie_behind stock.temps (done job s.cells) r.last.cells models alike lies.1) r.state on.0 on.1 in
      let b : Alike stock.temps (all_done models (done job s.cells)) (all_done models r.last.cells) = all_done_behind stock.temps (done job s.cells) r.last.cells models alike lies.1 in
      record {
        last = k.last;
        is = λ cycle. run_on netlist code (length first) (length rest) (length words) cycle s r.last k.last long (any_cycle netlist code (length first) 0 cycle s r.last r.is) k.is;
        state = k.state;
        alike = alike_on stock.temps (all_done models (done job s.cells)) (all_done models r.last.cells) k.last.cells b k.alike;
      }
