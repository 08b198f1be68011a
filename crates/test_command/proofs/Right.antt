-- A self-test that is made for a netlist is right, where the memory has the cells that it needs and
-- the code has room for its words.
use Rattle.std.proofs.Common.{◌≡◌, ℕ, ◌+◌, ◌<◌, ◌≤◌, List, [], ◌∷◌, Option, Some, None, length, refl, sym, arith, subst}
use Rattle.std.specs.List.{AllByRecursion}
use Rattle.rec_bits.proofs.Lists.{zeros_at, cell_behind}
use Rattle.net_model.specs.declared.hardware.Netlist.{Netlist}
use Rattle.net_model.specs.declared.hardware.Space.TheVariants.{Memory as InMemory, File as InFile}
use Rattle.net_model.specs.declared.hardware.Space.TheVariants.{Memory as InMemory}
use Rattle.net_model.specs.declared.states.State.{State}
use Rattle.net_model.specs.CheckedRules.{KeepsRules, code_size}
use Rattle.net_model.specs.Clock.{counter_in}
use Rattle.net_model.specs.Nets.{counter_of, file_place, memory_size, memory_width, size_in, word_width}
use Rattle.net_model.specs.Exprs.{ExprModel}
use Rattle.net_model.proofs.WordWidths.{has_bits}
use Rattle.emit_seq.specs.Formed.{AreFormed}
use Rattle.form_model.specs.Covers.{JobCoverModel, StockModel}
use Rattle.src_trees.specs.Doing.{all_done}
use Rattle.src_trees.specs.Lowered.{JobModel}
use Rattle.word_fit.specs.Runs.{StandAt}
use Rattle.right_code.specs.Jobs.{HasOne}
use Rattle.right_code.specs.Inner.Known.{AreKnown}
use Rattle.right_code.proofs.Known.{known_of}
use Rattle.right_code.proofs.Listed.{are_formed}
use Rattle.self_test.specs.Cells.{all_operands, test_need, test_temps, test_values, test_jobs, jobs_from}
use Rattle.self_test.specs.Trees.{operands, widths_of}
use Rattle.test_run.specs.Starts.{test_start}
use Rattle.test_run.proofs.Cells.{start_fits}
use Rattle.test_command.specs.Tested.{IsRightTest}
use Rattle.test_code.specs.Tried.{AreTried, IsMadeFor, test_stock}
use Rattle.test_code.specs.Inner.Jobs.{IsCellJob}
use Rattle.test_code.proofs.Fitting.{job_covered}
use Rattle.test_code.proofs.Plain.{test_plain}
use Rattle.test_command.proofs.Leaving.{AreTriedCovers, LeavesAll, all_left, tested_jobs}
use Rattle.test_command.proofs.Runs.{stand_whole}
use Rattle.test_command.proofs.Values.{hold, lie}

tried_long : (netlist : Netlist) (stock : StockModel) (values : List ExprModel) (tried : List (Option JobCoverModel)) (at out : ℕ) → AreTried stock (jobs_from (widths_of netlist) at out values) tried → length tried ≡ length values
tried_long netlist stock [] [] at out c = refl
tried_long netlist stock [] (choice ∷ tried) at out c = absurd c
tried_long netlist stock (t ∷ values) [] at out c = absurd c
tried_long netlist stock (t ∷ values) (choice ∷ tried) at out c = let e = tried_long netlist stock values tried (at + operands t) (out + 1) c.1 in omega (arith, e)

module _ (netlist : Netlist) (order : List ℕ) (keeps : KeepsRules netlist order) (tried : List (Option JobCoverModel)) (words : List ℕ) (made : IsMadeFor netlist tried words) where
  some : 0 < word_width netlist
  some = has_bits netlist order keeps

  known : AreKnown netlist made.patterns
  known = known_of netlist order keeps made.patterns made.are

  formed : AreFormed (file_place netlist.storages) made.patterns (length netlist.storages) (size_in InFile netlist.storages) made.all
  formed = are_formed netlist order keeps some made.patterns known made.reach made.all made.forms.list

  abbrev values : List ExprModel
  values = test_values netlist made.all made.patterns

  abbrev temps : ℕ
  temps = test_temps netlist made.all made.patterns

  abbrev outputs : ℕ
  outputs = temps + all_operands values

  abbrev cell_jobs : List JobModel
  cell_jobs = test_jobs netlist made.all made.patterns

  abbrev start : State
  start = test_start netlist

  abbrev stock : StockModel
  stock = test_stock netlist made.all made.patterns

  -- the chosen covers have cells for their cuts
  covers : (jobs : List JobModel) (others : List (Option JobCoverModel)) → AllByRecursion (IsCellJob (memory_width netlist.storages) temps) jobs → AreTried stock jobs others → AreTriedCovers stock jobs others
  covers [] [] j c = tt
  covers [] (choice ∷ others) j c = absurd c
  covers (job ∷ jobs) [] j c = absurd c
  covers (job ∷ jobs) (None ∷ others) j c = covers jobs others j.1 c.1
  covers (job ∷ jobs) (Some choice ∷ others) j c = (
    job_covered netlist order keeps made.patterns made.are made.all made.reach made.forms temps (size_in InFile netlist.storages) job choice j.0 c.0,
    subst (λ (x : JobModel). HasOne x.destination x.trees) (sym j.0.is) (j.0.tree, refl),
    covers jobs others j.1 c.1,
  )

  module _ (cells : test_need netlist made.all made.patterns ≤ memory_size netlist.storages) (room : length words ≤ code_size netlist.codes) where
    -- what the run of the words leaves
    left : LeavesAll netlist words temps (tested_jobs cell_jobs tried) start (length words)
    left =
        let state = start_fits netlist in
        let at : counter_in netlist start ≡ 0 = zeros_at (length netlist.storages) (counter_of netlist.codes) in
        let size = keeps.roles.sizes.0.1 in
        let long = state.cells InMemory in
        all_left netlist words made.patterns stock refl formed cell_jobs tried words start
        (covers cell_jobs tried (test_plain netlist made.all made.patterns) made.trials) made.code
        (lie netlist temps values tried temps outputs start.cells (omega arith) (omega arith) (omega (arith, cells, long))) state
        (subst (λ n. StandAt words n words) (sym at) (stand_whole words)) (omega (arith, at, room, size))

    pub right_test : (good : List ℕ) × IsRightTest netlist tried words good
    right_test =
        let long = (start_fits netlist).cells InMemory in (
          left.last.cells,
          record {
            made = made;
            runs = record { ends = left.last; runs = left.is 0; cells = refl };
            values = hold netlist (memory_width netlist.storages) temps outputs start left.last.cells values tried temps outputs start.cells (test_plain netlist made.all made.patterns)
                (tried_long netlist stock values tried temps outputs made.trials)
                (omega arith) (omega arith) (omega arith) (omega (arith, cells, long)) (λ a h. refl)
                (λ c h. sym (cell_behind temps c (all_done (tested_jobs cell_jobs tried) start.cells) left.last.cells left.alike.same h));
          },
        )
