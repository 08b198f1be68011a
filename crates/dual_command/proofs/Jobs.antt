-- The jobs over two memories are jobs of a task whose memory is the joined one.
use Rattle.std.proofs.Common.{ℕ, ◌≡◌, ◌+◌, ◌^◌, ◌∙◌, ap, refl, sym, subst, Bool, false, List, [], ◌∷◌, map, None}
use Rattle.std.specs.Option.{option_map}
use Rattle.std.proofs.lemmas.List.{length-map}
use Rattle.std.proofs.lemmas.Option.{slice_get-map}
use Rattle.net_model.specs.declared.hardware.Netlist.{Netlist}
use Rattle.net_model.specs.CheckedRules.{memory_addr_width}
use Rattle.net_model.specs.Nets.{memory_size}
use Rattle.net_model.specs.Exprs.{ExprModel}
use Rattle.src_model.specs.Rules.{first_fault, temp_count}
use Rattle.src_model.specs.Written.{ProgramModel, stmts_of}
use Rattle.form_model.specs.declared.flow.Flow.{Flow}
use Rattle.form_model.specs.declared.flow.Flow.TheVariants.{Assign, Test as Tested, Jump as Jumped, End as Ended}
use Rattle.form_model.specs.Forms.{DestinationModel, into, cell, filed, stored, temporary, tested}
use Rattle.src_trees.specs.Flows.{program_flow, program_jobs}
use Rattle.src_trees.specs.Held.{HasCellRoom, HoldsVars}
use Rattle.src_trees.specs.Lowered.{MemoryMap, JobModel}
use Rattle.src_trees.specs.Meant.{DoProgram}
use Rattle.src_trees.proofs.Measured.{program_small}
use Rattle.src_trees.proofs.Parts.{jobs_in_length}
use Rattle.src_trees.proofs.TurnedTests.{told_nowhere, turned_nowhere}
use Rattle.dual_bank.specs.Banked.{banked_destination, banked_tree, job_of_banked, jobs_of_banked, joined_memory}
use Rattle.dual_bank.specs.Layouts.{bank_layout, FitsBanks}
use Rattle.dual_bank.proofs.Held.{bank_held, bank_room}
use Rattle.dual_bank.proofs.Lying.{banked_does}
use Rattle.dual_bank.proofs.Sizes.{banked_small}
use Rattle.right_code.specs.Jobs.{HasOne}
use Rattle.right_code.specs.Tasks.{HasJobs, Task}
use Rattle.right_code.specs.FlowJobs.{AllOne, AreFlowJobs}
use Rattle.right_code.proofs.Tasks.{program_tests, jobs_one}

module _ (k : ℕ) where
  one_kept : (destination : DestinationModel) (trees : List ExprModel) → HasOne destination trees → HasOne (banked_destination k destination) (map (banked_tree k) trees)
  one_kept (into id) trees h = (banked_tree k h.0, ap (map (banked_tree k)) h.1)
  one_kept (cell address) trees h = (banked_tree k h.0, ap (map (banked_tree k)) h.1)
  one_kept (stored address) trees h = (banked_tree k h.0, ap (map (banked_tree k)) h.1)
  one_kept temporary trees h = (banked_tree k h.0, ap (map (banked_tree k)) h.1)
  one_kept filed trees h = (banked_tree k h.0, ap (map (banked_tree k)) h.1)
  one_kept tested trees h = tt

  all_one : (jobs : List JobModel) → AllOne jobs → AllOne (map (job_of_banked k) jobs)
  all_one [] h = tt
  all_one (job ∷ later) h = (one_kept job.destination job.trees h.0, all_one later h.1)

  banked_tested : (destination : DestinationModel) → banked_destination k destination ≡ tested → destination ≡ tested
  banked_tested (into id) e = absurd (cc e)
  banked_tested (cell address) e = absurd (cc e)
  banked_tested (stored address) e = absurd (cc e)
  banked_tested temporary e = absurd (cc e)
  banked_tested filed e = absurd (cc e)
  banked_tested tested e = refl

  tests_kept : (all : List JobModel) (flow : List Flow) → AreFlowJobs all flow → AreFlowJobs (map (job_of_banked k) all) flow
  tests_kept all [] h = tt
  tests_kept all (Assign tree ∷ rest) h = (
    record {
      job = job_of_banked k h.0.job;
      at = slice_get-map (job_of_banked k) all tree ∙ ap (option_map (job_of_banked k)) h.0.at;
      destination = λ e. h.0.destination (banked_tested h.0.job.destination e);
    },
    tests_kept all rest h.1,
  )
  tests_kept all (Tested tree one none ∷ rest) h = (
    record {
      job = job_of_banked k h.0.job;
      at = slice_get-map (job_of_banked k) all tree ∙ ap (option_map (job_of_banked k)) h.0.at;
      destination = ap (banked_destination k) h.0.destination;
    },
    tests_kept all rest h.1,
  )
  tests_kept all (Jumped to ∷ rest) h = tests_kept all rest h
  tests_kept all (Ended ∷ rest) h = tests_kept all rest h

-- the task of a program in two memories, on a netlist
abbrev pub banked_task : Netlist → ℕ → ℕ → List Bool → ProgramModel → Task
banked_task netlist width k in_bank l = record {
  netlist = netlist;
  width = width;
  program = l;
  places = (bank_layout width k in_bank l).list;
  flow = program_flow l;
  jobs = jobs_of_banked k (joined_memory width k (bank_layout width k in_bank l).list) l;
}

-- where the netlist's memory is the joined one, and the program keeps its rules
pub banked_jobs : (netlist : Netlist) (width k bank : ℕ) (in_bank : List Bool) (l : ProgramModel) → FitsBanks width k bank in_bank l → memory_addr_width netlist.storages ≡ k + 1 → memory_size netlist.storages ≡ 2 ^ k + bank → first_fault width l ≡ None
    → HasJobs (banked_task netlist width k in_bank l)
banked_jobs netlist width k bank in_bank l fits addr size kept =
    let places = (bank_layout width k in_bank l).list in
    let m : MemoryMap = joined_memory width k places in
    let temps = temp_count width l in
    record {
      held = subst (λ (n : ℕ). HoldsVars temps l.vars (record { word = width; addr = n; places = places })) (sym addr) (bank_held width k bank in_bank l fits);
      room =
          subst (λ (n : ℕ). HasCellRoom temps (record { word = width; addr = memory_addr_width netlist.storages; places = places }) n) (sym size)
          (subst (λ (n : ℕ). HasCellRoom temps (record { word = width; addr = n; places = places }) (2 ^ k + bank)) (sym addr) (bank_room width k bank in_bank l fits));
      turned = λ tree. false;
      only = λ at tree e. refl;
      flow = sym (turned_nowhere (program_flow l));
      meant =
          subst (DoProgram (record { word = width; addr = memory_addr_width netlist.storages; places = places }) temps l) (sym (told_nowhere (jobs_of_banked k m l)))
          (subst (λ (n : ℕ). DoProgram (record { word = width; addr = n; places = places }) temps l (jobs_of_banked k m l)) (sym addr) (banked_does width k bank in_bank l fits));
      count = length-map (program_jobs m l) (job_of_banked k) ∙ jobs_in_length m (stmts_of l.body);
      one = all_one k (program_jobs m l) (jobs_one m (stmts_of l.body));
      tests = tests_kept k (program_jobs m l) (program_flow l) (program_tests m l);
      small = banked_small k width fits.some fits.wide temps 510 (program_jobs m l) (program_small m l kept (bank_held width k bank in_bank l fits).some);
    }
