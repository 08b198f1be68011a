-- The task of a program whose variables stand behind each other has its jobs, and an image that is
-- laid out for it has its variables behind each other.
use Rattle.std.proofs.Common.{ℕ, ◌≡◌, ◌≤◌, ◌+◌, false, List, [], ◌∷◌, None, refl, sym, ◌∙◌, ap, subst, arith}
use Rattle.net_model.specs.declared.hardware.Netlist.{Netlist}
use Rattle.net_model.specs.declared.hardware.Storage.{Storage}
use Rattle.net_model.specs.CheckedRules.{memory_addr_width}
use Rattle.net_model.specs.Nets.{memory_size, memory_width}
use Rattle.net_model.proofs.Bases.{base_of}
use Rattle.net_model.proofs.ModeFaults.{first_keeps}
use Rattle.net_model.specs.ModeRules.{KeepsModes, base_at}
use Rattle.net_model.specs.Exprs.{ExprModel}
use Rattle.src_model.specs.declared.program.Var.{Var as Declared}
use Rattle.src_model.specs.Meaning.{cells_in}
use Rattle.src_model.specs.Rules.{first_fault, temp_count}
use Rattle.src_model.specs.Written.{ProgramModel, stmts_of}
use Rattle.code_model.specs.declared.image.Image.{Image}
use Rattle.code_model.specs.declared.image.Place.{Place as VariablePlace}
use Rattle.code_model.specs.Layout.{need_of, variables_of}
use Rattle.code_model.specs.Places.{Apart, places_from}
use Rattle.code_model.specs.Right.{IsLaidOut}
use Rattle.form_model.specs.Forms.{DestinationModel}
use Rattle.src_trees.specs.Flows.{program_flow, program_jobs}
use Rattle.src_trees.specs.Held.{HoldsVars, LieWithin}
use Rattle.src_trees.specs.Lowered.{JobModel}
use Rattle.src_trees.specs.Meant.{DoProgram}
use Rattle.src_trees.specs.Measures.{AllSmall, TreesAre}
use Rattle.src_trees.specs.Seen.{InReach}
use Rattle.src_trees.proofs.Cells.{row_cell_room, row_held}
use Rattle.src_trees.proofs.Following.{own_does}
use Rattle.src_trees.proofs.Measured.{program_small}
use Rattle.src_trees.proofs.Parts.{jobs_in_length}
use Rattle.src_trees.proofs.TurnedTests.{told_nowhere, turned_nowhere}
use Rattle.right_code.specs.Images.{IsLaidAt}
use Rattle.right_code.specs.Tasks.{HasJobs, IsChecked, row_memory, row_task}
use Rattle.right_code.specs.FlowJobs.{node_limit}
use Rattle.right_code.proofs.Chosen.{in_reach}
use Rattle.right_code.proofs.Tasks.{program_tests, jobs_one}

-- jobs that are smaller than a bound are smaller than a greater one
trees_more : (bits temps most more : ℕ) (destination : DestinationModel) (trees : List ExprModel) → most ≤ more → TreesAre bits temps most destination trees → TreesAre bits temps more destination trees
trees_more bits temps most more destination [] le h = tt
trees_more bits temps most more destination (t ∷ trees) le h =
    let size = h.2 in
    (h.0, h.1, omega (arith, size, le), trees_more bits temps most more destination trees le h.3)

pub small_more : (bits temps most more : ℕ) (jobs : List JobModel) → most ≤ more → AllSmall bits temps most jobs → AllSmall bits temps more jobs
small_more bits temps most more [] le h = tt
small_more bits temps most more (job ∷ later) le h = (
  record { destination = h.0.destination; trees = trees_more bits temps most more job.destination job.trees le h.0.trees },
  small_more bits temps most more later le h.1,
)

module _ (netlist : Netlist) (width : ℕ) (l : ProgramModel) (modes : KeepsModes netlist) (kept : first_fault width l ≡ None) (words : memory_width netlist.storages ≡ width) (room : need_of width l ≤ memory_size netlist.storages)
    (near : InReach width (memory_addr_width netlist.storages) (temp_count width l) l.vars) where
  held : HoldsVars (temp_count width l) l.vars (row_memory netlist width l)
  held = row_held width (memory_addr_width netlist.storages) (temp_count width l) l.vars near

  pub row_jobs : HasJobs (row_task netlist width l)
  row_jobs = record {
    held = held;
    room = row_cell_room width (memory_addr_width netlist.storages) (temp_count width l) (memory_size netlist.storages) l.vars room;
    turned = λ tree. false;
    only = λ at tree e. refl;
    flow = sym (turned_nowhere (program_flow l));
    meant =
        subst (DoProgram (row_memory netlist width l) (temp_count width l) l) (sym (told_nowhere (program_jobs (row_memory netlist width l) l)))
        (own_does (row_memory netlist width l) (temp_count width l) l held);
    count = jobs_in_length (row_memory netlist width l) (stmts_of l.body);
    one = jobs_one (row_memory netlist width l) (stmts_of l.body);
    tests = program_tests (row_memory netlist width l) l;
    small = small_more width (temp_count width l) 510 node_limit _ (omega arith) (program_small (row_memory netlist width l) l kept near.some);
  }

  pub row_checked : IsChecked (row_task netlist width l)
  row_checked = record { netlist = modes; program = kept; words = words; jobs = row_jobs }

-- the addresses of a checked netlist's memory reach what it has room for
pub task_checked : (netlist : Netlist) (width : ℕ) (l : ProgramModel) → KeepsModes netlist → first_fault width l ≡ None → memory_width netlist.storages ≡ width → need_of width l ≤ memory_size netlist.storages
    → IsChecked (row_task netlist width l)
task_checked netlist width l modes kept words room =
    let base = first_keeps netlist modes in
    let e : (base_at netlist 0).storages ≡ netlist.storages = (base_of netlist netlist.special 0).storages in
    row_checked netlist width l modes kept words room
    (subst (λ (list : List Storage). InReach width (memory_addr_width list) (temp_count width l) l.vars) e
    (in_reach (base_at netlist 0) base.order base.rules width l (ap memory_width e ∙ words) (subst (λ (list : List Storage). need_of width l ≤ memory_size list) (sym e) room)))

-- ---- images that are laid out for it

row_apart : (first at end : ℕ) (vars : List Declared) → at ≤ end → LieWithin first end (places_from at (variables_of vars)) → Apart at (places_from at (variables_of vars)) end
row_apart first at end [] le w = le
row_apart first at end (v ∷ vars) le w = (omega arith, row_apart first (at + cells_in v) end vars w.1 w.2)

pub row_laid : (netlist : Netlist) (width : ℕ) (l : ProgramModel) (image : Image) → IsLaidAt (row_task netlist width l) image → IsLaidOut netlist (temp_count width l) (variables_of l.vars) image
row_laid netlist width l image h = record {
  temps = h.temps;
  places = h.places ∙ ap (λ (n : ℕ). places_from n (variables_of l.vars)) (sym h.temps);
  apart = subst (λ (n : ℕ). Apart n image.places (memory_size netlist.storages)) (sym h.temps)
      (subst (λ (places : List VariablePlace). Apart (temp_count width l) places (memory_size netlist.storages)) (sym h.places)
      (row_apart (temp_count width l) (temp_count width l) (memory_size netlist.storages) l.vars h.room.below h.room.within));
}
