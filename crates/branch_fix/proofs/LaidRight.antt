-- Words that stand for a program's parts trace the program.
use Rattle.std.proofs.Common.{ℕ, ◌≡◌, ◌+◌, List, length, None, sym, ◌∙◌, arith}
use Rattle.net_model.specs.declared.hardware.Netlist.{Netlist}
use Rattle.net_model.specs.Nets.{memory_size, memory_width}
use Rattle.src_model.specs.Written.{ProgramModel, stmts_of}
use Rattle.src_model.specs.Rules.{first_fault}
use Rattle.src_model.specs.Trace.{strace}
use Rattle.code_model.specs.declared.image.Image.{Image}
use Rattle.code_model.specs.Places.{words_of}
use Rattle.code_model.specs.Right.{TracesRight}
use Rattle.form_model.specs.Forms.{FormModel}
use Rattle.src_trees.specs.Flows.{places_in, program_flow}
use Rattle.src_trees.specs.Held.{HasCellRoom, HoldsVars}
use Rattle.src_trees.specs.Lowered.{MemoryMap, JobModel}
use Rattle.src_trees.specs.Meant.{DoProgram}
use Rattle.src_trees.specs.Turned.{Turns, TurnsTests, jobs_of_told, turned_flow}
use Rattle.src_trees.proofs.Standing.{placed_right}
use Rattle.src_trees.proofs.TurnedTests.{turned_placed}
use Rattle.branch_fix.specs.declared.part.LayoutPart.{LayoutPart}
use Rattle.branch_fix.specs.Parts.{address, total}
use Rattle.branch_fix.specs.Made.{IsMade}
use Rattle.branch_fix.specs.Inner.Flowing.{IsFlow}
use Rattle.branch_fix.proofs.Addresses.{fit_length}
use Rattle.branch_fix.proofs.Laying.{address_total}
use Rattle.branch_fix.proofs.Shapes.{program_is_flow}
use Rattle.branch_fix.proofs.Placing.{made_placed}
use Rattle.branch_fix.proofs.TurnedFlows.{turned_is_flow}

pub laid_right : (netlist : Netlist) (image : Image) (m : MemoryMap) (temps : ℕ) (l : ProgramModel) (jobs : List JobModel) (forms : List FormModel) (parts : List LayoutPart)
    → first_fault m.word l ≡ None → memory_width netlist.storages ≡ m.word
    → HoldsVars temps l.vars m → HasCellRoom temps m (memory_size netlist.storages)
    → image.places ≡ m.places → DoProgram m temps l jobs
    → IsMade netlist image temps forms (program_flow l) jobs parts
    → length (words_of image) ≡ total parts
    → TracesRight netlist image (strace m.word l)
laid_right netlist image m temps l jobs forms parts kept wide held room places does made long =
    let f : IsFlow (program_flow l) (places_in (stmts_of l.body)) = program_is_flow l in
    let n = fit_length forms (program_flow l) 0 (program_flow l) parts made.fit in
    let e = f.long in
    placed_right netlist image m temps l jobs (address parts) kept wide held room places does
    (made_placed netlist image temps forms (program_flow l) jobs parts (places_in (stmts_of l.body)) f made
    (long ∙ sym (address_total parts (places_in (stmts_of l.body) + 1) (omega (arith, n, e)))))

-- so do those for the parts of a flow some tests of which are turned
pub turned_right : (netlist : Netlist) (image : Image) (m : MemoryMap) (temps : ℕ) (l : ProgramModel) (turned : Turns) (jobs : List JobModel) (forms : List FormModel) (parts : List LayoutPart)
    → first_fault m.word l ≡ None → memory_width netlist.storages ≡ m.word
    → HoldsVars temps l.vars m → HasCellRoom temps m (memory_size netlist.storages)
    → image.places ≡ m.places → TurnsTests turned (program_flow l) → DoProgram m temps l (jobs_of_told turned jobs)
    → IsMade netlist image temps forms (turned_flow turned (program_flow l)) jobs parts
    → length (words_of image) ≡ total parts
    → TracesRight netlist image (strace m.word l)
turned_right netlist image m temps l turned jobs forms parts kept wide held room places tests does made long =
    let end : ℕ = places_in (stmts_of l.body) in
    let f : IsFlow (turned_flow turned (program_flow l)) (places_in (stmts_of l.body)) = turned_is_flow turned (program_flow l) (places_in (stmts_of l.body)) (program_is_flow l) in
    let n = fit_length forms (turned_flow turned (program_flow l)) 0 (turned_flow turned (program_flow l)) parts made.fit in
    let e = f.long in
    placed_right netlist image m temps l (jobs_of_told turned jobs) (address parts) kept wide held room places does
    (turned_placed netlist image temps turned (program_flow l) jobs (address parts) end tests
    (made_placed netlist image temps forms (turned_flow turned (program_flow l)) jobs parts end f made
    (long ∙ sym (address_total parts (end + 1) (omega (arith, n, e))))))
