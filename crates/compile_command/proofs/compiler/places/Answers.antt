use Rattle.std.proofs.Common.{ℕ, ◌≡◌, ◌≤◌, sym, subst}
use Rattle.std.proofs.lemmas.Result.{err_from_is_err_and}
use Rattle.std.specs.List.{AllByRecursion}
use Rattle.net_model.specs.Nets.{memory_size}
use Rattle.net_model.proofs.ModeFaults.{modes_keep}
use Rattle.src_model.specs.Rules.{temp_count}
use Rattle.src_model.specs.Written.{model_of_program}
use Rattle.code_model.specs.declared.image.Places.{Places}
use Rattle.code_model.specs.ImageFits.{PlaceFits}
use Rattle.code_model.specs.Layout.{need_of, variables_of}
use Rattle.code_model.specs.Places.{Apart, places_from}
use Rattle.right_code.specs.Tasks.{read_task}
use Rattle.compile_command.proofs.FittingLemmas.{few_data_cells, of_first, places_fit}
use Rattle.compile_command.proofs.TaskLemmas.{place_fault}
use Rattle.compile_command.proofs.compiler.places.Goals as goal

pub returns-clause-apart : goal.returns-clause-apart
returns-clause-apart c =
    let found = c.in_ok-places.places in
    let netlist = c.args.modes.now.netlist in
    let have : c.memory_size.result ≡ memory_size netlist.storages =
    of_first memory_size netlist c.first.result.now.netlist c.memory_size.result c.first.ensures.base c.memory_size.ensures in
    subst (λ (n : ℕ). Apart found.temps found.list n) have c.in_ok-places.ensures.apart

pub returns-clause-room : goal.returns-clause-room
returns-clause-room c =
    let netlist = c.args.modes.now.netlist in
    let typed = c.args.typed.now in
    let have : c.memory_size.result ≡ memory_size netlist.storages =
    of_first memory_size netlist c.first.result.now.netlist c.memory_size.result c.first.ensures.base c.memory_size.ensures in
    record { room = subst (λ (n : ℕ). need_of typed.width (model_of_program typed.program) ≤ n) have c.in_ok-places.ensures.enough }

pub returns-clause-named : goal.returns-clause-named
returns-clause-named c =
    let netlist = c.args.modes.now.netlist in
    let program = model_of_program c.args.typed.now.program in
    let temps = temp_count c.args.typed.now.width program in
    let have : c.memory_size.result ≡ memory_size netlist.storages =
    of_first memory_size netlist c.first.result.now.netlist c.memory_size.result c.first.ensures.base c.memory_size.ensures in
    let apart : Apart temps (places_from temps (variables_of program.vars)) (memory_size netlist.storages) =
    subst (λ (n : ℕ). Apart temps (places_from temps (variables_of program.vars)) n) have
    (subst (λ (p : Places). Apart p.temps p.list c.memory_size.result) c.in_ok-places.ensures.places c.in_ok-places.ensures.apart) in
    subst (λ (p : Places). AllByRecursion PlaceFits p.list) (sym c.in_ok-places.ensures.places)
    (places_fit temps (memory_size netlist.storages) program.vars (few_data_cells netlist (modes_keep netlist c.args.modes.now.bases c.first.ensures.kept)) c.requires.named apart)

pub returns-in_err-places-clause-refused : goal.returns-in_err-places-clause-refused
returns-in_err-places-clause-refused c =
    let p = err_from_is_err_and c.from_residual.result c.from_residual.ensures.1 in
    let netlist = c.args.modes.now.netlist in
    let have : c.memory_size.result ≡ memory_size netlist.storages =
    of_first memory_size netlist c.first.result.now.netlist c.memory_size.result c.first.ensures.base c.memory_size.ensures in
    rw (p.1, p.2) (place_fault (read_task c.args.modes.now c.args.typed.now) c.memory_size.result have _ c.in_err-places.ensures.refused)
