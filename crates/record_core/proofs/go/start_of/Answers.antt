use Rattle.std.proofs.Common.{◌≡◌}
use Rattle.net_model.specs.MemoryText.{IsMemoryRefusal, IsMemoryText}
use Rattle.run_command.proofs.Firsts.{told_err, told_ok}
use Rattle.code_model.specs.Machine.{IsCalm}
use Rattle.right_code.specs.Tasks.{read_task}
use Rattle.state_text.specs.Settings.{IsStartState}
use Rattle.record_core.specs.Inner.Putting.{IsMemoryStatus}
use Rattle.record_core.specs.Inner.Statuses.{memory_status}
use Rattle.record_core.proofs.GoLemmas.{both_ok, calm_start, said_of_first, unsaid_of_first}
use Rattle.record_core.proofs.go.start_of.Goals as goal

pub returns-clause-said : goal.returns-clause-said
returns-clause-said c =
    let task = read_task c.args.program.now.modes c.args.program.now.typed in
    let first = c.first.result.now.netlist in
    let whole = c.netlist.result.now in
    let memory = c.args.memory.now in
    told_ok (λ fault status. status ≡ memory_status fault) c.read_state.result c.map_err.result
    (IsMemoryText first whole.special memory) (IsMemoryText task.netlist task.netlist.special memory)
    (said_of_first task first whole c.first.ensures.base c.netlist.ensures.value memory) c.map_err.ensures.cases c.read_state.ensures.found

pub returns-clause-starts : goal.returns-clause-starts
returns-clause-starts c =
    let task = read_task c.args.program.now.modes c.args.program.now.typed in
    let first = c.first.result.now.netlist in
    let whole = c.netlist.result.now in
    let memory = c.args.memory.now in
    told_ok (λ fault status. status ≡ memory_status fault) c.read_state.result c.map_err.result
    (λ s. IsMemoryText first whole.special memory s × IsStartState first s) (IsCalm task.netlist 0)
    (calm_start task first whole c.first.ensures.base c.netlist.ensures.value memory) c.map_err.ensures.cases
    (both_ok c.read_state.result (IsMemoryText first whole.special memory) (IsStartState first) c.read_state.ensures.found c.read_state.ensures.fits)

pub returns-clause-refused : goal.returns-clause-refused
returns-clause-refused c =
    let task = read_task c.args.program.now.modes c.args.program.now.typed in
    let first = c.first.result.now.netlist in
    let whole = c.netlist.result.now in
    let memory = c.args.memory.now in
    told_err (λ fault status. status ≡ memory_status fault) c.read_state.result c.map_err.result (IsMemoryRefusal first whole.special memory) (IsMemoryStatus task memory)
    (λ fault status is refused. rw is (unsaid_of_first task first whole c.first.ensures.base c.netlist.ensures.value memory fault refused)) c.map_err.ensures.cases c.read_state.ensures.refused
