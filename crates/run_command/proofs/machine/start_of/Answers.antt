use Rattle.std.proofs.Common.{◌≡◌, None}
use Rattle.net_model.specs.MemoryText.{IsMemoryRefusal, IsMemoryText}
use Rattle.state_text.specs.Settings.{IsStartState}
use Rattle.run_command.specs.Inner.Runs.{IsMemoryFaultOf, memory_fault}
use Rattle.run_command.proofs.Firsts.{memory_fault_first, memory_first, start_first, told_err, told_ok}
use Rattle.run_command.proofs.machine.start_of.Goals as goal

pub returns-clause-found : goal.returns-clause-found
returns-clause-found c =
    let netlist = c.args.modes.now.netlist in
    let first = c.first.result.now.netlist in
    let bytes = c.args.bytes.now in
    told_ok (λ fault other. other ≡ memory_fault fault) c.read_state.result c.map_err.result (IsMemoryText first None bytes) (IsMemoryText netlist None bytes)
    (memory_first netlist first c.first.ensures.base bytes) c.map_err.ensures.cases c.read_state.ensures.found

pub returns-clause-fits : goal.returns-clause-fits
returns-clause-fits c =
    let netlist = c.args.modes.now.netlist in
    let first = c.first.result.now.netlist in
    told_ok (λ fault other. other ≡ memory_fault fault) c.read_state.result c.map_err.result (IsStartState first) (IsStartState netlist)
    (start_first netlist first c.first.ensures.base) c.map_err.ensures.cases c.read_state.ensures.fits

pub returns-clause-refused : goal.returns-clause-refused
returns-clause-refused c =
    let netlist = c.args.modes.now.netlist in
    let first = c.first.result.now.netlist in
    let bytes = c.args.bytes.now in
    told_err (λ fault other. other ≡ memory_fault fault) c.read_state.result c.map_err.result (IsMemoryRefusal first None bytes) (IsMemoryFaultOf netlist bytes)
    (λ fault other is refused. rw is (memory_fault_first netlist first c.first.ensures.base bytes fault refused)) c.map_err.ensures.cases c.read_state.ensures.refused
