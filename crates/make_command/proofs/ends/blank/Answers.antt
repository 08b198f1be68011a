use Rattle.std.proofs.Common.{subst, [], None}
use Rattle.net_model.specs.MemoryText.{IsMemoryRefusal}
use Rattle.make_command.proofs.Blank.{no_fault_of_nothing, start_of_nothing, zeros_of_nothing}
use Rattle.make_command.proofs.ends.blank.Goals as goal

pub unreachable-requires : goal.unreachable-requires
unreachable-requires c =
    let base = c.first.result.now.netlist in
    no_fault_of_nothing base c.in-Err-Text.field-0-0 (subst (IsMemoryRefusal base None []) c.in-Err-Text.field-0-is c.in-Err-Text.ensures.refused)

pub returns-in-Ok-clause-zeros : goal.returns-in-Ok-clause-zeros
returns-in-Ok-clause-zeros c =
    zeros_of_nothing c.args.modes.now.netlist c.first.result.now.netlist c.first.ensures.base c.in-Ok.state c.in-Ok.ensures.found

pub returns-in-Ok-clause-starts : goal.returns-in-Ok-clause-starts
returns-in-Ok-clause-starts c =
    start_of_nothing c.args.modes.now.netlist c.first.result.now.netlist c.first.ensures.base c.in-Ok.state c.in-Ok.ensures.found c.in-Ok.ensures.fits
