use Rattle.std.proofs.lemmas.Result.{err_from_is_err_and}
use Rattle.net_model.proofs.ModeFaults.{kept_no_mode_fault, modes_keep, only_memory_in_modes, only_mode_fault}
use Rattle.net_check.proofs.InModes.{accepted_by, refused_by}
use Rattle.net_check.proofs.modes.check_modes.Goals as goal

pub returns-then-is_none-clause-accepted : goal.returns-then-is_none-clause-accepted
returns-then-is_none-clause-accepted c = accepted_by c.args.netlist c.check_alone.result c.check_alone.ensures

pub returns-then-is_none-clause-refused : goal.returns-then-is_none-clause-refused
returns-then-is_none-clause-refused c = refused_by c.args.netlist c.check_alone.result c.check_alone.ensures

pub returns-in_err-bases-clause-accepted : goal.returns-in_err-bases-clause-accepted
returns-in_err-bases-clause-accepted c =
    let p = err_from_is_err_and c.from_residual.result c.from_residual.ensures.1 in
    λ keeps. rw (p.1, p.2) (only_memory_in_modes c.args.netlist _ c.in_err-bases.ensures keeps)

pub returns-in_err-bases-clause-refused : goal.returns-in_err-bases-clause-refused
returns-in_err-bases-clause-refused c =
    let p = err_from_is_err_and c.from_residual.result c.from_residual.ensures.1 in
    λ fault f. rw (p.1, p.2) (only_mode_fault c.args.netlist _ c.in_err-bases.ensures fault f)

pub returns-clause-refused : goal.returns-clause-refused
returns-clause-refused c = λ fault f. kept_no_mode_fault c.args.netlist (modes_keep c.args.netlist c.in_ok-bases.bases c.in_ok-bases.ensures) fault f
