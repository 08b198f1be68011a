use Rattle.std.proofs.Common.{◌∙◌, ap, sym}
use Rattle.std.proofs.lemmas.Result.{err_from_is_err_and}
use Rattle.net_model.specs.declared.hardware.Netlist.{Netlist}
use Rattle.net_model.specs.Nets.{memory_width}
use Rattle.check_command.proofs.Ordered.{viewed_come}
use Rattle.check_command.proofs.ReadLemmas.{read_stop, task_stop}
use Rattle.check_command.proofs.checking.check.Goals as goal

pub accepted-requires-clause-fits : goal.accepted-requires-clause-fits
accepted-requires-clause-fits c = c.in_ok-read.ensures.read.image_text.says.text.fits

pub accepted-requires-clause-word : goal.accepted-requires-clause-word
accepted-requires-clause-word c =
    let read = c.in_ok-read.ensures.read in
    sym (read.width ∙ ap (λ (n : Netlist). memory_width n.storages) (sym read.netlist))

pub accepted-requires-clause-views : goal.accepted-requires-clause-views
accepted-requires-clause-views c = viewed_come _ _ _ c.in_ok-read.ensures.read.image_text

pub returns-in_err-read-clause-refused : goal.returns-in_err-read-clause-refused
returns-in_err-read-clause-refused c =
    let p = err_from_is_err_and c.from_residual.result c.from_residual.ensures.1 in
    rw (p.1, p.2) (read_stop c.args.net.now c.args.src.now c.args.img.now _ c.in_err-read.ensures.refused)

pub returns-in_err-out-clause-refused : goal.returns-in_err-out-clause-refused
returns-in_err-out-clause-refused c =
    let p = err_from_is_err_and c.from_residual-in_err-out.result c.from_residual-in_err-out.ensures.1 in
    rw (p.1, p.2) (task_stop c.args.net.now c.args.src.now c.args.img.now _ c.in_ok-read.ensures.read _ c.in_err-out.ensures.refused)

pub returns-clause-checked : goal.returns-clause-checked
returns-clause-checked c = record { task = _; is = c.in_ok-read.ensures.read; holds = c.in_ok-out.ensures.accepted }
