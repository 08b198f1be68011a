use Rattle.std.proofs.Common.{map}
use Rattle.view_lines.specs.Remarks.{model_of_remark}
use Rattle.check_command.proofs.ReadLemmas.{viewed_read}
use Rattle.check_command.proofs.checking.image.Goals as goal

pub returns-clause-found : goal.returns-clause-found
returns-clause-found c =
    viewed_read c.args.checked.now.netlist c.args.img.now c.in_ok-image.field-0.image (map model_of_remark c.in_ok-image.field-0.remarks.items) c.in_ok-viewed.viewed
    c.in_ok-image.ensures.found c.in_ok-image.ensures.only (rw c.deref.ensures.value at c.in_ok-viewed.ensures.views) c.in_ok-viewed.ensures.image (rw c.deref.ensures.value at c.in_ok-viewed.ensures.hidden)
