use Rattle.std.proofs.Common.{map}
use Rattle.net_model.specs.Nets.{memory_width}
use Rattle.view_lines.specs.Remarks.{model_of_remark}
use Rattle.check_command.proofs.PartLaws.{views_told}
use Rattle.check_command.proofs.checking.viewed.Goals as goal

pub unreachable-requires : goal.unreachable-requires
unreachable-requires c =
    let netlist = c.args.checked.now.netlist in
    views_told netlist _ c.netlist-netlist.ensures.kept c.args.image (memory_width netlist.storages) (map model_of_remark c.args.remarks.now) c.requires
    (rw (c.as_slice.ensures, c.netlist-netlist.ensures.value, rw c.in-Err-Form.field-0-is at c.in-Err-Form.is) at c.viewed_of.ensures.views)
