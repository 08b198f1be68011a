-- The least offset at which a rule on control is broken, by two scans.
use Rattle.std.proofs.Common.{◌≡◌, sym, ap, ◌∙◌}
use Rattle.net_model.specs.declared.hardware.Netlist.{Netlist}
use Rattle.rec_bits.specs.Faults.{lesser_offset, least}
use Rattle.net_model.specs.Control.{enables, selectors}
use Rattle.net_model.specs.CheckedRules.{is_plain}
use Rattle.net_model.specs.NetFaults.{failing, name_at, control_offsets}
use Rattle.rec_bits.proofs.Faults.{least_append}
use Rattle.net_model.proofs.Offsets.{failing_append}

pub at_control : (netlist : Netlist) → lesser_offset (least (failing (is_plain netlist) (name_at netlist) (enables netlist))) (least (failing (is_plain netlist) (name_at netlist) (selectors netlist))) ≡ least (control_offsets netlist)
at_control netlist =
    sym (least_append (failing (is_plain netlist) (name_at netlist) (enables netlist)) (failing (is_plain netlist) (name_at netlist) (selectors netlist)))
    ∙ ap least (sym (failing_append (is_plain netlist) (name_at netlist) (enables netlist) (selectors netlist)))
