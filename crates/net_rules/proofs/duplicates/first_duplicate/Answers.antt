use Rattle.std.proofs.Common.{[], map, sym}
use Rattle.rec_bits.specs.Faults.{gather}
use Rattle.rec_bits.proofs.Faults.{least_append}
use Rattle.net_model.specs.NameRules.{repeated, repeated_ports}
use Rattle.net_model.specs.TextNames.{own_name}
use Rattle.net_model.specs.Written.{model_of_unit}
use Rattle.net_rules.proofs.duplicates.first_duplicate.Goals as goal

pub returns : goal.returns
returns c =
    rw (c.lesser_offset.ensures, c.in_ok-found.ensures, c.in_ok-first_repeated_port.ensures, c.as_slice-items.ensures)
    (sym (least_append (repeated [] (map own_name (map model_of_unit c.args.units.now.items))) (gather repeated_ports (map model_of_unit c.args.units.now.items))))
