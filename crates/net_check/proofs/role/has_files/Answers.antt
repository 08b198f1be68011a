use Rattle.std.proofs.Common.{◌≡◌, Some, option_map}
use Rattle.net_model.specs.declared.hardware.Space.TheVariants.{File as InFile}
use Rattle.net_model.specs.Nets.{array_in}
use Rattle.net_check.specs.Inner.Roles.{shape_of}
use Rattle.net_check.proofs.Lacks.{file_wide}
use Rattle.net_check.proofs.role.has_files.Goals as goal

pub is_reached-requires-clause-low : goal.is_reached-requires-clause-low
is_reached-requires-clause-low c =
    let met : Some c.in-Some.shape ≡ option_map shape_of (array_in InFile c.args.netlist.now.storages) = rw c.as_slice-storages.ensures at c.in-Some.ensures in
    (file_wide c.args.netlist.now c.args.netlist.now.storages c.in-Some.shape c.requires.storages met).0

pub is_reached-requires-clause-high : goal.is_reached-requires-clause-high
is_reached-requires-clause-high c =
    let met : Some c.in-Some.shape ≡ option_map shape_of (array_in InFile c.args.netlist.now.storages) = rw c.as_slice-storages.ensures at c.in-Some.ensures in
    (file_wide c.args.netlist.now c.args.netlist.now.storages c.in-Some.shape c.requires.storages met).1
