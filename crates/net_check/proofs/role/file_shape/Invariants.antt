use Rattle.std.proofs.Common.{◌≡◌, drop}
use Rattle.net_model.specs.declared.hardware.Space.TheVariants.{File as InFile}
use Rattle.net_model.specs.Nets.{array_in}
use Rattle.net_check.proofs.role.file_shape.Given as goal

abbrev pub invariant-loop-storage : goal.invariant-loop-storage
invariant-loop-storage l = array_in InFile l.storages ≡ array_in InFile (drop l.storage-index l.storages)
