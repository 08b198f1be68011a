use Rattle.std.proofs.Common.{◌≡◌, ◌+◌, ◌≤◌, drop}
use Rattle.net_model.specs.declared.hardware.Space.TheVariants.{File as InFile}
use Rattle.net_model.specs.CheckedRules.{count_in}
use Rattle.net_check.proofs.role.count_files.Given as goal

abbrev pub invariant-loop-storage : goal.invariant-loop-storage
invariant-loop-storage l = record {
  counted : l.count + count_in InFile (drop l.storage-index l.storages) ≡ count_in InFile l.storages;
  few : l.count ≤ l.storage-index;
}
