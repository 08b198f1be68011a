use Rattle.std.proofs.Common.{◌≡◌, ◌++◌, take}
use Rattle.std.specs.List.{flat_map}
use Rattle.test_run.specs.Text.{fault_lines}
use Rattle.test_run.proofs.writing.put_findings.Given as goal

abbrev pub invariant-loop-fault : goal.invariant-loop-fault
invariant-loop-fault l = l.out.items ≡ l.initial.out.items ++ flat_map fault_lines (take l.fault-index l.found)
