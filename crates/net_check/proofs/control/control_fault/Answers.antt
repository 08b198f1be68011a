use Rattle.net_model.proofs.Acyclic.{acyclic_of}
use Rattle.net_check.proofs.control.control_fault.Goals as goal

pub fault_by_flags-requires-clause-acyclic : goal.fault_by_flags-requires-clause-acyclic
fault_by_flags-requires-clause-acyclic c = acyclic_of _ _ c.requires.order

pub file_fault-requires-clause-acyclic : goal.file_fault-requires-clause-acyclic
file_fault-requires-clause-acyclic c = acyclic_of _ _ c.requires.order
