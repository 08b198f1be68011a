-- The netlist and the patterns of a machine of which it is known what its expressions read.
use Rattle.std.specs.Prelude.{List}
use Rattle.net_model.specs.declared.hardware.Netlist.{Netlist}
use Rattle.net_model.specs.Patterns.{Pattern}
use Rattle.transfer_set.specs.Machines.{machine_netlist, machine_patterns}
use Rattle.compaction.specs.declared.machine.KnownMachine.{KnownMachine}

abbrev pub known_netlist : KnownMachine → Netlist
known_netlist known = machine_netlist known.machine

abbrev pub known_patterns : KnownMachine → List Pattern
known_patterns known = machine_patterns known.machine
