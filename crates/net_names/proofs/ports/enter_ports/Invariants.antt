use Rattle.net_names.specs.Places.{HasPortPlaces}
use Rattle.net_names.proofs.ports.enter_ports.Given as goal

abbrev pub invariant-loop-i : goal.invariant-loop-i
invariant-loop-i l = HasPortPlaces l.inputs l.outputs l.ports l.i
