use Rattle.std.proofs.Common.{◌≡◌, drop}
use Rattle.net_model.specs.TextNames.{port_named}
use Rattle.net_elab.proofs.site.port_named.Given as goal

abbrev pub invariant-loop-port : goal.invariant-loop-port
invariant-loop-port l = port_named l.output l.ports l.name ≡ port_named l.output (drop l.port-index l.ports) l.name
