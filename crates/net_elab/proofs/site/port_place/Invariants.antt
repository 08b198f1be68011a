use Rattle.std.proofs.Common.{◌≡◌, ◌+◌, drop}
use Rattle.net_model.specs.Numbering.{port_place}
use Rattle.net_elab.proofs.site.port_place.Given as goal

abbrev pub invariant-loop-place : goal.invariant-loop-place
invariant-loop-place l = l.place + port_place l.output (drop l.place l.ports) l.name ≡ port_place l.output l.ports l.name
