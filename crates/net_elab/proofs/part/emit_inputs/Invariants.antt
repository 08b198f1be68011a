use Rattle.std.proofs.Common.{map, drop}
use Rattle.net_model.specs.Written.{binding_of}
use Rattle.net_elab.specs.Inner.Sites.{model_of_site}
use Rattle.net_elab.proofs.Parts.{Linked}
use Rattle.net_elab.proofs.part.emit_inputs.Given as goal

abbrev pub invariant-loop-port : goal.invariant-loop-port
invariant-loop-port l = Linked (model_of_site l.site) l.at (map binding_of l.links) l.ports (drop l.port-index l.ports) l.fn.nets l.nets
