use Rattle.std.proofs.Common.{map, drop}
use Rattle.net_model.specs.Written.{binding_of}
use Rattle.net_elab.specs.Inner.Sites.{model_of_site}
use Rattle.net_elab.proofs.Parts.{Equated}
use Rattle.net_elab.proofs.part.emit_equations.Given as goal

abbrev pub invariant-loop-port : goal.invariant-loop-port
invariant-loop-port l = Equated (model_of_site l.site) l.at (map binding_of l.equations) l.ports (drop l.port-index l.ports) l.fn.nets l.nets
