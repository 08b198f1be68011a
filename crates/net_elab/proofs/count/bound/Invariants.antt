use Rattle.std.proofs.Common.{◌≡◌, map, drop}
use Rattle.net_model.specs.Written.{binding_of}
use Rattle.net_model.specs.Numbering.{bound}
use Rattle.net_elab.proofs.count.bound.Given as goal

abbrev pub invariant-loop-binding : goal.invariant-loop-binding
invariant-loop-binding l = bound (map binding_of l.bindings) l.name ≡ bound (map binding_of (drop l.binding-index l.bindings)) l.name
