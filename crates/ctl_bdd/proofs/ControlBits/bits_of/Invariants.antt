use Rattle.std.proofs.Common.{◌≡◌, drop}
use Rattle.ctl_bdd.specs.Controls.{bits_in}
use Rattle.ctl_bdd.proofs.ControlBits.bits_of.Given as goal

abbrev pub invariant-loop-id : goal.invariant-loop-id
invariant-loop-id l = bits_in l.self.bits l.net ≡ bits_in (drop l.id-index l.self.bits) l.net
