use Rattle.std.proofs.Common.{sym}
use Rattle.net_model.proofs.ModeFaults.{base_is, first_there, some_bases}
use Rattle.net_model.proofs.modes.Modes.first.Goals as goal

pub unreachable-requires : goal.unreachable-requires
unreachable-requires c = first_there c.self.inside.bases (some_bases _ _ c.self.invariant) c.in-None.ensures

pub returns-clause-base : goal.returns-clause-base
returns-clause-base c = rw (← c.self.view_is) (base_is _ _ c.self.invariant 0 c.in-Some.base.now (sym c.in-Some.ensures))
