use Rattle.net_model.proofs.KeptRules.{sound_of}
use Rattle.net_model.proofs.checked.Checked.netlist.Goals as goal

pub returns-clause-sound : goal.returns-clause-sound
returns-clause-sound c = rw (← c.self.view_is) (sound_of _ _ c.self.invariant)
