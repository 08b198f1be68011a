use Rattle.test_run.proofs.Nets.{first_fault}
use Rattle.test_run.proofs.texts.shown.Goals as goal

pub new-requires-clause-fault : goal.new-requires-clause-fault
new-requires-clause-fault c = first_fault _ _ c.netlist.ensures.kept c.netlist.ensures.sound.typed
