use Rattle.std.proofs.Common.{◌∙◌}
use Rattle.net_model.proofs.ModeFaults.{whole_first}
use Rattle.net_model.proofs.modes.Modes.netlist.Goals as goal

pub returns-in-Some-clause-value : goal.returns-in-Some-clause-value
returns-in-Some-clause-value c = rw (← c.self.view_is, c.in-Some.is)

pub returns-in-None-clause-value : goal.returns-in-None-clause-value
returns-in-None-clause-value c =
    rw (← c.self.view_is, c.in-None.is)
    (c.netlist.ensures.value ∙ whole_first c.self.inside.bases c.first.result.now (rw (← c.self.view_is) at c.first.ensures.value))
