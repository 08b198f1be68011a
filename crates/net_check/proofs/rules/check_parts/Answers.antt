use Rattle.net_model.proofs.Acyclic.{acyclic_of}
use Rattle.net_check.proofs.rules.check_parts.Goals as goal

pub returns-in-Some : goal.returns-in-Some
returns-in-Some c = (acyclic_of _ _ c.requires.order, c.in-Some.ensures)
