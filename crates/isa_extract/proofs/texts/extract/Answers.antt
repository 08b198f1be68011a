use Rattle.isa_extract.proofs.Extracting.{text_of_modes}
use Rattle.isa_extract.proofs.texts.extract.Goals as goal

pub returns-clause-text : goal.returns-clause-text
returns-clause-text c = text_of_modes _ _ _ c.in_ok-modes.ensures.netlist c.in_ok-text.ensures
