use Rattle.emit_seq.proofs.Few.{chosen_few}
use Rattle.emit_seq.proofs.laws.law_of_cells.Goals as goal

pub returns : goal.returns
returns c = chosen_few
