use Rattle.src_trees.proofs.Meant.{meant}
use Rattle.src_trees.proofs.laws.law_of_trees.Goals as goal

pub returns-clause-value : goal.returns-clause-value
returns-clause-value c = λ m temps vars cells asked e held room h. (meant m temps vars held cells room asked e h.fits h.known h.inside).value

pub returns-clause-reads : goal.returns-clause-reads
returns-clause-reads c = λ m temps vars cells asked e held room h. (meant m temps vars held cells room asked e h.fits h.known h.inside).reads
