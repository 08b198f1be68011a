use Rattle.src_trees.proofs.Done.{assign_done}
use Rattle.src_trees.proofs.laws.law_of_assignments.Goals as goal

pub returns : goal.returns
returns c = λ m temps vars cells place e held room h. (assign_done m temps vars held cells room place e h.left.fits h.right.fits h.left.known h.right.known h.left.inside h.right.inside).at
