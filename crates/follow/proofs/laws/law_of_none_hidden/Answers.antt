use Rattle.follow.proofs.Unhidden.{right_as_seen, right_by_views}
use Rattle.follow.proofs.laws.law_of_none_hidden.Goals as goal

pub returns : goal.returns
returns c = λ netlist width l viewed none. (right_as_seen netlist width l viewed none, right_by_views netlist width l viewed none)
