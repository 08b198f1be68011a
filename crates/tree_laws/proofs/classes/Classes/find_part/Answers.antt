use Rattle.tree_laws.proofs.Standing.{if_some}
use Rattle.tree_laws.proofs.classes.Classes.find_part.Goals as goal

pub returns : goal.returns
returns c = λ exprs all. if_some c.find.result _ _ (λ k g. c.in_ok-part_node.ensures exprs all k g) c.find.ensures.stands
