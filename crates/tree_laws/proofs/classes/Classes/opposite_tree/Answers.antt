use Rattle.tree_laws.proofs.TreeLaws.{stand_opposite}
use Rattle.tree_laws.proofs.classes.Classes.opposite_tree.Goals as goal

pub returns-in_ok-tree-in-Some-clause-opposite : goal.returns-in_ok-tree-in-Some-clause-opposite
returns-in_ok-tree-in-Some-clause-opposite c =
    stand_opposite c.args.self.now c.in_ok-tree-in-Some.field-0.tree c.args.test.now c.in-Some.class c.args.self.now.meanings c.in_ok-tree-in-Some.ensures.stands c.in-Some.ensures.stands
