use Rattle.tree_laws.proofs.TreeLaws.{stand_equal}
use Rattle.tree_laws.proofs.classes.Classes.equal_tree.Goals as goal

pub returns-in_ok-tree-in-Some-clause-equal : goal.returns-in_ok-tree-in-Some-clause-equal
returns-in_ok-tree-in-Some-clause-equal c =
    stand_equal c.args.self.now c.args.tree.now c.in_ok-tree-in-Some.field-0.tree c.in-Some.class c.args.self.now.meanings c.in-Some.ensures.stands c.in_ok-tree-in-Some.ensures.stands
