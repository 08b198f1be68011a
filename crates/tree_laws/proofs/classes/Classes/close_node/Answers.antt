use Rattle.tree_laws.specs.Classes.{expr_in}
use Rattle.tree_laws.proofs.Meanings.{node_stands, stands_one}
use Rattle.tree_laws.proofs.classes.Classes.close_node.Goals as goal

pub join-requires : goal.join-requires
join-requires c =
    stands_one c.args.self.now (expr_in c.args.self.now c.args.node) c.in-Some.class c.in-Some-find.other
    (node_stands c.args.self.now c.args.node c.in-Some.class c.in-Some.ensures) c.in-Some-find.ensures.stands
