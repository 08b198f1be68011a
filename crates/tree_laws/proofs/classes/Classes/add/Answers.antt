use Rattle.tree_laws.proofs.Found.{found_of}
use Rattle.tree_laws.proofs.classes.Classes.add.Goals as goal

pub returns-in_ok-push-in-Some-node_width-clause-stands : goal.returns-in_ok-push-in-Some-node_width-clause-stands
returns-in_ok-push-in-Some-node_width-clause-stands c =
    found_of c.push.new.self c.args.node c.in_ok-push-in-Some-node_width.field-0 c.in_ok-push-in-Some-node_width.ensures.listed
