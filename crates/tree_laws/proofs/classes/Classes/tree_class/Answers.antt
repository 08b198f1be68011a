use Rattle.std.proofs.Common.{subst}
use Rattle.tree_laws.specs.Classes.{Stands}
use Rattle.tree_laws.specs.Meanings.{class_expr}
use Rattle.tree_laws.proofs.Standing.{class_stands}
use Rattle.tree_laws.proofs.classes.Classes.tree_class.Goals as goal

pub returns : goal.returns
returns c =
    subst (λ i. Stands c.args.self.now (class_expr c.args.self.now.classes.items i) c.in_ok-class.class) c.in_ok-class.ensures.1
    (class_stands c.args.self.now c.in_ok-class.class c.in_ok-width.ensures.0)
