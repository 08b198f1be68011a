use Rattle.std.proofs.Common.{◌≡◌, Some, subst, sym, ◌∙◌}
use Rattle.tree_laws.specs.Meanings.{listed_at}
use Rattle.tree_laws.proofs.Meanings.{found_stands}
use Rattle.tree_laws.proofs.Found.{unfit_unlisted}
use Rattle.tree_laws.proofs.classes.Classes.find.Goals as goal

pub returns-clause-stands : goal.returns-clause-stands
returns-clause-stands c =
    found_stands c.args.self.now c.args.node c.in_ok-class.class.now c.in_ok-node_width.ensures.0
    (subst (λ n. listed_at c.args.self.now.nodes.entries n ≡ Some c.in_ok-class.class.now) c.canon.ensures (sym c.in_ok-class.ensures.value))

pub returns-in_err-node_width-clause-listed : goal.returns-in_err-node_width-clause-listed
returns-in_err-node_width-clause-listed c = c.from_residual.ensures ∙ sym (unfit_unlisted c.args.self.now c.args.node c.in_err-node_width.ensures)
