use Rattle.std.proofs.Math.Logic.{∥∥₁_map}
use Rattle.tree_laws.proofs.Meanings.{list_tried}
use Rattle.tree_laws.proofs.classes.Classes.list.Goals as goal

pub invariant_of-self : goal.invariant_of-self
invariant_of-self c = record {
  meanings = ∥∥₁_map c.args.self.now.meanings
      (list_tried c.args.self.now c.insert.new.self.entries c.args.node c.canon-canon.result c.args.class c.insert.result c.requires c.canon-canon.ensures c.insert.ensures.updates
      (λ u. record { lists = u.0 }) c.insert.ensures.err);
}
