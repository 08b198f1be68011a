use Rattle.std.proofs.Common.{◌≡◌, length, arith, refl, ap, ◌∙◌}
use Rattle.std.proofs.Math.Logic.{∥∥₁_map}
use Rattle.tree_laws.specs.Classes.{listed_in}
use Rattle.tree_laws.proofs.Grown.{node_grows}
use Rattle.tree_laws.proofs.Meanings.{class_tried, push_listed, push_tried}
use Rattle.tree_laws.proofs.classes.Classes.push.Goals as goal

pub invariant_of-self : goal.invariant_of-self
invariant_of-self c =
    let next : c.len-class.result ≡ length c.args.self.now.classes.items = omega (arith, c.len-class.ensures, c.args.self.now.classes.ok.0) in
    record {
      meanings = ∥∥₁_map c.args.self.now.meanings
          (class_tried c.args.self.now c.args.node c.requires.fits (record { width = c.args.width; head = c.len-class.result }) c.requires.width next
          c.push.new.self.items c.push.result c.push.ensures.items);
    }

pub invariant_of-self-2 : goal.invariant_of-self-2
invariant_of-self-2 c =
    let next : c.len-class.result ≡ length c.args.self.now.classes.items = omega (arith, c.len-class.ensures, c.args.self.now.classes.ok.0) in
    record {
      meanings = ∥∥₁_map c.args.self.now.meanings
          (push_tried c.args.self.now c.args.node c.requires.fits (record { width = c.args.width; head = c.len-class.result }) c.requires.width next
          c.push.new.self.items c.insert.new.self.entries c.canon-canon.result c.len-class.result c.insert.result c.in_ok-push.ensures.items next
          c.canon-canon.ensures c.insert.ensures.updates (λ u. record { lists = u.0 }) c.insert.ensures.err);
    }

pub returns-clause-listed : goal.returns-clause-listed
returns-clause-listed c =
    push_listed c.args.self.now c.args.node c.requires.fits (record { width = c.args.width; head = c.len-class.result }) c.requires.width
    (omega (arith, c.len-class.ensures, c.args.self.now.classes.ok.0)) c.push.new.self.items c.insert.new.self.entries c.canon-canon.result c.len-class.result c.in_ok-push.ensures.items c.canon-canon.ensures
    c.in_ok-insert.ensures.updates.1

pub returns-clause-grows : goal.returns-clause-grows
returns-clause-grows c =
    node_grows _ _ (record { width = c.args.width; head = c.len-class.result }) refl c.in_ok-push.ensures.items c.canon-canon.result c.len-class.result
    (ap (listed_in c.args.self.now) c.canon-canon.ensures ∙ c.requires.unlisted) (record { lists = c.in_ok-insert.ensures.updates.0 })
