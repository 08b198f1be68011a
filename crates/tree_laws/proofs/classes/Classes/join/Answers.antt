use Rattle.std.proofs.Common.{refl, subst}
use Rattle.std.proofs.Math.Logic.{∥∥₁_map}
use Rattle.tree_laws.specs.Classes.{head_in}
use Rattle.tree_laws.specs.Meanings.{Redirected}
use Rattle.tree_laws.proofs.Meanings.{join_keeps}
use Rattle.tree_laws.proofs.classes.Classes.join.Goals as goal

pub invariant_of-self : goal.invariant_of-self
invariant_of-self c =
    let self = c.args.self.now in
    let old = c.args.self.now.classes.items in
    let new = c.redirect.new.classes.items in
    record {
      meanings = ∥∥₁_map c.args.self.now.meanings
          (join_keeps c.args.self.now c.redirect.new.classes.items c.args.a c.args.b
          (subst (λ h. Redirected h (head_in self c.args.a) old new) c.head-from.ensures (subst (λ h. Redirected c.head-from.result h old new) c.head-to.ensures c.redirect.ensures))
          c.requires);
    }

pub returns-clause-joined : goal.returns-clause-joined
returns-clause-joined c =
    let self = c.args.self.now in
    let old = c.args.self.now.classes.items in
    let new = c.redirect.new.classes.items in
    record {
      bits = refl;
      nodes = refl;
      heads = subst (λ h. Redirected h (head_in self c.args.a) old new) c.head-from.ensures (subst (λ h. Redirected c.head-from.result h old new) c.head-to.ensures c.redirect.ensures);
    }
