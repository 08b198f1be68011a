use Rattle.std.proofs.Common.{◌≡◌, ◌<◌, slice_get, Some, sym, ap, subst, ◌∙◌, arith}
use Rattle.std.proofs.lemmas.Option.{slice_get_within}
use Rattle.bit_bdd.specs.declared.Node.TheVariants.{Ask}
use Rattle.bit_bdd.specs.Diagrams.{Diagrams}
use Rattle.bit_bdd.specs.Shape.{AsksBelow}
use Rattle.bit_bdd.specs.contracts.NodePartialEq.TheImpl.{ghosts as node_eq}
use Rattle.bit_bdd.proofs.Keys.{exact_node, alike_node}
use Rattle.bit_bdd.proofs.Sets.{level-at}
use Rattle.bit_bdd.proofs.Reduced.{CanAdd, insert_reduced, insert_more, made_set}
use Rattle.bit_bdd.proofs.Memo.{right_later}
use Rattle.bit_bdd.proofs.Book.make.Goals as goal

-- what is asked of a new node
can : (c : goal.In_ok-place) → CanAdd c.self.inside.bits c.self.inside.nodes.keys c.args.bit c.args.low c.args.high
can c =
    let z = subst (λ (d : Diagrams). AsksBelow d c.args.low c.args.bit) (sym c.self.view_is) c.requires.low in
    let o = subst (λ (d : Diagrams). AsksBelow d c.args.high c.args.bit) (sym c.self.view_is) c.requires.high in
    record {
      bit_within = subst (λ (d : Diagrams). c.args.bit < d.bits) (sym c.self.view_is) c.requires.bit;
      low_within = z.within;
      high_within = o.within;
      low_lower = z.lower;
      high_lower = o.lower;
      apart = c.if-low-high.false;
    }

-- the node is at the place that was answered
stored : (c : goal.In_ok-place) → slice_get c.insert_full.new.self.keys c.in_ok-place.place ≡ Some (Ask c.args.bit c.args.low c.args.high)
stored c = let k = c.in_ok-place.ensures.stored in k.1 ∙ ap Some (sym (exact_node (Ask c.args.bit c.args.low c.args.high) k.0 k.2))

pub invariant_of-self-2 : goal.invariant_of-self-2
invariant_of-self-2 c =
    let old = c.self.inside.nodes.keys in
    let more = insert_more node_eq.eq old (Ask c.args.bit c.args.low c.args.high) in
    record {
      reduced = rw c.in_ok-place.ensures.keys (insert_reduced c.self.inside.bits c.self.inside.nodes.keys c.self.invariant.reduced c.args.bit c.args.low c.args.high (can c) node_eq.eq alike_node);
      right = rw (c.in_ok-place.ensures.keys, more.1) (right_later old more.0 c.self.inside.done.items c.self.invariant.right);
    }

pub returns-clause-set : goal.returns-clause-set
returns-clause-set c =
    let old = c.self.inside.nodes.keys in
    let more = insert_more node_eq.eq old (Ask c.args.bit c.args.low c.args.high) in
    rw (← c.self.view_is)
    (made_set c.self.inside.bits old c.insert_full.new.self.keys (invariant_of-self-2 c).reduced (more.0, c.in_ok-place.ensures.keys ∙ more.1) c.in_ok-place.place c.args.bit c.args.low c.args.high
    (stored c) (can c).low_within (can c).high_within)

pub returns-clause-lower : goal.returns-clause-lower
returns-clause-lower c =
    let same = level-at c.insert_full.new.self.keys c.in_ok-place.place (Ask c.args.bit c.args.low c.args.high) (stored c) in
    record { within = slice_get_within c.insert_full.new.self.keys c.in_ok-place.place _ (stored c); lower = omega (arith, same) }
