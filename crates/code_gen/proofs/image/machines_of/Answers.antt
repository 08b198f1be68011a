use Rattle.std.proofs.Common.{[], ◌∷◌, length, length-append, subst, sym, take}
use Rattle.std.proofs.lemmas.Slice.Zip.{zip_turn}
use Rattle.code_gen.specs.Inner.Planning.{AreViews}
use Rattle.code_gen.proofs.ByMode.{views_next}
use Rattle.code_gen.proofs.image.machines_of.Goals as goal

pub loop-checked-preserved : goal.loop-checked-preserved
loop-checked-preserved c =
    let bases = c.args.bases.now in
    let rest = c.args.rest.now in
    let turn =
    zip_turn bases rest c.loop-checked.yielded c.into_iter-checked-iterator.result c.loop-checked.checked-iterator c.next.new.self c.next.result (cc) (cc) c.loop-checked.yielded_by
    (c.in-Some.checked, c.in-Some.operations) c.in-Some.is c.next.ensures.steps in
    subst (λ n. AreViews (take n bases) (take n rest) c.push.new.self.items) (sym (length-append c.loop-checked.yielded ((c.in-Some.checked, c.in-Some.operations) ∷ [])))
    (views_next bases rest c.loop-checked.machines.items c.push.new.self.items (length c.loop-checked.yielded) c.in-Some.checked.now c.in-Some.operations.now c.machine_of.result turn.0 turn.1
    (turn.2 c.in-Some.checked.now) (turn.3 c.in-Some.operations.now) c.loop-checked.invariant c.machine_of.ensures c.in_ok-push.ensures.items)
