use Rattle.std.proofs.Common.{slice_index, take, sym, subst, arith}
use Rattle.tree_laws.specs.Classes.{AllStand, tree_at}
use Rattle.tree_laws.specs.Rules.{part_exprs}
use Rattle.tree_laws.proofs.Standing.{part_more}
use Rattle.tree_laws.proofs.classes.Classes.find_parts.Goals as goal

pub loop-part-preserved : goal.loop-part-preserved
loop-part-preserved c =
    let self = c.args.self.now in
    let tree = tree_at self c.args.choice.now.classes.items in
    let number = slice_index c.args.choice.now.numbers.items in
    let exprs = part_exprs tree number (take c.loop-part.part-index c.args.parts.now) in
    part_more self tree number c.args.parts.now c.loop-part.part-index _ c.loop-part.classes.items c.push.new.self.items c.in-Some.class (omega (arith, c.loop-part-test.true))
    c.loop-part.invariant (c.in-Some.ensures exprs (subst (AllStand self exprs) (sym c.deref.ensures.value) c.loop-part.invariant)) c.in_ok-push.ensures.items
