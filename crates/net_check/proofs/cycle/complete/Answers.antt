use Rattle.std.proofs.Common.{◌<◌, ◌≤◌, length, arith}
use Rattle.std.proofs.lemmas.Grind.{common_steps}
use Rattle.net_check.proofs.Closes.{start_completing, pop_inside, one_completed, end_completing}
use Rattle.net_check.proofs.cycle.complete.Goals as goal

pub loop-search-init : goal.loop-search-init
loop-search-init c = start_completing _ _ _ _ c.requires.indexed c.requires.within

pub set-requires : goal.set-requires
set-requires c =
    let more : c.args.index < length c.loop-search.search.met = rw c.len.ensures at c.loop-search-test.true in
    pop_inside c.args.graph.now c.args.index c.args.told c.args.search.now c.loop-search.search c.requires.indexed c.loop-search.invariant _ _ c.in-Some.ensures more

pub loop-search-preserved-in-Some : goal.loop-search-preserved-in-Some
loop-search-preserved-in-Some c =
    let more : c.args.index < length c.loop-search.search.met = rw c.len.ensures at c.loop-search-test.true in
    one_completed c.args.graph.now c.args.index c.args.told c.args.search.now c.loop-search.search c.requires.indexed c.loop-search.invariant _ _ c.in-Some.ensures more _ c.set.ensures

pub returns : goal.returns
returns c =
    let low : length c.loop-search.search.met ≤ c.args.index = rw c.len.ensures at c.loop-search-test.false in
    end_completing c.args.graph.now c.args.index c.args.told c.args.search.now c.loop-search.search c.loop-search.invariant low

pub loop-search-smaller-in-Some : goal.loop-search-smaller-in-Some
loop-search-smaller-in-Some c = grind (arith, common_steps)
