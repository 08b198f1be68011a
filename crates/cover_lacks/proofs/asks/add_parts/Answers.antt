use Rattle.std.proofs.Common.{◌≡◌, Some, length, refl}
use Rattle.std.specs.Prelude.{slice_get}
use Rattle.std.proofs.lemmas.Option.{slice_get_read}
use Rattle.cover_lacks.specs.Inner.Asked.{search_nodes, search_stock}
use Rattle.cover_lacks.proofs.AskLemmas.{at_part, here_part, parts_more}
use Rattle.cover_lacks.proofs.asks.add_parts.Goals as goal

pub add_part-requires-clause-here : goal.add_part-requires-clause-here
add_part-requires-clause-here c =
    let nodes = search_nodes c.args.search.now in
    let parts = c.args.parts.now in
    let part = c.part-item.result in
    let got : slice_get parts c.loop-part.part-index ≡ Some part = slice_get_read parts (length parts) c.loop-part.part-index part refl c.loop-part-test.true c.part-item.is in
    here_part nodes part (at_part nodes parts c.loop-part.part-index part c.requires.at got)

pub loop-part-preserved : goal.loop-part-preserved
loop-part-preserved c =
    let parts = c.args.parts.now in
    let got : slice_get parts c.loop-part.part-index ≡ Some c.part-item.result = slice_get_read parts (length parts) c.loop-part.part-index c.part-item.result refl c.loop-part-test.true c.part-item.is in
    parts_more (search_stock c.args.search.now) c.args.below parts c.loop-part.part-index c.args.numbers.now.items c.loop-part.numbers.items c.add_part.new.numbers.items c.part-item.result c.loop-part.invariant got c.in_ok-add_part.ensures
