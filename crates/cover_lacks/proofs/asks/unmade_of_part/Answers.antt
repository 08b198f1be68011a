use Rattle.form_model.specs.Trees.{model_of_tree}
use Rattle.cover_lacks.specs.Lacks.{PartAsks}
use Rattle.cover_lacks.specs.Inner.Asked.{search_nodes, search_stock}
use Rattle.cover_lacks.proofs.AskLemmas.{after_more, first_more}
use Rattle.cover_lacks.proofs.asks.unmade_of_part.Goals as goal

pub loop-k-preserved : goal.loop-k-preserved
loop-k-preserved c =
    let asks = PartAsks (search_stock c.args.search.now) (model_of_tree c.args.part.now) in
    let e = c.in_ok-add_of_part.ensures in
    record {
      unmade = first_more (search_stock c.args.search.now) (search_nodes c.args.search.now) asks c.loop-k.k (asks c.loop-k.k) c.loop-k.numbers.items c.add_of_part.new.numbers.items e.added c.loop-k.invariant.unmade e.is e.are (λ t a. a) (λ t a. a);
      after = after_more c.args.at c.loop-k.numbers.items c.add_of_part.new.numbers.items e.added c.loop-k.invariant.after e.is e.after;
    }
