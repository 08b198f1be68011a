use Rattle.std.proofs.Common.{◌≡◌, ◌<◌, Some, arith, ap, ◌∙◌, length, get_or, refl, subst}
use Rattle.std.specs.Prelude.{◌==◌, slice_get}
use Rattle.std.proofs.lemmas.Option.{slice_get_within}
use Rattle.form_model.specs.Trees.{model_of_tree}
use Rattle.tree_grammar.specs.Leaves.{model_of_destination}
use Rattle.cover_lacks.specs.Lacks.{PartAsks}
use Rattle.cover_lacks.specs.Inner.Asked.{search_nodes, search_stock}
use Rattle.cover_lacks.specs.Inner.Flags.{IsSet, Marked}
use Rattle.cover_lacks.proofs.AskLemmas.{node_at, part_bound}
use Rattle.cover_lacks.proofs.FlagLemmas.{has_all, none_of, part_goes, part_lacks, set_read, some_of}
use Rattle.cover_lacks.proofs.flags.visit_part.Goals as goal

pub mark-requires : goal.mark-requires
mark-requires c = record {
  within = λ i m got. (let numbers = c.in_ok-numbers.numbers.items in
      let got' : slice_get numbers i ≡ Some m = subst (λ l. slice_get l i ≡ Some m) c.deref.ensures.value got in
      let u = c.in_ok-numbers.ensures.unmade.each i m got' in
      let w = slice_get_within (search_nodes c.args.search.now) m u.tree u.here in
      let len = c.requires.visited.missed_len in
      omega (arith, w, len));
}

pub returns-then-not-is_empty : goal.returns-then-not-is_empty
returns-then-not-is_empty c =
    let search = c.args.search.now in
    let tree = get_or search.nodes.now c.args.at c.index-search-at.result in
    let part = model_of_tree tree.now in
    let numbers = c.in_ok-numbers.numbers.items in
    let missed = c.args.flags.now.missed.items in
    let here : slice_get (search_nodes search) c.args.at ≡ Some part = node_at search c.requires.right c.args.at c.index-search-at.result c.requires.at in
    let lt : c.args.at < length missed = (let len = c.requires.visited.missed_len in omega (arith, len, c.requires.at)) in
    let on : IsSet missed c.args.at = set_read missed c.args.at c.index.result.now lt c.index.ensures c.if-not-index.false in
    let len : c.in_ok-numbers.numbers.len ≡ length numbers = omega (arith, c.in_ok-numbers.numbers.ok.0) in
    let (m, first) = some_of numbers c.is_empty.result (c.is_empty.ensures ∙ ap (λ n. n == 0) len) c.if-not-is_empty.true in
    part_goes (search_stock search) (model_of_destination search.destination) (model_of_tree search.tree.now) c.args.at part missed c.args.flags.now.lacking.items c.requires.visited here on c.mark.new.flags.items numbers (length search.forms.now) m
    (part_bound search.forms.now search.temps search.file part) c.in_ok-numbers.ensures.unmade c.in_ok-numbers.ensures.after first
    (subst (λ l. Marked missed c.mark.new.flags.items l (length l)) c.deref.ensures.value c.mark.ensures)

pub returns : goal.returns
returns c =
    let search = c.args.search.now in
    let tree = get_or search.nodes.now c.args.at c.index-search-at.result in
    let part = model_of_tree tree.now in
    let numbers = c.in_ok-numbers.numbers.items in
    let missed = c.args.flags.now.missed.items in
    let here : slice_get (search_nodes search) c.args.at ≡ Some part = node_at search c.requires.right c.args.at c.index-search-at.result c.requires.at in
    let lt : c.args.at < length missed = (let len = c.requires.visited.missed_len in omega (arith, len, c.requires.at)) in
    let on : IsSet missed c.args.at = set_read missed c.args.at c.index.result.now lt c.index.ensures c.if-not-index.false in
    let len : c.in_ok-numbers.numbers.len ≡ length numbers = omega (arith, c.in_ok-numbers.numbers.ok.0) in
    let all = has_all (search_stock search) (search_nodes search) (PartAsks (search_stock search) part) (length search.forms.now) (part_bound search.forms.now search.temps search.file part) numbers c.in_ok-numbers.ensures.unmade (none_of numbers c.is_empty.result (c.is_empty.ensures ∙ ap (λ n. n == 0) len) c.if-not-is_empty.false) in
    part_lacks (search_stock search) (model_of_destination search.destination) (model_of_tree search.tree.now) c.args.at part missed c.args.flags.now.lacking.items c.requires.visited here on _ all refl
