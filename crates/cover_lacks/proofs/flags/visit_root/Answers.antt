use Rattle.std.proofs.Common.{◌≡◌, Some, false, arith, ap, ◌∙◌, length, refl, subst}
use Rattle.std.specs.Prelude.{◌==◌, slice_get}
use Rattle.std.proofs.lemmas.List.{length-replicate}
use Rattle.std.proofs.lemmas.Option.{slice_get_within}
use Rattle.form_model.specs.Trees.{model_of_tree}
use Rattle.tree_grammar.specs.Leaves.{model_of_destination}
use Rattle.cover_lacks.specs.Lacks.{RootAsks}
use Rattle.cover_lacks.specs.Inner.Asked.{search_nodes, search_stock}
use Rattle.cover_lacks.specs.Inner.Flags.{Marked}
use Rattle.cover_lacks.proofs.AskLemmas.{root_bound}
use Rattle.cover_lacks.proofs.FlagLemmas.{has_all, none_of, root_goes, root_lacks, some_of}
use Rattle.cover_lacks.proofs.flags.visit_root.Goals as goal

pub mark-requires : goal.mark-requires
mark-requires c = record {
  within = λ i m got. (let nodes = search_nodes c.args.search.now in
      let numbers = c.in_ok-numbers.numbers.items in
      let got' : slice_get numbers i ≡ Some m = subst (λ l. slice_get l i ≡ Some m) c.deref.ensures.value got in
      let u = c.in_ok-numbers.ensures.each i m got' in
      let w = slice_get_within nodes m u.tree u.here in
      let len = ap length c.requires.clear.none_missed ∙ length-replicate (length nodes) false in
      omega (arith, w, len));
}

pub returns-then-not-is_empty : goal.returns-then-not-is_empty
returns-then-not-is_empty c =
    let search = c.args.search.now in
    let d = model_of_destination search.destination in
    let root = model_of_tree search.tree.now in
    let numbers = c.in_ok-numbers.numbers.items in
    let missed = c.args.flags.now.missed.items in
    let len : c.in_ok-numbers.numbers.len ≡ length numbers = omega (arith, c.in_ok-numbers.numbers.ok.0) in
    let (m, first) = some_of numbers c.is_empty.result (c.is_empty.ensures ∙ ap (λ n. n == 0) len) c.if-not-is_empty.true in
    root_goes (search_stock search) d root missed c.mark.new.flags.items c.args.flags.now.lacking.items numbers (length search.forms.now) m
    (root_bound search.forms.now search.temps search.file d root) c.requires.clear c.in_ok-numbers.ensures first
    (subst (λ l. Marked missed c.mark.new.flags.items l (length l)) c.deref.ensures.value c.mark.ensures)

pub index_mut-requires : goal.index_mut-requires
index_mut-requires c =
    let nodes = search_nodes c.args.search.now in
    let w = slice_get_within nodes c.in_ok-root.root (model_of_tree c.args.search.now.tree.now) c.in_ok-root.ensures in
    let len = ap length c.requires.clear.none_lacking ∙ length-replicate (length nodes) false in
    omega (arith, w, len)

pub returns : goal.returns
returns c =
    let search = c.args.search.now in
    let stock = search_stock search in
    let d = model_of_destination search.destination in
    let root = model_of_tree search.tree.now in
    let numbers = c.in_ok-numbers.numbers.items in
    let len : c.in_ok-numbers.numbers.len ≡ length numbers = omega (arith, c.in_ok-numbers.numbers.ok.0) in
    let all = has_all stock (search_nodes search) (RootAsks stock d root) (length search.forms.now) (root_bound search.forms.now search.temps search.file d root) numbers c.in_ok-numbers.ensures (none_of numbers c.is_empty.result (c.is_empty.ensures ∙ ap (λ n. n == 0) len) c.if-not-is_empty.false) in
    root_lacks stock d root c.args.flags.now.missed.items c.args.flags.now.lacking.items _ c.in_ok-root.root c.requires.clear all c.in_ok-root.ensures refl
