use Rattle.std.proofs.Common.{arith}
use Rattle.std.proofs.lemmas.Grind.{common_steps}
use Rattle.std.proofs.Common.{◌≡◌, ◌<◌, ◌∷◌, length, drop, refl, sym, subst, Some}
use Rattle.std.proofs.lemmas.Option.{slice_get_read}
use Rattle.rec_bits.proofs.Options.{one_Some}
use Rattle.form_model.specs.Trees.{model_of_tree}
use Rattle.least_costs.specs.Least.{IsLeastCut}
use Rattle.least_costs.specs.Searches.{search_stock, open_cuts}
use Rattle.cover.specs.Inner.Choice.{StartsCut}
use Rattle.least_costs.proofs.InputLemmas.{stored_split}
use Rattle.cover.proofs.ChoiceLemmas.{some_none, starts_cut}
use Rattle.cover.proofs.choice.first_cut.Goals as goal

pub unreachable-requires : goal.unreachable-requires
unreachable-requires c =
    let some : 0 < length c.args.cuts.now = c.requires.some in
    let got = slice_get_read _ _ _ _ refl some c.index-cuts-0.is in
    let e = stored_split c.args.cuts.now c.index-cuts-0.result got in
    let (m, is, starts) = starts_cut (search_stock c.args.search.now) (model_of_tree c.index-cuts-0.result.tree.now) (open_cuts (drop 1 c.args.cuts.now)) c.args.n c.in_ok-m.field-0 (subst (λ l. IsLeastCut (search_stock c.args.search.now) l (Some c.args.n)) e c.requires.least) c.in_ok-m.ensures.least in
    some_none is c.in_default.is

pub returns-clause-starts : goal.returns-clause-starts
returns-clause-starts c =
    let some : 0 < length c.args.cuts.now = c.requires.some in
    let got = slice_get_read _ _ _ _ refl some c.index-cuts-0.is in
    let e = stored_split c.args.cuts.now c.index-cuts-0.result got in
    let (m, is, starts) = starts_cut (search_stock c.args.search.now) (model_of_tree c.index-cuts-0.result.tree.now) (open_cuts (drop 1 c.args.cuts.now)) c.args.n c.in_ok-m.field-0 (subst (λ l. IsLeastCut (search_stock c.args.search.now) l (Some c.args.n)) e c.requires.least) c.in_ok-m.ensures.least in
    let same : m ≡ c.in-Some.m = one_Some _ _ _ is c.in-Some.is in
    subst (λ l. StartsCut (search_stock c.args.search.now) l c.args.n c.in-Some.m) (sym e) (subst (λ j. StartsCut (search_stock c.args.search.now) (model_of_tree c.index-cuts-0.result.tree.now ∷ open_cuts (drop 1 c.args.cuts.now)) c.args.n j) same starts)

pub least-requires-clause-number : goal.least-requires-clause-number
least-requires-clause-number c = grind (arith, common_steps)
