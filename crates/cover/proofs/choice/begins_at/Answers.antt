use Rattle.std.proofs.lemmas.Bool.{OnTrue_at, OnFalse_at}
use Rattle.std.proofs.Common.{◌≡◌, Some, refl, sym, ◌∙◌, subst}
use Rattle.std.specs.Prelude.{slice_get}
use Rattle.std.proofs.lemmas.Option.{slice_get_read}
use Rattle.std.proofs.lemmas.Result.{IfOk-weaker}
use Rattle.form_model.specs.Trees.{model_of_tree}
use Rattle.least_costs.specs.declared.matches.FormMatch.{FormMatch}
use Rattle.least_costs.specs.Searches.{search_stock, search_nodes, open_operands, open_cuts, OperandsAt, CutsAt, AreParts}
use Rattle.cover.specs.Inner.Choice.{matches_subgoal, NeverBegins, CostsWithin, BeginsOne, BeginsAt}
use Rattle.cover.proofs.BeginLemmas.{other_goal, other_clobbers, begins_within}
use Rattle.least_costs.proofs.MatchLemmas.{at_place, match_parts}
use Rattle.least_costs.proofs.SlotLemmas.{same_entry, other_entry}
use Rattle.cover.proofs.choice.begins_at.Goals as goal

pub returns-then-ne-clause-begins : goal.returns-then-ne-clause-begins
returns-then-ne-clause-begins c =
    let m : FormMatch = c.index-found.result.now in
    let got : slice_get c.args.matches.now.list.items c.args.i ≡ Some m = slice_get_read _ _ _ _ refl c.requires.place c.index-found.ensures in
    at_place (λ y. NeverBegins (search_stock c.args.search.now) c.args.target.limits (matches_subgoal c.args.matches.now c.args.target.entry) c.args.target.cost y.form) c.args.matches.now.list.items c.args.i m got
    (other_goal c.args.search.now c.args.target.limits (model_of_tree c.args.matches.now.tree.now) c.args.matches.now.whole m (c.requires.matches.each c.args.i m got) c.args.target.entry c.args.target.cost c.requires.slot c.requires.least (other_entry m.goal c.args.target.entry (sym c.ne.ensures ∙ c.if-ne.true)))

pub returns-then-not-keeps_to-clause-begins : goal.returns-then-not-keeps_to-clause-begins
returns-then-not-keeps_to-clause-begins c =
    let m : FormMatch = c.index-found.result.now in
    let got : slice_get c.args.matches.now.list.items c.args.i ≡ Some m = slice_get_read _ _ _ _ refl c.requires.place c.index-found.ensures in
    at_place (λ y. NeverBegins (search_stock c.args.search.now) c.args.target.limits (matches_subgoal c.args.matches.now c.args.target.entry) c.args.target.cost y.form) c.args.matches.now.list.items c.args.i m got
    (other_clobbers c.args.search.now c.args.target.limits (model_of_tree c.args.matches.now.tree.now) c.args.matches.now.whole m (c.requires.matches.each c.args.i m got) c.args.target.entry c.args.target.cost c.requires.slot c.requires.least (OnFalse_at c.if-not-keeps_to.true c.keeps_to.ensures.no))

pub costs_within-requires-clause-at : goal.costs_within-requires-clause-at
costs_within-requires-clause-at c =
    let m : FormMatch = c.index-found.result.now in
    let got : slice_get c.args.matches.now.list.items c.args.i ≡ Some m = slice_get_read _ _ _ _ refl c.requires.place c.index-found.ensures in
    subst (OperandsAt (search_nodes c.args.search.now)) (sym c.deref.ensures.value) (c.requires.matches.each c.args.i m got).operands_at

pub costs_within-requires-clause-cuts_at : goal.costs_within-requires-clause-cuts_at
costs_within-requires-clause-cuts_at c =
    let m : FormMatch = c.index-found.result.now in
    let got : slice_get c.args.matches.now.list.items c.args.i ≡ Some m = slice_get_read _ _ _ _ refl c.requires.place c.index-found.ensures in
    subst (CutsAt (search_nodes c.args.search.now)) (sym c.deref-2.ensures.value) (c.requires.matches.each c.args.i m got).cuts_at

pub costs_within-requires-clause-few : goal.costs_within-requires-clause-few
costs_within-requires-clause-few c =
    let m : FormMatch = c.index-found.result.now in
    let got : slice_get c.args.matches.now.list.items c.args.i ≡ Some m = slice_get_read _ _ _ _ refl c.requires.place c.index-found.ensures in
    subst (λ l. AreParts (search_nodes c.args.search.now) (open_operands l) (open_cuts c.deref-2.result.now)) (sym c.deref.ensures.value)
    (subst (λ l. AreParts (search_nodes c.args.search.now) (open_operands m.operands.items) (open_cuts l)) (sym c.deref-2.ensures.value)
    (match_parts c.args.search.now c.args.target.limits (model_of_tree c.args.matches.now.tree.now) c.args.matches.now.whole m (c.requires.matches.each c.args.i m got) c.requires.matches.few))

pub returns-clause-begins : goal.returns-clause-begins
returns-clause-begins c =
    let m : FormMatch = c.index-found.result.now in
    let got : slice_get c.args.matches.now.list.items c.args.i ≡ Some m = slice_get_read _ _ _ _ refl c.requires.place c.index-found.ensures in
    IfOk-weaker c.costs_within.result (λ o. CostsWithin (search_stock c.args.search.now) c.args.target.limits (open_operands c.deref.result.now) (open_cuts c.deref-2.result.now) c.args.target.cost o) (λ o. BeginsAt (search_stock c.args.search.now) c.args.target.limits c.args.matches.now c.args.target.entry c.args.target.cost c.args.i o)
    (λ o costs. at_place (λ y. BeginsOne (search_stock c.args.search.now) c.args.target.limits (matches_subgoal c.args.matches.now c.args.target.entry) c.args.target.cost y o) c.args.matches.now.list.items c.args.i m got
    (begins_within c.args.search.now c.args.target.limits (model_of_tree c.args.matches.now.tree.now) c.args.matches.now.whole m (c.requires.matches.each c.args.i m got) c.args.target.entry c.args.target.cost c.requires.slot c.requires.least o (same_entry m.goal c.args.target.entry (sym c.ne.ensures ∙ c.if-ne.false)) (OnTrue_at c.if-not-keeps_to.false c.keeps_to.ensures.yes)
    (subst (λ l. CostsWithin (search_stock c.args.search.now) c.args.target.limits (open_operands l) (open_cuts m.cuts.items) c.args.target.cost o) c.deref.ensures.value
    (subst (λ l. CostsWithin (search_stock c.args.search.now) c.args.target.limits (open_operands c.deref.result.now) (open_cuts l) c.args.target.cost o) c.deref-2.ensures.value costs)))) c.costs_within.ensures.costs
