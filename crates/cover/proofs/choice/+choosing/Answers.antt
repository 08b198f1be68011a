use Rattle.std.proofs.Common.{◌≡◌, ◌<◌, ◌-◌, length, arith, rules, refl, sym, ap, ◌∙◌, subst, Some, vec_len}
use Rattle.std.specs.Prelude.{remove, slice_get}
use Rattle.std.proofs.lemmas.Option.{slice_get_read}
use Rattle.std.proofs.lemmas.Result.{IfOk-weaker}
use Rattle.form_model.specs.Trees.{model_of_tree}
use Rattle.form_model.specs.CoverModels.{use_form, operand_then, cut_then, model_of_cover, model_of_cover_operands, model_of_cover_cuts}
use Rattle.form_model.specs.Covers.{Operand}
use Rattle.form_model.specs.declared.covers.Cover.{Cover}
use Rattle.tree_grammar.specs.Leaves.{model_of_home}
use Rattle.least_costs.specs.Subgoals.{operand_subgoal, after}
use Rattle.least_costs.specs.Least.{IsLeast, IsLeastOrder}
use Rattle.least_costs.specs.Searches.{search_stock, search_nodes, open_operand, open_operands, open_cuts, OperandsAt}
use Rattle.least_costs.specs.declared.matches.FormMatch.{FormMatch}
use Rattle.least_costs.specs.declared.matches.Matches.{Matches}
use Rattle.least_costs.specs.Least.{IsLeastCut}
use Rattle.least_costs.specs.Slots.{IsSlot, home_slot}
use Rattle.least_costs.specs.Rows.{row_subgoal}
use Rattle.least_costs.specs.Searches.{CutsAt}
use Rattle.least_costs.specs.Matched.{AreMatches}
use Rattle.cover.specs.Inner.Choice.{matches_subgoal, NeverBegins, BeginsAt, Starts, StartsCut, IsFirst, IsFirstOrder, IsFirstFrom, IsFirstCuts, AreFirstParts}
use Rattle.cover.proofs.BeginLemmas.{never_before, some_match, matches_later}
use Rattle.least_costs.proofs.NodeLemmas.{input_get, inputs_remove}
use Rattle.least_costs.proofs.InputLemmas.{home_ask, home_entry, cut_slot, inputs_at, inputs_without, length_inputs, no_stored, stored_split, stored_first, stored_later, no_inputs, tail_is}
use Rattle.cover.proofs.ChoiceLemmas.{first_by_form, order_exists, first_by_operand, operands_later, empty_first, empty_cuts, first_by_cut}
use Rattle.cover.proofs.choice.+choosing.Goals as goal

pub choose_entry-choose_among-requires : goal.choose_entry-choose_among-requires
choose_entry-choose_among-requires t c =
    let e : c.deref.result.now ≡ c.in_ok-matches.matches.value = c.deref.ensures in
    let et : model_of_tree c.deref.result.now.tree.now ≡ model_of_tree c.args.subtree.tree.now = ap (λ (ms : Matches). model_of_tree ms.tree.now) e ∙ c.in_ok-matches.ensures.tree in
    let ew : c.deref.result.now.whole ≡ c.args.subtree.whole = ap (λ (ms : Matches). ms.whole) e ∙ c.in_ok-matches.ensures.whole in
    let ask = ap (λ u. row_subgoal u c.deref.result.now.whole c.args.target.entry) et ∙ ap (λ w. row_subgoal (model_of_tree c.args.subtree.tree.now) w c.args.target.entry) ew in (
      omega (arith, c.decreases),
      (
        subst (λ w. IsSlot w c.args.target.entry) (sym ew) c.requires.slot,
        (
          subst (λ x. IsLeast (search_stock c.args.search.now) c.args.target.limits x (Some c.args.target.cost)) (sym ask) c.requires.least,
          (subst (AreMatches c.args.search.now) (sym e) c.in_ok-matches.ensures.matches, c.in_ok-matches.ensures.right),
        ),
      ),
    )

pub choose_entry-returns-clause-first : goal.choose_entry-returns-clause-first
choose_entry-returns-clause-first t c =
    let e : c.deref.result.now ≡ c.in_ok-matches.matches.value = c.deref.ensures in
    let et : model_of_tree c.deref.result.now.tree.now ≡ model_of_tree c.args.subtree.tree.now = ap (λ (ms : Matches). model_of_tree ms.tree.now) e ∙ c.in_ok-matches.ensures.tree in
    let ew : c.deref.result.now.whole ≡ c.args.subtree.whole = ap (λ (ms : Matches). ms.whole) e ∙ c.in_ok-matches.ensures.whole in
    let ask = ap (λ u. row_subgoal u c.deref.result.now.whole c.args.target.entry) et ∙ ap (λ w. row_subgoal (model_of_tree c.args.subtree.tree.now) w c.args.target.entry) ew in
    IfOk-weaker c.choose_among.result (λ (x : Cover). IsFirst (search_stock c.args.search.now) c.args.target.limits (matches_subgoal c.deref.result.now c.args.target.entry) (model_of_cover x)) (λ (x : Cover). IsFirst (search_stock c.args.search.now) c.args.target.limits (row_subgoal (model_of_tree c.args.subtree.tree.now) c.args.subtree.whole c.args.target.entry) (model_of_cover x))
    (λ x first. subst (λ a. IsFirst (search_stock c.args.search.now) c.args.target.limits a (model_of_cover x)) ask first) c.choose_among.ensures.first

pub choose_among-returns-in-Some-clause-first : goal.choose_among-returns-in-Some-clause-first
choose_among-returns-in-Some-clause-first t c =
    let m : FormMatch = c.index-found.result.now in
    let lt : c.loop-i.i < length c.args.matches.now.list.items = search rules in
    let got : slice_get c.args.matches.now.list.items c.loop-i.i ≡ Some m = slice_get_read _ _ _ _ refl lt c.index-found.ensures in
    let b : BeginsAt (search_stock c.args.search.now) c.args.target.limits c.args.matches.now c.args.target.entry c.args.target.cost c.loop-i.i (Some c.in-Some.costs) =
    subst (λ o. BeginsAt (search_stock c.args.search.now) c.args.target.limits c.args.matches.now c.args.target.entry c.args.target.cost c.loop-i.i o) c.in-Some.is c.in_ok-costs.ensures.begins in
    let fits = b m got in
    IfOk-weaker c.choose_parts.result (λ (x : Cover). AreFirstParts (search_stock c.args.search.now) c.args.target.limits (open_operands c.deref.result.now) (open_cuts c.deref-in-Some.result.now) m.form x) (λ (x : Cover). IsFirst (search_stock c.args.search.now) c.args.target.limits (matches_subgoal c.args.matches.now c.args.target.entry) (model_of_cover x))
    (λ x first.
    subst (λ k. IsFirst (search_stock c.args.search.now) c.args.target.limits (matches_subgoal c.args.matches.now c.args.target.entry) (use_form k (model_of_cover_operands x.operands) (model_of_cover_cuts x.cuts))) (sym first.0)
    (first_by_form (search_stock c.args.search.now) c.args.target.limits (matches_subgoal c.args.matches.now c.args.target.entry) c.args.target.cost c.requires.least m.form _ _ _ _ _ _
    (never_before c.args.search.now c.args.target.limits (model_of_tree c.args.matches.now.tree.now) c.args.matches.now.whole c.args.target.entry c.args.target.cost c.args.matches.now.list.items c.requires.slot c.requires.matches c.loop-i.i m got c.loop-i.invariant.never)
    fits.0 fits.1
    (subst (λ l. IsFirstOrder (search_stock c.args.search.now) c.args.target.limits (open_operands l) (model_of_cover_operands x.operands)) c.deref.ensures.value first.1)
    (subst (λ l. IsFirstCuts (search_stock c.args.search.now) (open_cuts l) (model_of_cover_cuts x.cuts)) c.deref-in-Some.ensures.value first.2))) c.choose_parts.ensures.first

pub choose_among-loop-i-preserved : goal.choose_among-loop-i-preserved
choose_among-loop-i-preserved t c = record {
  never = matches_later (NeverBegins (search_stock c.args.search.now) c.args.target.limits (matches_subgoal c.args.matches.now c.args.target.entry) c.args.target.cost) c.args.matches.now.list.items c.loop-i.i c.loop-i.invariant.never
      (subst (λ o. BeginsAt (search_stock c.args.search.now) c.args.target.limits c.args.matches.now c.args.target.entry c.args.target.cost c.loop-i.i o) c.in_default.is c.in_ok-costs.ensures.begins);
  right = c.in_ok-costs.ensures.right;
}

pub choose_among-unreachable-requires : goal.choose_among-unreachable-requires
choose_among-unreachable-requires t c =
    let v : vec_len c.args.matches.now.list ≡ length c.args.matches.now.list.items = search rules in
    some_match c.args.search.now c.args.target.limits (model_of_tree c.args.matches.now.tree.now) c.args.matches.now.whole c.args.target.entry c.args.target.cost c.args.matches.now.list.items c.requires.slot c.requires.matches c.requires.least
    (λ l g lt. c.loop-i.invariant.never l g (omega (arith, lt, v, c.loop-i-test.false)))

pub choose_among-choose_parts-requires : goal.choose_among-choose_parts-requires
choose_among-choose_parts-requires t c =
    let m : FormMatch = c.index-found.result.now in
    let lt : c.loop-i.i < length c.args.matches.now.list.items = search rules in
    let got : slice_get c.args.matches.now.list.items c.loop-i.i ≡ Some m = slice_get_read _ _ _ _ refl lt c.index-found.ensures in
    let b : BeginsAt (search_stock c.args.search.now) c.args.target.limits c.args.matches.now c.args.target.entry c.args.target.cost c.loop-i.i (Some c.in-Some.costs) =
    subst (λ o. BeginsAt (search_stock c.args.search.now) c.args.target.limits c.args.matches.now c.args.target.entry c.args.target.cost c.loop-i.i o) c.in-Some.is c.in_ok-costs.ensures.begins in
    let fits = b m got in (
      (let sum = fits.1 in omega (arith, sum, c.decreases)),
      (
        subst (λ l. IsLeastOrder (search_stock c.args.search.now) c.args.target.limits (open_operands l) (Some c.in-Some.costs.operands)) (sym c.deref.ensures.value) fits.0.order,
        (
          subst (λ l. IsLeastCut (search_stock c.args.search.now) (open_cuts l) (Some c.in-Some.costs.cuts)) (sym c.deref-in-Some.ensures.value) fits.0.cut,
          (
            subst (OperandsAt (search_nodes c.args.search.now)) (sym c.deref.ensures.value) (c.requires.matches.each c.loop-i.i m got).operands_at,
            (subst (CutsAt (search_nodes c.args.search.now)) (sym c.deref-in-Some.ensures.value) (c.requires.matches.each c.loop-i.i m got).cuts_at, c.in_ok-costs.ensures.right),
          ),
        ),
      ),
    )

pub choose_parts-choose_order-requires : goal.choose_parts-choose_order-requires
choose_parts-choose_order-requires t c = (omega (arith, c.decreases), (c.requires.order, (c.requires.at, c.requires.right)))

pub choose_parts-choose_cuts-requires : goal.choose_parts-choose_cuts-requires
choose_parts-choose_cuts-requires t c = (omega (arith, c.decreases), (c.requires.cut, (c.requires.cuts_at, c.in_ok-operands.ensures.right)))

pub choose_parts-returns-clause-first : goal.choose_parts-returns-clause-first
choose_parts-returns-clause-first t c = (refl, c.in_ok-operands.ensures.first, c.in_ok-cuts.ensures.first)

pub choose_cuts-returns-then-is_empty-clause-first : goal.choose_cuts-returns-then-is_empty-clause-first
choose_cuts-returns-then-is_empty-clause-first t c = empty_cuts _ _ (let n : length c.args.cuts.now ≡ 0 = search rules in no_stored c.args.cuts.now n)

pub choose_cuts-choose_entry-requires : goal.choose_cuts-choose_entry-requires
choose_cuts-choose_entry-requires t c =
    let some : 0 < length c.args.cuts.now = search rules in
    let got = slice_get_read _ _ _ _ refl some c.index-cuts-0.is in
    let e = stored_split c.args.cuts.now c.index-cuts-0.result got in
    let s = subst (λ l. StartsCut (search_stock c.args.search.now) l c.args.n c.in_ok-m.m) e c.in_ok-m.ensures.starts in
    (omega (arith, s.1, c.decreases), (cut_slot, (s.2, (stored_first _ c.args.cuts.now _ c.requires.at got, c.in_ok-m.ensures.right))))

pub choose_order-returns-in-Some-clause-first : goal.choose_order-returns-in-Some-clause-first
choose_order-returns-in-Some-clause-first t c =
    let s : Starts (search_stock c.args.search.now) c.args.limits (open_operands c.args.ops.now) c.args.n c.loop-i.i (Some c.in-Some.m) =
    subst (λ o. Starts (search_stock c.args.search.now) c.args.limits (open_operands c.args.ops.now) c.args.n c.loop-i.i o) c.in-Some.is c.in_ok-m.ensures.starts in
    IfOk-weaker c.order_from.result (λ x. IsFirstFrom (search_stock c.args.search.now) c.args.limits (open_operands c.args.ops.now) c.loop-i.i (model_of_cover_operands x)) (λ x. IsFirstOrder (search_stock c.args.search.now) c.args.limits (open_operands c.args.ops.now) (model_of_cover_operands x))
    (λ x first.
    let same : s.0 ≡ first.0 = (let g = s.1 in let h = first.3 in cc) in
    let la : IsLeast (search_stock c.args.search.now) c.args.limits (operand_subgoal first.0) (Some c.in-Some.m) = subst (λ y. IsLeast (search_stock c.args.search.now) c.args.limits (operand_subgoal y) (Some c.in-Some.m)) same s.4 in
    let lb : IsLeastOrder (search_stock c.args.search.now) (after c.args.limits first.0.home) (remove (open_operands c.args.ops.now) c.loop-i.i) (Some (c.args.n - c.in-Some.m)) =
    subst (λ (y : Operand). IsLeastOrder (search_stock c.args.search.now) (after c.args.limits y.home) (remove (open_operands c.args.ops.now) c.loop-i.i) (Some (c.args.n - c.in-Some.m))) same s.5 in
    subst (IsFirstOrder (search_stock c.args.search.now) c.args.limits (open_operands c.args.ops.now)) (sym first.6)
    (first_by_operand (search_stock c.args.search.now) c.args.limits (open_operands c.args.ops.now) c.args.n c.requires.least c.loop-i.i c.in-Some.m first.0 first.1 first.2 c.loop-i.invariant.never first.3 s.3 la lb first.4 first.5)) c.order_from.ensures.first

pub choose_order-loop-i-preserved : goal.choose_order-loop-i-preserved
choose_order-loop-i-preserved t c = record {
  never = operands_later (search_stock c.args.search.now) c.args.limits (open_operands c.args.ops.now) c.args.n c.loop-i.i c.loop-i.invariant.never
      (subst (λ o. Starts (search_stock c.args.search.now) c.args.limits (open_operands c.args.ops.now) c.args.n c.loop-i.i o) c.in_default.is c.in_ok-m.ensures.starts);
  right = c.in_ok-m.ensures.right;
}

pub choose_order-unreachable-requires : goal.choose_order-unreachable-requires
choose_order-unreachable-requires t c =
    let some : 0 < length c.args.ops.now = search rules in
    let n = length_inputs c.args.ops.now in
    order_exists (search_stock c.args.search.now) c.args.limits (open_operands c.args.ops.now) c.args.n c.requires.least (omega (arith, some, n))
    (λ j p ps lt. c.loop-i.invariant.never j p ps (omega (arith, lt, n, c.loop-i-test.false)))

pub choose_order-order_from-requires : goal.choose_order-order_from-requires
choose_order-order_from-requires t c =
    let s : Starts (search_stock c.args.search.now) c.args.limits (open_operands c.args.ops.now) c.args.n c.loop-i.i (Some c.in-Some.m) =
    subst (λ o. Starts (search_stock c.args.search.now) c.args.limits (open_operands c.args.ops.now) c.args.n c.loop-i.i o) c.in-Some.is c.in_ok-m.ensures.starts in (omega (arith, c.decreases), (c.loop-i-test.true, (s, (c.requires.at, c.in_ok-m.ensures.right))))

pub order_from-choose_entry-requires : goal.order_from-choose_entry-requires
order_from-choose_entry-requires t c =
    let got = slice_get_read _ _ _ _ refl c.requires.place c.index-ops-i.is in
    let get = inputs_at c.args.ops.now c.args.start.place c.index-ops-i.result got in
    let s = c.requires.starts in
    let same : s.0 ≡ open_operand c.index-ops-i.result = (let g = s.1 in cc) in
    let slot : c.slot_of.result ≡ home_slot (model_of_home c.index-ops-i.result.home) = c.slot_of.ensures.is in
    let ask : row_subgoal (model_of_tree c.index-ops-i.result.tree.now) c.index-ops-i.result.whole c.slot_of.result ≡ operand_subgoal (open_operand c.index-ops-i.result) =
    ap (row_subgoal (model_of_tree c.index-ops-i.result.tree.now) c.index-ops-i.result.whole) slot ∙ home_ask (model_of_tree c.index-ops-i.result.tree.now) c.index-ops-i.result.whole (open_operand c.index-ops-i.result) refl refl in (
      omega (arith, s.3, c.decreases),
      (
        subst (IsSlot c.index-ops-i.result.whole) (sym slot) (home_entry c.index-ops-i.result.whole (model_of_home c.index-ops-i.result.home) c.index-ops-i.result.low),
        (
          subst (λ x. IsLeast (search_stock c.args.search.now) c.args.limits x (Some c.args.start.cost)) (sym ask) (subst (λ x. IsLeast (search_stock c.args.search.now) c.args.limits (operand_subgoal x) (Some c.args.start.cost)) same s.4),
          (input_get _ _ c.args.start.place _ c.requires.at got, c.requires.right),
        ),
      ),
    )

pub order_from-order_without-requires : goal.order_from-order_without-requires
order_from-order_without-requires t c =
    let got = slice_get_read _ _ _ _ refl c.requires.place c.index-ops-i.is in
    let get = inputs_at c.args.ops.now c.args.start.place c.index-ops-i.result got in
    let s = c.requires.starts in
    let same : s.0 ≡ open_operand c.index-ops-i.result = (let g = s.1 in cc) in
    let others : IsLeastOrder (search_stock c.args.search.now) (after c.args.limits (model_of_home c.index-ops-i.result.home)) (remove (open_operands c.args.ops.now) c.args.start.place) (Some (c.args.n - c.args.start.cost)) =
    subst (λ (x : Operand). IsLeastOrder (search_stock c.args.search.now) (after c.args.limits x.home) (remove (open_operands c.args.ops.now) c.args.start.place) (Some (c.args.n - c.args.start.cost))) same s.5 in (
      omega (arith, s.2, s.3, c.decreases),
      (
        c.requires.place,
        (
          subst (λ r. IsLeastOrder (search_stock c.args.search.now) r (remove (open_operands c.args.ops.now) c.args.start.place) (Some (c.args.n - c.args.start.cost))) (sym c.after_home-later.ensures) others,
          (c.requires.at, c.in_ok-here.ensures.right),
        ),
      ),
    )

pub order_from-returns-clause-first : goal.order_from-returns-clause-first
order_from-returns-clause-first t c =
    let got = slice_get_read _ _ _ _ refl c.requires.place c.index-ops-i.is in
    let get = inputs_at c.args.ops.now c.args.start.place c.index-ops-i.result got in
    let slot : c.slot_of.result ≡ home_slot (model_of_home c.index-ops-i.result.home) = c.slot_of.ensures.is in
    let ask : row_subgoal (model_of_tree c.index-ops-i.result.tree.now) c.index-ops-i.result.whole c.slot_of.result ≡ operand_subgoal (open_operand c.index-ops-i.result) =
    ap (row_subgoal (model_of_tree c.index-ops-i.result.tree.now) c.index-ops-i.result.whole) slot ∙ home_ask (model_of_tree c.index-ops-i.result.tree.now) c.index-ops-i.result.whole (open_operand c.index-ops-i.result) refl refl in
    let here = subst (λ x. IsFirst (search_stock c.args.search.now) c.args.limits x (model_of_cover c.in_ok-here.here)) ask c.in_ok-here.ensures.first in
    let others : IsFirstOrder (search_stock c.args.search.now) (after c.args.limits (model_of_home c.index-ops-i.result.home)) (remove (open_operands c.args.ops.now) c.args.start.place) (model_of_cover_operands c.in_ok-others.others) =
    subst (λ r. IsFirstOrder (search_stock c.args.search.now) r (remove (open_operands c.args.ops.now) c.args.start.place) (model_of_cover_operands c.in_ok-others.others)) c.after_home-later.ensures c.in_ok-others.ensures.first in
    IfOk-weaker c.operand_first.result (λ x. model_of_cover_operands x ≡ operand_then c.args.start.place (model_of_cover c.in_ok-here.here) (model_of_cover_operands c.in_ok-others.others)) (λ x. IsFirstFrom (search_stock c.args.search.now) c.args.limits (open_operands c.args.ops.now) c.args.start.place (model_of_cover_operands x))
    (λ x is. (open_operand c.index-ops-i.result, model_of_cover c.in_ok-here.here, model_of_cover_operands c.in_ok-others.others, get, here, others, is)) c.operand_first.ensures

pub order_without-choose_order-requires : goal.order_without-choose_order-requires
order_without-choose_order-requires t c =
    let d : c.deref.result.now ≡ remove c.args.ops.now c.args.i = c.deref.ensures.value ∙ c.in_ok-rest.ensures in
    let e : open_operands c.deref.result.now ≡ remove (open_operands c.args.ops.now) c.args.i = ap open_operands d ∙ inputs_without c.args.ops.now c.args.i in (
      omega (arith, c.decreases),
      (
        subst (λ xs. IsLeastOrder (search_stock c.args.search.now) c.args.limits xs (Some c.args.n)) (sym e) c.requires.least,
        (subst (OperandsAt (search_nodes c.args.search.now)) (sym d) (inputs_remove (search_nodes c.args.search.now) c.args.ops.now c.args.i c.requires.at), c.requires.right),
      ),
    )

pub order_without-returns-clause-first : goal.order_without-returns-clause-first
order_without-returns-clause-first t c =
    let d : c.deref.result.now ≡ remove c.args.ops.now c.args.i = c.deref.ensures.value ∙ c.in_ok-rest.ensures in
    let e : open_operands c.deref.result.now ≡ remove (open_operands c.args.ops.now) c.args.i = ap open_operands d ∙ inputs_without c.args.ops.now c.args.i in
    IfOk-weaker c.choose_order.result (λ x. IsFirstOrder (search_stock c.args.search.now) c.args.limits (open_operands c.deref.result.now) (model_of_cover_operands x)) (λ x. IsFirstOrder (search_stock c.args.search.now) c.args.limits (remove (open_operands c.args.ops.now) c.args.i) (model_of_cover_operands x))
    (λ x first. subst (λ xs. IsFirstOrder (search_stock c.args.search.now) c.args.limits xs (model_of_cover_operands x)) e first) c.choose_order.ensures.first

pub choose_order-returns-then-is_empty-clause-first : goal.choose_order-returns-then-is_empty-clause-first
choose_order-returns-then-is_empty-clause-first t c = empty_first _ _ _ (let n : length c.args.ops.now ≡ 0 = search rules in no_inputs c.args.ops.now n)

pub choose_cuts-choose_cuts-requires : goal.choose_cuts-choose_cuts-requires
choose_cuts-choose_cuts-requires t c =
    let some : 0 < length c.args.cuts.now = search rules in
    let got = slice_get_read _ _ _ _ refl some c.index-cuts-0.is in
    let e = stored_split c.args.cuts.now c.index-cuts-0.result got in
    let s = subst (λ l. StartsCut (search_stock c.args.search.now) l c.args.n c.in_ok-m.m) e c.in_ok-m.ensures.starts in (
      omega (arith, s.0, s.1, c.decreases),
      (
        subst (λ l. IsLeastCut (search_stock c.args.search.now) (open_cuts l) (Some (c.args.n - c.in_ok-m.m))) (sym (tail_is c.args.cuts.now)) s.3,
        (subst (CutsAt (search_nodes c.args.search.now)) (sym (tail_is c.args.cuts.now)) (stored_later (search_nodes c.args.search.now) c.args.cuts.now c.requires.at), c.in_ok-here.ensures.right),
      ),
    )

pub choose_cuts-returns-clause-first : goal.choose_cuts-returns-clause-first
choose_cuts-returns-clause-first t c =
    let some : 0 < length c.args.cuts.now = search rules in
    let got = slice_get_read _ _ _ _ refl some c.index-cuts-0.is in
    let e = stored_split c.args.cuts.now c.index-cuts-0.result got in
    let s = subst (λ l. StartsCut (search_stock c.args.search.now) l c.args.n c.in_ok-m.m) e c.in_ok-m.ensures.starts in
    let later = subst (λ l. IsFirstCuts (search_stock c.args.search.now) (open_cuts l) (model_of_cover_cuts c.in_ok-later.later)) (tail_is c.args.cuts.now) c.in_ok-later.ensures.first in
    IfOk-weaker c.cut_first.result (λ x. model_of_cover_cuts x ≡ cut_then (model_of_cover c.in_ok-here.here) (model_of_cover_cuts c.in_ok-later.later)) (λ x. IsFirstCuts (search_stock c.args.search.now) (open_cuts c.args.cuts.now) (model_of_cover_cuts x))
    (λ x is. subst (IsFirstCuts (search_stock c.args.search.now) (open_cuts c.args.cuts.now)) (sym is)
    (subst (λ l. IsFirstCuts (search_stock c.args.search.now) l (cut_then (model_of_cover c.in_ok-here.here) (model_of_cover_cuts c.in_ok-later.later))) (sym e)
    (first_by_cut (search_stock c.args.search.now) _ _ c.args.n c.in_ok-m.m _ _ s c.in_ok-here.ensures.first later))) c.cut_first.ensures
