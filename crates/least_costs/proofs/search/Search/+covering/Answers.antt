use Rattle.std.proofs.Common.{◌≡◌, ◌<◌, ◌-◌, ◌*◌, ◌^◌, length, drop, arith, rules, refl, sym, ap, ◌∙◌, subst, inl, inr, Option, Some, None, Vec, vec_len, ℕ, get_or}
use Rattle.std.specs.Prelude.{slice_get, remove}
use Rattle.std.proofs.lemmas.Bool.{OnTrue_at, OnFalse_at}
use Rattle.std.proofs.lemmas.Option.{slice_get_read}
use Rattle.std.proofs.lemmas.Result.{IfOk-weaker}
use Rattle.std.specs.declared.alloc.Global.{Global}
use Rattle.rec_bits.proofs.Lists.{there}
use Rattle.form_model.specs.Trees.{model_of_tree}
use Rattle.form_model.specs.Covers.{Operand}
use Rattle.form_model.specs.CoverModels.{operands_cost}
use Rattle.tree_grammar.specs.Leaves.{model_of_home}
use Rattle.least_costs.specs.Subgoals.{operand_subgoal, operands_size, exprs_size, after}
use Rattle.least_costs.specs.Least.{IsLeast, IsLeastOrder, IsLeastAfter, IsLeastFrom, IsLeastCut, IsFloor, IsCostBelow, AtMost, NoMore, summed}
use Rattle.least_costs.specs.Searches.{search_stock, search_nodes, open_operand, open_operands, open_cuts, OperandsAt, CutsAt, AreParts}
use Rattle.least_costs.proofs.SizeLemmas.{size_pos}
use Rattle.least_costs.proofs.NodeLemmas.{input_get, inputs_remove}
use Rattle.least_costs.proofs.InputLemmas.{inputs_at, inputs_without, length_inputs, no_inputs, inputs_split, inputs_later, lone_input, size-remove, no_stored, stored_split, stored_first, stored_later, tail_is, home_entry, cut_slot, home_least, rank_le, rank_free}
use Rattle.least_costs.specs.declared.rows.Offer.TheVariants.{Nothing, Chains}
use Rattle.least_costs.specs.declared.matches.Matches.{Matches}
use Rattle.least_costs.specs.Rows.{row_subgoal, IsTried, IsClosed, IsLeastRow, IsOffer}
use Rattle.least_costs.specs.Slots.{place, IsSlot}
use Rattle.least_costs.specs.Matched.{AreMatches}
use Rattle.least_costs.proofs.OfferLemmas.{blank_row, look_within, tried_none, tried_more, least_row_of}
use Rattle.least_costs.proofs.MatchLemmas.{at_place, matches_all, match_parts, match_sizes, offer_clobbers, offer_start, offer_below, offer_cheap}
use Rattle.net_model.specs.Exprs.{size_of}
use Rattle.least_costs.proofs.LeastLemmas.{order_one, other_left, cut_none, cut_more, order_more, order_all, order_none, from_parts, from_none, from_last}
use Rattle.least_costs.specs.declared.matches.FormMatch.{FormMatch}
use Rattle.least_costs.proofs.SlotLemmas.{slot_within}
use Rattle.least_costs.proofs.FloorLemmas.{floor_none, floor_more}
use Rattle.least_costs.proofs.RowLemmas.{low_room}
use Rattle.least_costs.proofs.FewLemmas.{opened_low, order_few, parts_held, size_held, size_room, floor_few, from_few, stored_few, blank_low, noted_low}
use Rattle.least_costs.proofs.TableLemmas.{same_default}
use Rattle.least_costs.proofs.search.Search.+covering.Goals as goal

pub operand_cost-least-requires : goal.operand_cost-least-requires
operand_cost-least-requires t c = (
  omega (arith, c.decreases),
  (subst (IsSlot c.args.operand.whole) (sym c.slot_of-slot.ensures.is) (home_entry c.args.operand.whole (model_of_home c.args.operand.home) c.args.operand.low), (c.requires.number, c.requires.right)),
)

pub operand_cost-returns-clause-least : goal.operand_cost-returns-clause-least
operand_cost-returns-clause-least t c =
    IfOk-weaker c.least.result (λ o. IsLeast (search_stock c.args.self.now) c.args.limits (row_subgoal (model_of_tree c.args.operand.tree.now) c.args.operand.whole c.slot_of-slot.result) o) (λ o. IsLeast (search_stock c.args.self.now) c.args.limits (operand_subgoal (open_operand c.args.operand)) o)
    (λ o is. home_least (search_stock c.args.self.now) c.args.limits (open_operand c.args.operand) o
    (subst (λ s. IsLeast (search_stock c.args.self.now) c.args.limits (row_subgoal (model_of_tree c.args.operand.tree.now) c.args.operand.whole s) o) c.slot_of-slot.ensures.is is)) c.least.ensures.least

pub least_row-row_of-requires : goal.least_row-row_of-requires
least_row-row_of-requires t c =
    let e : c.deref.result.now ≡ c.in_ok-matches.matches.value = c.deref.ensures in
    (omega (arith, ap (λ (ms : Matches). size_of (model_of_tree ms.tree.now)) e, ap size_of c.in_ok-matches.ensures.tree, c.decreases), (subst (AreMatches c.args.self.now) (sym e) c.in_ok-matches.ensures.matches, c.in_ok-matches.ensures.right))

pub least_row-returns-clause-least : goal.least_row-returns-clause-least
least_row-returns-clause-least t c =
    let e : c.deref.result.now ≡ c.in_ok-matches.matches.value = c.deref.ensures in
    IfOk-weaker c.row_of.result (λ (row : Vec (Option ℕ) Global). IsLeastRow (search_stock c.args.self.now) c.args.limits (model_of_tree c.deref.result.now.tree.now) c.deref.result.now.whole row.items) (λ (row : Vec (Option ℕ) Global). IsLeastRow (search_stock c.args.self.now) c.args.limits (model_of_tree c.args.subtree.tree.now) c.args.subtree.whole row.items)
    (λ row least. subst (λ u. IsLeastRow (search_stock c.args.self.now) c.args.limits u c.args.subtree.whole row.items) (ap (λ (ms : Matches). model_of_tree ms.tree.now) e ∙ c.in_ok-matches.ensures.tree)
    (subst (λ w. IsLeastRow (search_stock c.args.self.now) c.args.limits (model_of_tree c.deref.result.now.tree.now) w row.items) (ap (λ (ms : Matches). ms.whole) e ∙ c.in_ok-matches.ensures.whole) least)) c.row_of.ensures.least

pub row_of-fill-requires : goal.row_of-fill-requires
row_of-fill-requires t c = (omega (arith, c.decreases), (c.requires.matches, (c.requires.right, (search rules, search (rules, blank_row)))))

pub fill-note-requires : goal.fill-note-requires
fill-note-requires t c =
    let lt : c.loop-i.i < length c.args.matches.now.list.items = search rules in
    let (m, got) = there c.args.matches.now.list.items c.loop-i.i lt in
    record { len = c.loop-i.invariant.len; within = look_within (search_stock c.args.self.now) c.args.limits (model_of_tree c.args.matches.now.tree.now) c.args.matches.now.whole c.deref.result.now m.form c.in_ok-offer.offer (c.in_ok-offer.ensures.offer m got) }

pub fill-loop-i-preserved : goal.fill-loop-i-preserved
fill-loop-i-preserved t c =
    let lt : c.loop-i.i < length c.args.matches.now.list.items = search rules in
    let (m, got) = there c.args.matches.now.list.items c.loop-i.i lt in
    record {
      len = c.note.ensures.len;
      tried = tried_more (search_stock c.args.self.now) c.args.limits (model_of_tree c.args.matches.now.tree.now) c.args.matches.now.whole c.args.matches.now.list.items c.loop-i.i m got c.in_ok-offer.offer _ _ _ _ c.loop-i.invariant.tried (subst (λ l. IsOffer (search_stock c.args.self.now) c.args.limits (model_of_tree c.args.matches.now.tree.now) c.args.matches.now.whole l m.form c.in_ok-offer.offer) c.deref.ensures.value (c.in_ok-offer.ensures.offer m got)) c.in_ok-note.ensures.noted;
      low = noted_low (model_of_tree c.args.matches.now.tree.now) c.in_ok-offer.offer _ _ _ _ c.loop-i.invariant.low c.in_ok-note.ensures.noted c.in_ok-offer.ensures.cheap;
      right = c.in_ok-offer.ensures.right;
    }

pub fill-returns-clause-least : goal.fill-returns-clause-least
fill-returns-clause-least t c =
    let v : vec_len c.args.matches.now.list ≡ length c.args.matches.now.list.items = search rules in
    let n : c.loop-i.i ≡ length c.args.matches.now.list.items = omega (arith, v, c.loop-i-test.false, c.loop-i.auto.i-end) in
    least_row_of _ _ _ _ c.args.matches.now.list.items (matches_all c.args.self.now (model_of_tree c.args.matches.now.tree.now) c.args.matches.now.whole c.args.matches.now.list.items c.requires.matches) _ _ _
    (subst (λ j. IsTried (search_stock c.args.self.now) c.args.limits (model_of_tree c.args.matches.now.tree.now) c.args.matches.now.whole c.args.matches.now.list.items j c.loop-i.chains.items c.loop-i.row.items) n c.loop-i.invariant.tried)
    (subst (λ ms. IsClosed ms c.loop-i.row.items c.close.new.row.items) c.deref-2.ensures c.close.ensures.closed)

pub fill-close-requires-clause-room : goal.fill-close-requires-clause-room
fill-close-requires-clause-room t c =
    low_room (36 * size_of (model_of_tree c.args.matches.now.tree.now) - 17) (2 ^ 64 - 2) c.loop-i.row.items (let n : length c.loop-i.row.items ≡ 18 = search rules in n) c.loop-i.invariant.low
    (size_room (model_of_tree c.args.matches.now.tree.now) (length (search_nodes c.args.self.now)) c.requires.matches.few c.requires.right.few)

pub fill-loop-i-init : goal.fill-loop-i-init
fill-loop-i-init t c = record {
  len = c.requires.len;
  tried = subst (λ l. IsTried (search_stock c.args.self.now) c.args.limits (model_of_tree c.args.matches.now.tree.now) c.args.matches.now.whole c.args.matches.now.list.items 0 l c.args.row.now.items) (search rules)
      (tried_none (search_stock c.args.self.now) c.args.limits (model_of_tree c.args.matches.now.tree.now) c.args.matches.now.whole c.args.matches.now.list.items c.args.row.now.items c.requires.blank);
  low = blank_low (36 * size_of (model_of_tree c.args.matches.now.tree.now) - 17) c.args.row.now.items c.requires.blank;
  right = c.requires.right;
}

pub offer_at-returns-then-not-keeps_to-clause-offer : goal.offer_at-returns-then-not-keeps_to-clause-offer
offer_at-returns-then-not-keeps_to-clause-offer t c =
    let m : FormMatch = c.index-found.result.now in
    let got : slice_get c.args.matches.now.list.items c.args.i ≡ Some m = slice_get_read _ _ _ _ refl c.requires.place c.index-found.ensures in
    at_place (λ y. IsOffer (search_stock c.args.self.now) c.args.limits (model_of_tree c.args.matches.now.tree.now) c.args.matches.now.whole c.args.row.now y.form Nothing) c.args.matches.now.list.items c.args.i m got
    (offer_clobbers c.args.self.now c.args.limits (model_of_tree c.args.matches.now.tree.now) c.args.matches.now.whole m (c.requires.matches.each c.args.i m got) c.args.row.now (OnFalse_at c.if-not-keeps_to.true c.keeps_to.ensures.no))

pub offer_at-returns-in-Some-clause-offer : goal.offer_at-returns-in-Some-clause-offer
offer_at-returns-in-Some-clause-offer t c =
    let m : FormMatch = c.index-found.result.now in
    let got : slice_get c.args.matches.now.list.items c.args.i ≡ Some m = slice_get_read _ _ _ _ refl c.requires.place c.index-found.ensures in
    at_place (λ y. IsOffer (search_stock c.args.self.now) c.args.limits (model_of_tree c.args.matches.now.tree.now) c.args.matches.now.whole c.args.row.now y.form (Chains (record { start = c.in-Some.start; goal = m.goal }))) c.args.matches.now.list.items c.args.i m got
    (offer_start c.args.self.now c.args.limits (model_of_tree c.args.matches.now.tree.now) c.args.matches.now.whole m (c.requires.matches.each c.args.i m got) c.args.row.now c.start_of.result c.in-Some.start (OnTrue_at c.if-not-keeps_to.false c.keeps_to.ensures.yes) c.start_of.ensures c.in-Some.is)

pub offer_at-returns-clause-offer : goal.offer_at-returns-clause-offer
offer_at-returns-clause-offer t c =
    let m : FormMatch = c.index-found.result.now in
    let got : slice_get c.args.matches.now.list.items c.args.i ≡ Some m = slice_get_read _ _ _ _ refl c.requires.place c.index-found.ensures in
    at_place (λ y. IsOffer (search_stock c.args.self.now) c.args.limits (model_of_tree c.args.matches.now.tree.now) c.args.matches.now.whole c.args.row.now y.form c.offer_of.result) c.args.matches.now.list.items c.args.i m got
    (offer_below c.args.self.now c.args.limits (model_of_tree c.args.matches.now.tree.now) c.args.matches.now.whole m (c.requires.matches.each c.args.i m got) c.args.row.now c.known_cost-known.result c.in_ok-cost.cost c.offer_of.result (OnTrue_at c.if-not-keeps_to.false c.keeps_to.ensures.yes) c.known_cost-known.ensures
    (subst (λ l. IsCostBelow (search_stock c.args.self.now) c.args.limits (open_operands l) (open_cuts m.cuts.items) c.known_cost-known.result c.in_ok-cost.cost) c.deref.ensures.value
    (subst (λ l. IsCostBelow (search_stock c.args.self.now) c.args.limits (open_operands c.deref.result.now) (open_cuts l) c.known_cost-known.result c.in_ok-cost.cost) c.deref-2.ensures.value c.in_ok-cost.ensures.least)) c.offer_of.ensures)

pub offer_at-cost_below-requires : goal.offer_at-cost_below-requires
offer_at-cost_below-requires t c =
    let m : FormMatch = c.index-found.result.now in
    let got : slice_get c.args.matches.now.list.items c.args.i ≡ Some m = slice_get_read _ _ _ _ refl c.requires.place c.index-found.ensures in
    let f = c.requires.matches.each c.args.i m got in
    let z = match_sizes c.args.self.now c.args.limits (model_of_tree c.args.matches.now.tree.now) c.args.matches.now.whole m f c.start_of.result c.start_of.ensures c.in_default.is in (
      omega (arith, z.0, z.1, rank_le c.args.self.now.file c.args.limits, ap (λ l. operands_size (open_operands l)) c.deref.ensures.value, ap (λ l. exprs_size (open_cuts l)) c.deref-2.ensures.value, c.decreases),
      (
        subst (OperandsAt (search_nodes c.args.self.now)) (sym c.deref.ensures.value) f.operands_at,
        (
          subst (CutsAt (search_nodes c.args.self.now)) (sym c.deref-2.ensures.value) f.cuts_at,
          (
            subst (λ l. AreParts (search_nodes c.args.self.now) (open_operands l) (open_cuts c.deref-2.result.now)) (sym c.deref.ensures.value)
                (subst (λ l. AreParts (search_nodes c.args.self.now) (open_operands m.operands.items) (open_cuts l)) (sym c.deref-2.ensures.value)
                (match_parts c.args.self.now c.args.limits (model_of_tree c.args.matches.now.tree.now) c.args.matches.now.whole m f c.requires.matches.few)),
            c.requires.right,
          ),
        ),
      ),
    )

pub offer_at-returns-clause-cheap : goal.offer_at-returns-clause-cheap
offer_at-returns-clause-cheap t c =
    let m : FormMatch = c.index-found.result.now in
    let got : slice_get c.args.matches.now.list.items c.args.i ≡ Some m = slice_get_read _ _ _ _ refl c.requires.place c.index-found.ensures in
    offer_cheap c.args.self.now c.args.limits (model_of_tree c.args.matches.now.tree.now) c.args.matches.now.whole m (c.requires.matches.each c.args.i m got) c.start_of.result c.known_cost-known.result c.in_ok-cost.cost c.offer_of.result c.start_of.ensures c.in_default.is
    (subst (λ l. IsCostBelow (search_stock c.args.self.now) c.args.limits (open_operands l) (open_cuts m.cuts.items) c.known_cost-known.result c.in_ok-cost.cost) c.deref.ensures.value
    (subst (λ l. IsCostBelow (search_stock c.args.self.now) c.args.limits (open_operands c.deref.result.now) (open_cuts l) c.known_cost-known.result c.in_ok-cost.cost) c.deref-2.ensures.value c.in_ok-cost.ensures.least)) c.offer_of.ensures

pub cost_below-cuts_cost-requires : goal.cost_below-cuts_cost-requires
cost_below-cuts_cost-requires t c = (omega (arith, c.decreases), (c.requires.cuts_at, c.requires.right))

pub cost_below-floor_of-requires : goal.cost_below-floor_of-requires
cost_below-floor_of-requires t c = (omega (arith, c.decreases), (c.requires.at, c.in_ok-b.ensures.right))

pub cost_below-orders-requires : goal.cost_below-orders-requires
cost_below-orders-requires t c = (omega (arith, c.decreases), (c.requires.at, (c.in_ok-floor.ensures.floor, c.in_ok-floor.ensures.right)))

pub cost_below-returns-then-is_as_dear-clause-least : goal.cost_below-returns-then-is_as_dear-clause-least
cost_below-returns-then-is_as_dear-clause-least t c = inr (
  refl,
  record {
    operands = c.in_ok-floor.floor;
    cuts = c.in_ok-b.b;
    floor = c.in_ok-floor.ensures.floor;
    cut = c.in_ok-b.ensures.least;
    dear = λ n h. OnTrue_at c.if-is_as_dear.true c.is_as_dear.ensures n (subst (λ o. AtMost o n) (sym c.form_cost-lowest.ensures) h);
  },
)

pub cost_below-returns-clause-least : goal.cost_below-returns-clause-least
cost_below-returns-clause-least t c = inl (record { operands = c.in_ok-a.a; cuts = c.in_ok-b.b; order = c.in_ok-a.ensures.least; cut = c.in_ok-b.ensures.least; sum = c.form_cost.ensures })

pub cost_below-form_cost-lowest-requires : goal.cost_below-form_cost-lowest-requires
cost_below-form_cost-lowest-requires t c =
    parts_held c.args.self.now (open_operands c.args.operands.now) (open_cuts c.args.cuts.now) c.in_ok-floor.floor c.in_ok-b.b c.requires.right.few c.requires.few c.in_ok-floor.ensures.few c.in_ok-b.ensures.least

pub cost_below-form_cost-requires : goal.cost_below-form_cost-requires
cost_below-form_cost-requires t c =
    parts_held c.args.self.now (open_operands c.args.operands.now) (open_cuts c.args.cuts.now) c.in_ok-a.a c.in_ok-b.b c.requires.right.few c.requires.few
    (order_few (search_stock c.args.self.now) c.args.self.now.low c.args.limits (open_operands c.args.operands.now) c.in_ok-a.a (opened_low c.args.operands.now) c.in_ok-a.ensures.least) c.in_ok-b.ensures.least

pub cost_below-returns-then-operands-lt2-clause-least : goal.cost_below-returns-then-operands-lt2-clause-least
cost_below-returns-then-operands-lt2-clause-least t c =
    let few : length c.args.operands.now < 2 = search rules in
    inl (record { operands = c.in_ok-floor.floor; cuts = c.in_ok-b.b; order = c.in_ok-floor.ensures.lone few; cut = c.in_ok-b.ensures.least; sum = c.form_cost-lowest.ensures })

pub floor_of-returns-then-is_empty-clause-floor : goal.floor_of-returns-then-is_empty-clause-floor
floor_of-returns-then-is_empty-clause-floor t c = floor_none (search_stock c.args.self.now) c.args.limits (open_operands c.args.ops.now)

pub floor_of-returns-then-is_empty-clause-lone : goal.floor_of-returns-then-is_empty-clause-lone
floor_of-returns-then-is_empty-clause-lone t c = λ few. order_none _ _ _ (let n : length c.args.ops.now ≡ 0 = search rules in no_inputs c.args.ops.now n)

pub floor_of-operand_cost-requires : goal.floor_of-operand_cost-requires
floor_of-operand_cost-requires t c =
    let some : 0 < length c.args.ops.now = search rules in
    let got = slice_get_read _ _ _ _ refl some c.index-ops-0.is in
    let e = inputs_split c.args.ops.now c.index-ops-0.result got in
    (omega (arith, ap operands_size e, c.decreases, rank_le c.args.self.now.file c.args.limits), (input_get _ _ 0 _ c.requires.at got, c.requires.right))

pub floor_of-returns-in_default-clause-floor : goal.floor_of-returns-in_default-clause-floor
floor_of-returns-in_default-clause-floor t c =
    let some : 0 < length c.args.ops.now = search rules in
    let got = slice_get_read _ _ _ _ refl some c.index-ops-0.is in
    let e = inputs_split c.args.ops.now c.index-ops-0.result got in
    let first = (subst (λ o. IsLeast (search_stock c.args.self.now) c.args.limits (operand_subgoal (open_operand c.index-ops-0.result)) o) c.in_default.is c.in_ok-m.ensures.least) in
    let none = floor_more (search_stock c.args.self.now) c.args.limits (open_operand c.index-ops-0.result) (open_operands (drop 1 c.args.ops.now)) None (Some 0) first (floor_none (search_stock c.args.self.now) c.args.limits (open_operands (drop 1 c.args.ops.now))) in
    subst (λ xs. IsFloor (search_stock c.args.self.now) c.args.limits xs None) (sym e) none

pub floor_of-returns-in_default-clause-lone : goal.floor_of-returns-in_default-clause-lone
floor_of-returns-in_default-clause-lone t c = λ few.
    let some : 0 < length c.args.ops.now = search rules in
    let got = slice_get_read _ _ _ _ refl some c.index-ops-0.is in
    let first = (subst (λ o. IsLeast (search_stock c.args.self.now) c.args.limits (operand_subgoal (open_operand c.index-ops-0.result)) o) c.in_default.is c.in_ok-m.ensures.least) in
    subst (λ xs. IsLeastOrder (search_stock c.args.self.now) c.args.limits xs None) (sym (lone_input c.args.ops.now c.index-ops-0.result got few))
    (order_one (search_stock c.args.self.now) c.args.limits (open_operand c.index-ops-0.result) None first)

pub floor_of-returns-then-ops-eq1-clause-lone : goal.floor_of-returns-then-ops-eq1-clause-lone
floor_of-returns-then-ops-eq1-clause-lone t c = λ few.
    let some : 0 < length c.args.ops.now = search rules in
    let got = slice_get_read _ _ _ _ refl some c.index-ops-0.is in
    let first = (subst (λ o. IsLeast (search_stock c.args.self.now) c.args.limits (operand_subgoal (open_operand c.index-ops-0.result)) o) c.in-Some.is c.in_ok-m.ensures.least) in
    subst (λ xs. IsLeastOrder (search_stock c.args.self.now) c.args.limits xs (Some c.in-Some.m)) (sym (lone_input c.args.ops.now c.index-ops-0.result got few))
    (order_one (search_stock c.args.self.now) c.args.limits (open_operand c.index-ops-0.result) (Some c.in-Some.m) first)

pub floor_of-returns-then-ops-eq1-clause-floor : goal.floor_of-returns-then-ops-eq1-clause-floor
floor_of-returns-then-ops-eq1-clause-floor t c =
    let one : length c.args.ops.now ≡ 1 = search rules in
    (floor_of-returns-then-ops-eq1-clause-lone t c (omega (arith, one))).least

pub floor_of-returns-then-ops-eq1-clause-few : goal.floor_of-returns-then-ops-eq1-clause-few
floor_of-returns-then-ops-eq1-clause-few t c =
    let one : length c.args.ops.now ≡ 1 = search rules in
    order_few (search_stock c.args.self.now) c.args.self.now.low c.args.limits (open_operands c.args.ops.now) (Some c.in-Some.m) (opened_low c.args.ops.now)
    (floor_of-returns-then-ops-eq1-clause-lone t c (omega (arith, one)))

pub floor_of-floor_of-requires : goal.floor_of-floor_of-requires
floor_of-floor_of-requires t c =
    let some : 0 < length c.args.ops.now = search rules in
    let got = slice_get_read _ _ _ _ refl some c.index-ops-0.is in
    let e = inputs_split c.args.ops.now c.index-ops-0.result got in
    (omega (arith, ap operands_size e, ap (λ l. operands_size (open_operands l)) (tail_is c.args.ops.now), size_pos (model_of_tree c.index-ops-0.result.tree.now), c.decreases), (subst (OperandsAt (search_nodes c.args.self.now)) (sym (tail_is c.args.ops.now)) (inputs_later (search_nodes c.args.self.now) c.args.ops.now c.requires.at), c.in_ok-m.ensures.right))

pub floor_of-returns-clause-floor : goal.floor_of-returns-clause-floor
floor_of-returns-clause-floor t c =
    let some : 0 < length c.args.ops.now = search rules in
    let got = slice_get_read _ _ _ _ refl some c.index-ops-0.is in
    let e = inputs_split c.args.ops.now c.index-ops-0.result got in
    let first = (subst (λ o. IsLeast (search_stock c.args.self.now) c.args.limits (operand_subgoal (open_operand c.index-ops-0.result)) o) c.in-Some.is c.in_ok-m.ensures.least) in
    let parts = floor_more (search_stock c.args.self.now) c.args.limits (open_operand c.index-ops-0.result) (open_operands (drop 1 c.args.ops.now)) (Some c.in-Some.m) c.in_ok-n.n first (subst (λ l. IsFloor (search_stock c.args.self.now) c.args.limits (open_operands l) c.in_ok-n.n) (tail_is c.args.ops.now) c.in_ok-n.ensures.floor) in
    subst (λ x. IsFloor (search_stock c.args.self.now) c.args.limits (open_operands c.args.ops.now) x) (sym c.sum_of.ensures) (subst (λ xs. IsFloor (search_stock c.args.self.now) c.args.limits xs (summed (Some c.in-Some.m) c.in_ok-n.n)) (sym e) parts)

pub floor_of-returns-clause-lone : goal.floor_of-returns-clause-lone
floor_of-returns-clause-lone t c = λ few.
    let some : 0 < length c.args.ops.now = search rules in
    absurd (omega (arith, some, few, c.if-ops-eq1.false))

pub floor_of-sum_of-requires : goal.floor_of-sum_of-requires
floor_of-sum_of-requires t c =
    let some : 0 < length c.args.ops.now = search rules in
    let got = slice_get_read _ _ _ _ refl some c.index-ops-0.is in
    let first = (subst (λ o. IsLeast (search_stock c.args.self.now) c.args.limits (operand_subgoal (open_operand c.index-ops-0.result)) o) c.in-Some.is c.in_ok-m.ensures.least) in
    let few = floor_few c.args.self.now c.args.limits c.args.ops.now c.index-ops-0.result (Some c.in-Some.m) c.in_ok-n.n got first (subst (λ l. NoMore c.in_ok-n.n (36 * operands_size (open_operands l))) (tail_is c.args.ops.now) c.in_ok-n.ensures.few) in
    size_held (summed (Some c.in-Some.m) c.in_ok-n.n) _ _ few c.requires.at.1 c.requires.right.few

pub floor_of-returns-clause-few : goal.floor_of-returns-clause-few
floor_of-returns-clause-few t c =
    let some : 0 < length c.args.ops.now = search rules in
    let got = slice_get_read _ _ _ _ refl some c.index-ops-0.is in
    let first = (subst (λ o. IsLeast (search_stock c.args.self.now) c.args.limits (operand_subgoal (open_operand c.index-ops-0.result)) o) c.in-Some.is c.in_ok-m.ensures.least) in
    let few = floor_few c.args.self.now c.args.limits c.args.ops.now c.index-ops-0.result (Some c.in-Some.m) c.in_ok-n.n got first (subst (λ l. NoMore c.in_ok-n.n (36 * operands_size (open_operands l))) (tail_is c.args.ops.now) c.in_ok-n.ensures.few) in
    subst (λ o. NoMore o (36 * operands_size (open_operands c.args.ops.now))) (sym c.sum_of.ensures) few

pub orders-returns-then-is_empty-clause-least : goal.orders-returns-then-is_empty-clause-least
orders-returns-then-is_empty-clause-least t c = order_none _ _ _ (let n : length c.args.ops.now ≡ 0 = search rules in no_inputs c.args.ops.now n)

pub orders-loop-i-preserved : goal.orders-loop-i-preserved
orders-loop-i-preserved t c =
    rw c.lesser_of-best.ensures (let h = order_more (search_stock c.args.self.now) c.args.limits (open_operands c.args.ops.now) c.loop-i.i c.loop-i.best c.in_ok-from.from c.loop-i.invariant.reached c.loop-i.invariant.least c.in_ok-from.ensures.least in record { reached = h.0; least = h.1; right = c.in_ok-from.ensures.right })

pub orders-returns-then-is_as_dear-clause-least : goal.orders-returns-then-is_as_dear-clause-least
orders-returns-then-is_as_dear-clause-least t c =
    rw c.lesser_of-best.ensures (
    let h = order_more (search_stock c.args.self.now) c.args.limits (open_operands c.args.ops.now) c.loop-i.i c.loop-i.best c.in_ok-from.from c.loop-i.invariant.reached c.loop-i.invariant.least c.in_ok-from.ensures.least in
    record { reached = h.0; least = λ ps sparing. subst (λ o. AtMost o (operands_cost ps)) c.lesser_of-best.ensures (OnTrue_at c.if-is_as_dear.true c.is_as_dear.ensures (operands_cost ps) (c.requires.floor ps sparing)) }
    )

pub orders-returns-clause-least : goal.orders-returns-clause-least
orders-returns-clause-least t c =
    let some : 0 < length c.args.ops.now = search rules in
    let n = length_inputs c.args.ops.now in
    order_all _ _ _ _ (omega (arith, some, n)) c.loop-i.invariant.reached
    (λ i p ps lt orders. c.loop-i.invariant.least i p ps (omega (arith, n, lt, c.loop-i-test.false)) orders)

pub orders_from-returns-in_default-clause-least : goal.orders_from-returns-in_default-clause-least
orders_from-returns-in_default-clause-least t c =
    let got = slice_get_read _ _ _ _ refl c.requires.place c.index-ops-i.is in
    let get = inputs_at c.args.ops.now c.args.i c.index-ops-i.result got in
    from_none (search_stock c.args.self.now) c.args.limits (open_operands c.args.ops.now) c.args.i (open_operand c.index-ops-i.result) get
    (subst (λ o. IsLeast (search_stock c.args.self.now) c.args.limits (operand_subgoal (open_operand c.index-ops-i.result)) o) c.in_default.is c.in_ok-m.ensures.least)

pub orders_from-returns-then-ops-eq1-clause-least : goal.orders_from-returns-then-ops-eq1-clause-least
orders_from-returns-then-ops-eq1-clause-least t c =
    let got = slice_get_read _ _ _ _ refl c.requires.place c.index-ops-i.is in
    let get = inputs_at c.args.ops.now c.args.i c.index-ops-i.result got in
    let one : length c.args.ops.now ≡ 1 = search rules in
    let n = length_inputs c.args.ops.now in
    from_last (search_stock c.args.self.now) c.args.limits (open_operands c.args.ops.now) c.args.i (open_operand c.index-ops-i.result) c.in-Some.m get (omega (arith, one, n))
    (subst (λ o. IsLeast (search_stock c.args.self.now) c.args.limits (operand_subgoal (open_operand c.index-ops-i.result)) o) c.in-Some.is c.in_ok-m.ensures.least)

pub orders_from-returns-clause-least : goal.orders_from-returns-clause-least
orders_from-returns-clause-least t c =
    let got = slice_get_read _ _ _ _ refl c.requires.place c.index-ops-i.is in
    let get = inputs_at c.args.ops.now c.args.i c.index-ops-i.result got in
    let first = (subst (λ o. IsLeast (search_stock c.args.self.now) c.args.limits (operand_subgoal (open_operand c.index-ops-i.result)) o) c.in-Some.is c.in_ok-m.ensures.least) in
    let parts = from_parts (search_stock c.args.self.now) c.args.limits (open_operands c.args.ops.now) c.args.i (open_operand c.index-ops-i.result) (Some c.in-Some.m) c.in_ok-n.n get first (c.in_ok-n.ensures.least (open_operand c.index-ops-i.result) get) in
    subst (λ x. IsLeastFrom (search_stock c.args.self.now) c.args.limits (open_operands c.args.ops.now) c.args.i x) (sym c.sum_of.ensures) parts

pub orders_from-sum_of-requires : goal.orders_from-sum_of-requires
orders_from-sum_of-requires t c =
    let got = slice_get_read _ _ _ _ refl c.requires.place c.index-ops-i.is in
    let get = inputs_at c.args.ops.now c.args.i c.index-ops-i.result got in
    let first = (subst (λ o. IsLeast (search_stock c.args.self.now) c.args.limits (operand_subgoal (open_operand c.index-ops-i.result)) o) c.in-Some.is c.in_ok-m.ensures.least) in
    let few = from_few c.args.self.now c.args.limits c.args.ops.now c.args.i c.index-ops-i.result (Some c.in-Some.m) c.in_ok-n.n got first (c.in_ok-n.ensures.least (open_operand c.index-ops-i.result) get) in
    size_held (summed (Some c.in-Some.m) c.in_ok-n.n) _ _ few c.requires.at.1 c.requires.right.few

pub orders_from-operand_cost-requires : goal.orders_from-operand_cost-requires
orders_from-operand_cost-requires t c =
    let got = slice_get_read _ _ _ _ refl c.requires.place c.index-ops-i.is in
    let get = inputs_at c.args.ops.now c.args.i c.index-ops-i.result got in
    let h = size-remove (open_operands c.args.ops.now) c.args.i (open_operand c.index-ops-i.result) get in
    (omega (arith, h, c.decreases, rank_le c.args.self.now.file c.args.limits), (input_get _ _ c.args.i _ c.requires.at got, c.requires.right))

pub orders_from-orders_after-requires : goal.orders_from-orders_after-requires
orders_from-orders_after-requires t c = (omega (arith, c.decreases), (c.requires.place, (c.requires.at, c.in_ok-m.ensures.right)))

pub orders_after-orders-requires : goal.orders_after-orders-requires
orders_after-orders-requires t c =
    let got = slice_get_read _ _ _ _ refl c.requires.place c.index-ops-i.is in
    let get = inputs_at c.args.ops.now c.args.i c.index-ops-i.result got in
    let h = size-remove (open_operands c.args.ops.now) c.args.i (open_operand c.index-ops-i.result) get in
    let d : c.deref.result.now ≡ remove c.args.ops.now c.args.i = c.deref.ensures.value ∙ c.in_ok-rest.ensures in
    let e : open_operands c.deref.result.now ≡ remove (open_operands c.args.ops.now) c.args.i = ap open_operands d ∙ inputs_without c.args.ops.now c.args.i in
    (omega (arith, h, ap operands_size e, size_pos (model_of_tree c.index-ops-i.result.tree.now), c.decreases), (subst (OperandsAt (search_nodes c.args.self.now)) (sym d) (inputs_remove (search_nodes c.args.self.now) c.args.ops.now c.args.i c.requires.at), (floor_none (search_stock c.args.self.now) c.after_home-later.result (open_operands c.deref.result.now), c.requires.right)))

pub orders_after-operand_cost-requires : goal.orders_after-operand_cost-requires
orders_after-operand_cost-requires t c =
    let two : length c.args.ops.now ≡ 2 = search rules in
    let got : slice_get c.args.ops.now (1 - c.args.i) ≡ Some c.index-ops-i-then-ops-eq2.result = slice_get_read c.args.ops.now (length c.args.ops.now) (1 - c.args.i) _ refl (let lt = c.requires.place in omega (arith, two, lt)) c.index-ops-i-then-ops-eq2.is in
    let get = inputs_at c.args.ops.now (1 - c.args.i) c.index-ops-i-then-ops-eq2.result got in
    let h = size-remove (open_operands c.args.ops.now) (1 - c.args.i) (open_operand c.index-ops-i-then-ops-eq2.result) get in
    (omega (arith, h, c.decreases, rank_le c.args.self.now.file c.after_home-later.result), (input_get _ _ (1 - c.args.i) _ c.requires.at got, c.requires.right))

pub orders_after-returns-then-ops-eq2-clause-least : goal.orders_after-returns-then-ops-eq2-clause-least
orders_after-returns-then-ops-eq2-clause-least t c =
    let two : length c.args.ops.now ≡ 2 = search rules in
    let n = length_inputs c.args.ops.now in
    let lt = c.requires.place in
    let got = slice_get_read _ _ _ _ refl lt c.index-ops-i.is in
    let get = inputs_at c.args.ops.now c.args.i c.index-ops-i.result got in
    let got' : slice_get c.args.ops.now (1 - c.args.i) ≡ Some c.index-ops-i-then-ops-eq2.result = slice_get_read c.args.ops.now (length c.args.ops.now) (1 - c.args.i) _ refl (omega (arith, two, lt)) c.index-ops-i-then-ops-eq2.is in
    let get' = inputs_at c.args.ops.now (1 - c.args.i) c.index-ops-i-then-ops-eq2.result got' in
    let left = other_left (open_operands c.args.ops.now) c.args.i (open_operand c.index-ops-i-then-ops-eq2.result) (omega (arith, two, n)) (omega (arith, two, lt)) get' in
    IfOk-weaker c.operand_cost.result (λ o. IsLeast (search_stock c.args.self.now) c.after_home-later.result (operand_subgoal (open_operand c.index-ops-i-then-ops-eq2.result)) o) (λ o. IsLeastAfter (search_stock c.args.self.now) c.args.limits (open_operands c.args.ops.now) c.args.i o)
    (λ o least x here.
    let same : open_operand c.index-ops-i.result ≡ x = cc in
    subst (λ (y : Operand). IsLeastOrder (search_stock c.args.self.now) (after c.args.limits y.home) (remove (open_operands c.args.ops.now) c.args.i) o) same
    (subst (λ xs. IsLeastOrder (search_stock c.args.self.now) (after c.args.limits (model_of_home c.index-ops-i.result.home)) xs o) (sym left)
    (order_one (search_stock c.args.self.now) (after c.args.limits (model_of_home c.index-ops-i.result.home)) (open_operand c.index-ops-i-then-ops-eq2.result) o
    (subst (λ s. IsLeast (search_stock c.args.self.now) s (operand_subgoal (open_operand c.index-ops-i-then-ops-eq2.result)) o) c.after_home-later.ensures least)))) c.operand_cost.ensures.least

pub orders_after-returns-clause-least : goal.orders_after-returns-clause-least
orders_after-returns-clause-least t c =
    let got = slice_get_read _ _ _ _ refl c.requires.place c.index-ops-i.is in
    let get = inputs_at c.args.ops.now c.args.i c.index-ops-i.result got in
    let d : c.deref.result.now ≡ remove c.args.ops.now c.args.i = c.deref.ensures.value ∙ c.in_ok-rest.ensures in
    let e : open_operands c.deref.result.now ≡ remove (open_operands c.args.ops.now) c.args.i = ap open_operands d ∙ inputs_without c.args.ops.now c.args.i in
    IfOk-weaker c.orders.result (λ o. IsLeastOrder (search_stock c.args.self.now) c.after_home-later.result (open_operands c.deref.result.now) o) (λ o. IsLeastAfter (search_stock c.args.self.now) c.args.limits (open_operands c.args.ops.now) c.args.i o)
    (λ o least x here.
    let same : open_operand c.index-ops-i.result ≡ x = cc in
    subst (λ (y : Operand). IsLeastOrder (search_stock c.args.self.now) (after c.args.limits y.home) (remove (open_operands c.args.ops.now) c.args.i) o) same
    (subst (λ xs. IsLeastOrder (search_stock c.args.self.now) (after c.args.limits (model_of_home c.index-ops-i.result.home)) xs o) e
    (subst (λ s. IsLeastOrder (search_stock c.args.self.now) s (open_operands c.deref.result.now) o) c.after_home-later.ensures least))) c.orders.ensures.least

pub cuts_cost-returns-then-is_empty-clause-least : goal.cuts_cost-returns-then-is_empty-clause-least
cuts_cost-returns-then-is_empty-clause-least t c = cut_none _ _ (let n : length c.args.cuts.now ≡ 0 = search rules in no_stored c.args.cuts.now n)

pub cuts_cost-least-requires : goal.cuts_cost-least-requires
cuts_cost-least-requires t c =
    let some : 0 < length c.args.cuts.now = search rules in
    let got = slice_get_read _ _ _ _ refl some c.index-cuts-0.is in
    let e = stored_split c.args.cuts.now c.index-cuts-0.result got in
    (omega (arith, ap exprs_size e, rank_free c.args.self.now.file, c.decreases), (cut_slot, (stored_first _ c.args.cuts.now _ c.requires.at got, c.requires.right)))

pub cuts_cost-cuts_cost-requires : goal.cuts_cost-cuts_cost-requires
cuts_cost-cuts_cost-requires t c =
    let some : 0 < length c.args.cuts.now = search rules in
    let got = slice_get_read _ _ _ _ refl some c.index-cuts-0.is in
    let e = stored_split c.args.cuts.now c.index-cuts-0.result got in
    (omega (arith, ap exprs_size e, ap (λ l. exprs_size (open_cuts l)) (tail_is c.args.cuts.now), size_pos (model_of_tree c.index-cuts-0.result.tree.now), c.decreases), (subst (CutsAt (search_nodes c.args.self.now)) (sym (tail_is c.args.cuts.now)) (stored_later (search_nodes c.args.self.now) c.args.cuts.now c.requires.at), c.in_ok-m.ensures.right))

pub cuts_cost-returns-clause-least : goal.cuts_cost-returns-clause-least
cuts_cost-returns-clause-least t c =
    let some : 0 < length c.args.cuts.now = search rules in
    let got = slice_get_read _ _ _ _ refl some c.index-cuts-0.is in
    let e = stored_split c.args.cuts.now c.index-cuts-0.result got in
    let parts = cut_more (search_stock c.args.self.now) (model_of_tree c.index-cuts-0.result.tree.now) (open_cuts (drop 1 c.args.cuts.now)) c.in_ok-m.m c.in_ok-n.n c.in_ok-m.ensures.least (subst (λ l. IsLeastCut (search_stock c.args.self.now) (open_cuts l) c.in_ok-n.n) (tail_is c.args.cuts.now) c.in_ok-n.ensures.least) in
    subst (λ x. IsLeastCut (search_stock c.args.self.now) (open_cuts c.args.cuts.now) x) (sym c.sum_of.ensures) (subst (λ xs. IsLeastCut (search_stock c.args.self.now) xs (summed c.in_ok-m.m c.in_ok-n.n)) (sym e) parts)

pub cuts_cost-sum_of-requires : goal.cuts_cost-sum_of-requires
cuts_cost-sum_of-requires t c =
    let some : 0 < length c.args.cuts.now = search rules in
    let got = slice_get_read _ _ _ _ refl some c.index-cuts-0.is in
    let few = stored_few c.args.self.now c.args.cuts.now c.index-cuts-0.result c.in_ok-m.m c.in_ok-n.n got c.in_ok-m.ensures.least (subst (λ l. IsLeastCut (search_stock c.args.self.now) (open_cuts l) c.in_ok-n.n) (tail_is c.args.cuts.now) c.in_ok-n.ensures.least) in
    size_held (summed c.in_ok-m.m c.in_ok-n.n) _ _ few c.requires.at.1 c.requires.right.few

pub least-returns-clause-least : goal.least-returns-clause-least
least-returns-clause-least t c =
    let n : length c.in_ok-costs.costs.items ≡ 18 = search rules in
    subst (λ o. IsLeast (search_stock c.args.self.now) c.args.limits (row_subgoal (model_of_tree c.args.subtree.tree.now) c.args.subtree.whole c.args.slot) o)
    (same_default c.in_ok-costs.costs.items (place c.args.slot) c.index-cost.result.now None (let w = slot_within c.args.subtree.whole c.args.slot c.requires.slot in omega (arith, n, w)) (subst (λ j. c.index-cost.result.now ≡ get_or c.in_ok-costs.costs.items j c.index-cost.result.now) c.index.ensures.is c.index-cost.ensures))
    (c.in_ok-costs.ensures.least c.args.slot c.requires.slot)
