-- A least cost is small: a tree of n subtrees that has a cover has one of at most 36 n forms.
use Rattle.std.proofs.Common.{◌≡◌, ℕ, zero, suc, ◌+◌, ◌-◌, ◌*◌, ◌<◌, ◌≤◌, ◌^◌, List, [], ◌∷◌, length, drop, replicate, Option, Some, None, Bool, false, refl, sym, ap, ◌∙◌, subst, arith, inl, inr}
use Rattle.std.specs.Prelude.{slice_get, slice_set, remove, ◌==◌, ◌&&◌}
use Rattle.std.proofs.lemmas.Bool.{cases_eq}
use Rattle.std.proofs.lemmas.List.{length-set}
use Rattle.std.proofs.lemmas.List.Sums.{sum_by-set}
use Rattle.rec_bits.proofs.Options.{picked}
use Rattle.net_model.specs.Exprs.{ExprModel, size_of}
use Rattle.form_model.specs.Registers.{AreLow}
use Rattle.form_model.specs.Trees.{model_of_tree}
use Rattle.tree_grammar.specs.Leaves.{model_of_home}
use Rattle.form_model.specs.Matches.{LeafModel, operand, cut}
use Rattle.form_model.specs.CoverModels.{CoverModel, use_form, CoverOperandsModel, no_operands, operand_then, CoverCutsModel, no_cuts, cut_then, cost, operands_cost, cuts_cost}
use Rattle.form_model.specs.Covers.{StockModel, Operand, operands_of, cuts_of}
use Rattle.least_costs.specs.declared.search.Search.{Search}
use Rattle.least_costs.specs.declared.limits.Limits.{Limits}
use Rattle.least_costs.specs.declared.slots.Slot.{Slot}
use Rattle.least_costs.specs.declared.slots.Slot.TheVariants.{Temporary}
use Rattle.least_costs.specs.declared.rows.ChainRule.{ChainRule}
use Rattle.least_costs.specs.declared.rows.Offer.{Offer}
use Rattle.least_costs.specs.declared.rows.Offer.TheVariants.{Nothing, Chains, Reaches}
use Rattle.least_costs.specs.declared.opened.OpenOperand.{OpenOperand}
use Rattle.least_costs.specs.declared.opened.OpenCut.{OpenCut}
use Rattle.least_costs.specs.Subgoals.{free, is_free, rank, rest, operand_subgoal, cut_subgoal, after, operands_size, exprs_size, AreFew, IsSparing, AreSparing, AreStored}
use Rattle.least_costs.specs.Least.{NoMore, IsHeld, IsLeastWithin, IsLeast, IsLeastOrder, IsLeastCut, summed}
use Rattle.least_costs.specs.Slots.{place, IsEntry, IsSlot, IsLowHome, entry_destination, goal_slot, home_slot}
use Rattle.least_costs.specs.Rows.{Row, entry, row_subgoal, Sound, IsBelow, IsBlank, IsLift, IsRoomy, NoneAbove, IsCheapOffer, Noted, unfilled, unfilled_in}
use Rattle.least_costs.specs.Searches.{search_stock, search_nodes, open_operand, open_operands, open_cuts, AreParts}
use Rattle.least_costs.specs.Matched.{AreLowLeaves}
use Rattle.least_costs.proofs.SizeLemmas.{Small, size_pos, total_parts, rest_less}
use Rattle.least_costs.proofs.LowLemmas.{taken_low}
use Rattle.least_costs.proofs.SlotLemmas.{place_within, place_once, slot_entry}
use Rattle.least_costs.proofs.RowLemmas.{entry_same, entry_there, entry_other, raised_sound, roomy_set, unfilled_le, entered_low}
use Rattle.least_costs.proofs.OfferLemmas.{blank_row, row_small, offer_chain}
use Rattle.least_costs.proofs.InputLemmas.{inputs_at, inputs_split, stored_split, size-remove, home_entry, home_ask, rank_le, rank_free}

-- ---- operands whose homes, where they are registers, have a bit in a set of registers

abbrev pub AllLow : List Operand → Type 0
AllLow [] = Unit {0}
AllLow (o ∷ os) = IsLowHome o.home × AllLow os

low_leaves : (leaves : List LeafModel) → AreLowLeaves leaves → AllLow (operands_of leaves)
low_leaves [] h = tt
low_leaves (operand home tree whole ∷ leaves) h = (h.0, low_leaves leaves h.1)
low_leaves (cut shape tree ∷ leaves) h = low_leaves leaves h

pub opened_low : (is : List OpenOperand) → AllLow (open_operands is)
opened_low [] = tt
opened_low (x ∷ is) = (x.low, opened_low is)

low_get : (ops : List Operand) (i : ℕ) (o : Operand) → AllLow ops → slice_get ops i ≡ Some o → IsLowHome o.home
low_get [] i o h get = absurd (cc)
low_get (x ∷ xs) zero o h get = let e : x ≡ o = cc in subst (λ (y : Operand). IsLowHome y.home) e h.0
low_get (x ∷ xs) (suc i) o h get = low_get xs i o h.1 get

pub low_remove : (ops : List Operand) (i : ℕ) → AllLow ops → AllLow (remove ops i)
low_remove [] zero h = tt
low_remove [] (suc i) h = tt
low_remove (x ∷ xs) zero h = h.1
low_remove (x ∷ xs) (suc i) h = (h.0, low_remove xs i h.1)

-- the entry from which a match goes on is one of the row
rest_entry : (size : ℕ) (all : Bool) (leaves : List LeafModel) (q : Slot) → AreLowLeaves leaves → rest size all leaves ≡ Some q → IsEntry q
rest_entry size all [] q low e = absurd (cc)
rest_entry size all (operand home tree whole ∷ []) q low e =
    let same = (picked (size_of tree == size) (Some (home_slot home)) q e).1 in
    let is : home_slot home ≡ q = cc in
    subst IsEntry is (slot_entry false (home_slot home) (home_entry false home low.0))
rest_entry size all (operand home tree whole ∷ s ∷ leaves) q low e = absurd (cc)
rest_entry size all (cut shape tree ∷ []) q low e =
    let same = (picked (all && (size_of tree == size)) (Some Temporary) q e).1 in
    let is : Temporary ≡ q = cc in
    subst IsEntry is tt
rest_entry size all (cut shape tree ∷ s ∷ leaves) q low e = absurd (cc)

-- ---- a cheap cover for each cover: chain rules lead from entry to entry of one row, and an entry
-- that has a cover already needs no other

-- what a least cover of a tree costs at most
abbrev pub most : StockModel → Limits → ExprModel → ℕ
most stock limits t = 36 * size_of t + 18 * rank stock.file limits - 18

abbrev empty_row : Row
empty_row = replicate {A = Option ℕ} 18 None

-- costs of covers for some entries of a row, for this one too
record IsCheap (stock : StockModel) (limits : Limits) (t : ExprModel) (whole : Bool) (s : Slot) : Type 0 where
  row : Row
  len : length row ≡ 18
  sound : Sound stock limits t whole row
  roomy : IsRoomy (most stock limits t) row
  known : ℕ
  at : entry row s ≡ Some known

cheap_cover : (stock : StockModel) (limits : Limits) (t : ExprModel) (whole : Bool) (s : Slot) → IsSlot whole s → IsCheap stock limits t whole s → (q : CoverModel) × IsSparing stock limits (row_subgoal t whole s) q × (cost q ≤ most stock limits t)
cheap_cover stock limits t whole s slot h =
    let there : IsLeastWithin stock limits (row_subgoal t whole s) (Some h.known) = subst (IsLeastWithin stock limits (row_subgoal t whole s)) h.at (h.sound s slot) in
    let (q, sparing, e) = there in
    let le = h.roomy s h.known h.at in
    (q, sparing, omega (arith, e, le))

module _ (stock : StockModel) (limits : Limits) (t : ExprModel) (whole : Bool) where
  -- a row with one cost
  cheap_base : (s : Slot) (q : CoverModel) → IsSlot whole s → IsSparing stock limits (row_subgoal t whole s) q → cost q + 17 ≤ most stock limits t → IsCheap stock limits t whole s
  cheap_base s q slot sparing le = record {
    row = slice_set empty_row (place s) (Some (cost q));
    len = length-set empty_row (place s) (Some (cost q));
    sound = λ r is. elim (cases_eq (place r) (place s)) [
      | inl same ↦ subst (λ j. IsLeastWithin stock limits (row_subgoal t whole j) (entry (slice_set empty_row (place s) (Some (cost q))) j)) (sym (place_once r s (slot_entry whole r is) (slot_entry whole s slot) same))
          (subst (IsLeastWithin stock limits (row_subgoal t whole s)) (sym (entry_same empty_row s (Some (cost q)) within)) (q, sparing, refl))
      | inr other ↦ subst (IsLeastWithin stock limits (row_subgoal t whole r)) (sym (entry_other empty_row s r (Some (cost q)) other ∙ blank_row 18 r)) tt
    ];
    roomy = λ r c at. elim (cases_eq (place r) (place s)) [
      | inl same ↦
          (let e : ◌≡◌ {A = Option ℕ} (Some (cost q)) (Some c) = sym (entry_there empty_row s r (Some (cost q)) within same) ∙ at in
          let is : cost q ≡ c = cc in
          let u = filled in
          omega (arith, is, le, u))
      | inr other ↦ absurd (let e : ◌≡◌ {A = Option ℕ} None (Some c) = sym (entry_other empty_row s r (Some (cost q)) other ∙ blank_row 18 r) ∙ at in cc)
    ];
    known = cost q;
    at = entry_same empty_row s (Some (cost q)) within;
  }
    where
      within : place s < length empty_row
      within = place_within s (slot_entry whole s slot)

      filled : unfilled_in (slice_set empty_row (place s) (Some (cost q))) ≤ 17
      filled =
          let sum = sum_by-set unfilled empty_row (place s) (Some (cost q)) None within in
          let one = ap unfilled (blank_row 18 s) in
          let le = unfilled_le empty_row in
          omega (arith, sum, one, le)

  -- a chain rule gives its goal a cost where that has none
  cheap_step : (m : ChainRule) → IsLift stock limits t whole m → IsCheap stock limits t whole m.start → IsCheap stock limits t whole m.goal
  cheap_step m lift h = go (entry h.row m.goal) refl
    where
      go : (o : Option ℕ) → entry h.row m.goal ≡ o → IsCheap stock limits t whole m.goal
      go (Some n) e = record { row = h.row; len = h.len; sound = h.sound; roomy = h.roomy; known = n; at = e }
      go None e =
          let p = place_within m.goal (slot_entry whole m.goal lift.goal) in
          let l = h.len in
          let within : place m.goal < length h.row = omega (arith, l, p) in
          record {
            row = slice_set h.row (place m.goal) (Some (h.known + 1));
            len = length-set h.row (place m.goal) (Some (h.known + 1)) ∙ h.len;
            sound = raised_sound stock limits t whole m h.row h.known lift h.len h.at h.sound;
            roomy = roomy_set (most stock limits t) h.row m.goal h.known within h.roomy (h.roomy m.start h.known h.at) (subst (IsBelow (h.known + 1)) (sym e) tt);
            known = h.known + 1;
            at = entry_same h.row m.goal (Some (h.known + 1)) within;
          }

-- each cover that costs at most n has a cheap one beside it
abbrev AreCheap : StockModel → ℕ → Type 0
AreCheap stock n =
    (p : CoverModel) (limits : Limits) (t : ExprModel) (whole : Bool) (s : Slot) → cost p ≤ n → IsSlot whole s →
    IsSparing stock limits (row_subgoal t whole s) p → IsCheap stock limits t whole s

module _ (stock : StockModel) (n : ℕ) (ih : AreCheap stock n) where
  cheap_order : (ps : CoverOperandsModel) (limits : Limits) (ops : List Operand) → AllLow ops → operands_cost ps ≤ n → AreSparing stock limits ops ps → (qs : CoverOperandsModel) × AreSparing stock limits ops qs × (operands_cost qs ≤ 36 * operands_size ops)
  cheap_order no_operands limits ops low le e = (no_operands, e, omega arith)
  cheap_order (operand_then i p ps) limits ops low le (o, get, sparing, orders) =
      let slot = home_entry o.whole o.home (low_get ops i o low get) in
      let ask : row_subgoal o.tree o.whole (home_slot o.home) ≡ operand_subgoal o = home_ask o.tree o.whole o refl refl in
      let (q, sparing', small) = cheap_cover stock limits o.tree o.whole (home_slot o.home) slot (ih p limits o.tree o.whole (home_slot o.home) (omega (arith, le)) slot (subst (λ a. IsSparing stock limits a p) (sym ask) sparing)) in
      let (qs, orders', few) = cheap_order ps (after limits o.home) (remove ops i) (low_remove ops i low) (omega (arith, le)) orders in
      let size = size-remove ops i o get in
      let r = rank_le stock.file limits in
      let pos = size_pos o.tree in
      (operand_then i q qs, (o, get, subst (λ a. IsSparing stock limits a q) ask sparing', orders'), omega (arith, small, few, size, r, pos))

  cheap_cuts : (cs : CoverCutsModel) (ts : List ExprModel) → cuts_cost cs ≤ n → AreStored stock ts cs → (ds : CoverCutsModel) × AreStored stock ts ds × (cuts_cost ds + 18 * length ts ≤ 36 * exprs_size ts)
  cheap_cuts no_cuts ts le e = (no_cuts, e, (let l = ap length e in omega (arith, l)))
  cheap_cuts (cut_then p cs) ts le (u, us, e, sparing, stored) =
      let (q, sparing', small) = cheap_cover stock (free stock) u false Temporary refl (ih p (free stock) u false Temporary (omega (arith, le)) refl sparing) in
      let (ds, stored', few) = cheap_cuts cs us (omega (arith, le)) stored in
      let l = ap length e in
      let s = ap exprs_size e in
      let r : rank stock.file (free stock) ≡ 0 = rank_free stock.file in
      let pos = size_pos u in
      (cut_then q ds, (u, us, e, sparing', stored'), omega (arith, small, few, l, s, r, pos))

  cheap_form : AreLow stock.forms → (p : CoverModel) (limits : Limits) (t : ExprModel) (whole : Bool) (s : Slot) → cost p ≤ suc n → IsSlot whole s → IsSparing stock limits (row_subgoal t whole s) p → IsCheap stock limits t whole s
  cheap_form low (use_form k ps cs) limits t whole s le slot (form, get, spared, found, is, orders, stored) =
      go (rest (size_of t) (is_free stock.file limits) found.leaves) refl
    where
      small : (goal_slot form.goal whole ≡ Some s) × Small whole t found.leaves
      small = row_small stock form t whole s found slot is

      lows : AreLowLeaves found.leaves
      lows = taken_low stock.temps form (entry_destination s) t whole found is (low k form get)

      go : (o : Option Slot) → rest (size_of t) (is_free stock.file limits) found.leaves ≡ o → IsCheap stock limits t whole s
      go (Some q) e =
          let within = rest_entry (size_of t) (is_free stock.file limits) found.leaves q lows e in
          let (lift, back) = offer_chain stock limits t whole [] k form s q found get spared small.0 slot is e within in
          let (same, p, sparing, less) = back ps cs s slot (form, get, spared, found, is, orders, stored) in
          cheap_step stock limits t whole (record { start = q; goal = s }) lift (ih p limits t whole q (omega (arith, le, less)) lift.start sparing)
      go None e =
          let (qs, orders', a) = cheap_order ps limits (operands_of found.leaves) (low_leaves found.leaves lows) (omega (arith, le)) orders in
          let (ds, stored', b) = cheap_cuts cs (cuts_of found.leaves) (omega (arith, le)) stored in
          let parts = total_parts found.leaves in
          let pos = size_pos t in
          let fits : cost (use_form k qs ds) + 17 ≤ most stock limits t = elim (rest_less whole t stock.file limits found.leaves small.1 e) [
            | inl lt ↦ omega (arith, a, b, parts, lt, pos)
            | inr (x, y, r) ↦ (let os = ap operands_size x in let ts = ap exprs_size y in let l = ap length y in omega (arith, a, b, os, ts, l, r, pos))
          ] in
          cheap_base stock limits t whole s (use_form k qs ds) slot (form, get, spared, found, is, orders', stored') fits

cheap : (stock : StockModel) → AreLow stock.forms → (n : ℕ) → AreCheap stock n
cheap stock low zero (use_form k ps cs) limits t whole s le slot sparing = absurd (omega (arith, le))
cheap stock low (suc n) p limits t whole s le slot sparing = cheap_form stock n (cheap stock low n) low p limits t whole s le slot sparing

-- ---- least costs

pub no_more_le : (o : Option ℕ) (m n : ℕ) → m ≤ n → NoMore o m → NoMore o n
no_more_le None m n le h = tt
no_more_le (Some k) m n le h = omega (arith, le, h)

module _ (stock : StockModel) (low : AreLow stock.forms) where
  entry_few : (limits : Limits) (t : ExprModel) (whole : Bool) (s : Slot) (o : Option ℕ) → IsSlot whole s → IsLeast stock limits (row_subgoal t whole s) o → NoMore o (most stock limits t)
  entry_few limits t whole s None slot is = tt
  entry_few limits t whole s (Some n) slot is =
      let (p, sparing, e) = is.reached in
      let (q, sparing', le) = cheap_cover stock limits t whole s slot (cheap stock low (cost p) p limits t whole s (omega arith) slot sparing) in
      let h = is.least q sparing' in
      omega (arith, h, le)

  pub operand_few : (limits : Limits) (x : Operand) (o : Option ℕ) → IsLowHome x.home → IsLeast stock limits (operand_subgoal x) o → NoMore o (36 * size_of x.tree)
  operand_few limits x o is_low is =
      let ask : row_subgoal x.tree x.whole (home_slot x.home) ≡ operand_subgoal x = home_ask x.tree x.whole x refl refl in
      let r = rank_le stock.file limits in
      no_more_le o (most stock limits x.tree) (36 * size_of x.tree) (omega (arith, r))
      (entry_few limits x.tree x.whole (home_slot x.home) o (home_entry x.whole x.home is_low) (subst (λ a. IsLeast stock limits a o) (sym ask) is))

  pub cut_few : (t : ExprModel) (o : Option ℕ) → IsLeast stock (free stock) (cut_subgoal t) o → NoMore o (36 * size_of t)
  cut_few t o is =
      let r = rank_le stock.file (free stock) in
      no_more_le o (most stock (free stock) t) (36 * size_of t) (omega (arith, r)) (entry_few (free stock) t false Temporary o refl is)

  pub order_few : (limits : Limits) (ops : List Operand) (o : Option ℕ) → AllLow ops → IsLeastOrder stock limits ops o → NoMore o (36 * operands_size ops)
  order_few limits ops None all is = tt
  order_few limits ops (Some n) all is =
      let (ps, orders, e) = is.reached in
      let (qs, orders', le) = cheap_order stock (operands_cost ps) (cheap stock low (operands_cost ps)) ps limits ops all (omega arith) orders in
      let h = is.least qs orders' in
      omega (arith, h, le)

  pub cuts_few : (ts : List ExprModel) (o : Option ℕ) → IsLeastCut stock ts o → NoMore o (36 * exprs_size ts - 18 * length ts)
  cuts_few ts None is = tt
  cuts_few ts (Some n) is =
      let (cs, stored, e) = is.reached in
      let (ds, stored', le) = cheap_cuts stock (cuts_cost cs) (cheap stock low (cuts_cost cs)) cs ts (omega arith) stored in
      let h = is.least ds stored' in
      omega (arith, h, le)

-- ---- sums of costs that are small

pub sum_few : (a b : Option ℕ) (m n : ℕ) → NoMore a m → NoMore b n → NoMore (summed a b) (m + n)
sum_few None b m n h k = tt
sum_few (Some i) None m n h k = tt
sum_few (Some i) (Some j) m n h k = omega (arith, h, k)

pub held : (o : Option ℕ) (n : ℕ) → NoMore o n → n < 2 ^ 64 → IsHeld o
held None n h lt = tt
held (Some m) n h lt = omega (arith, h, lt)

pub form_few : (a b : Option ℕ) (m n : ℕ) → NoMore a m → NoMore b n → NoMore (summed (summed (Some 1) a) b) (1 + m + n)
form_few a b m n h k = sum_few (summed (Some 1) a) b (1 + m) n (sum_few (Some 1) a 1 m (omega arith) h) k

-- 64 bits hold a cost of trees that have no more subtrees than there are
pub size_held : (o : Option ℕ) (size n : ℕ) → NoMore o (36 * size) → size ≤ n → AreFew n → IsHeld o
size_held o size n h le few = held o (36 * size) h (omega (arith, le, few))

pub size_room : (t : ExprModel) (n : ℕ) → size_of t ≤ n → AreFew n → 36 * size_of t - 17 + 18 ≤ 2 ^ 64 - 2
size_room t n le few = let pos = size_pos t in omega (arith, le, few, pos)

pub floor_few : (search : Search) (limits : Limits) (is : List OpenOperand) (x : OpenOperand) (m n : Option ℕ) → slice_get is 0 ≡ Some x → IsLeast (search_stock search) limits (operand_subgoal (open_operand x)) m → NoMore n (36 * operands_size (open_operands (drop 1 is))) → NoMore (summed m n) (36 * operands_size (open_operands is))
floor_few search limits is x m n get least few =
    let size = ap operands_size (inputs_split is x get) in
    no_more_le (summed m n) (36 * size_of (model_of_tree x.tree.now) + 36 * operands_size (open_operands (drop 1 is))) (36 * operands_size (open_operands is)) (omega (arith, size))
    (sum_few m n (36 * size_of (model_of_tree x.tree.now)) (36 * operands_size (open_operands (drop 1 is))) (operand_few (search_stock search) search.low limits (open_operand x) m x.low least) few)

pub from_few : (search : Search) (limits : Limits) (is : List OpenOperand) (i : ℕ) (x : OpenOperand) (m n : Option ℕ) → slice_get is i ≡ Some x → IsLeast (search_stock search) limits (operand_subgoal (open_operand x)) m → IsLeastOrder (search_stock search) (after limits (model_of_home x.home)) (remove (open_operands is) i) n → NoMore (summed m n) (36 * operands_size (open_operands is))
from_few search limits is i x m n get least others =
    let size = size-remove (open_operands is) i (open_operand x) (inputs_at is i x get) in
    no_more_le (summed m n) (36 * size_of (model_of_tree x.tree.now) + 36 * operands_size (remove (open_operands is) i)) (36 * operands_size (open_operands is)) (omega (arith, size))
    (sum_few m n (36 * size_of (model_of_tree x.tree.now)) (36 * operands_size (remove (open_operands is) i)) (operand_few (search_stock search) search.low limits (open_operand x) m x.low least)
    (order_few (search_stock search) search.low (after limits (model_of_home x.home)) (remove (open_operands is) i) n (low_remove (open_operands is) i (opened_low is)) others))

pub stored_few : (search : Search) (ss : List OpenCut) (x : OpenCut) (m n : Option ℕ) → slice_get ss 0 ≡ Some x → IsLeast (search_stock search) (free (search_stock search)) (cut_subgoal (model_of_tree x.tree.now)) m → IsLeastCut (search_stock search) (open_cuts (drop 1 ss)) n → NoMore (summed m n) (36 * exprs_size (open_cuts ss))
stored_few search ss x m n get least others =
    let size = ap exprs_size (stored_split ss x get) in
    no_more_le (summed m n) (36 * size_of (model_of_tree x.tree.now) + (36 * exprs_size (open_cuts (drop 1 ss)) - 18 * length (open_cuts (drop 1 ss)))) (36 * exprs_size (open_cuts ss)) (omega (arith, size))
    (sum_few m n (36 * size_of (model_of_tree x.tree.now)) (36 * exprs_size (open_cuts (drop 1 ss)) - 18 * length (open_cuts (drop 1 ss))) (cut_few (search_stock search) search.low (model_of_tree x.tree.now) m least)
    (cuts_few (search_stock search) search.low (open_cuts (drop 1 ss)) n others))

-- the cost of a form with parts of so few subtrees
pub parts_held : (search : Search) (ops : List Operand) (ts : List ExprModel) (a b : Option ℕ) → AreFew (length (search_nodes search)) → AreParts (search_nodes search) ops ts → NoMore a (36 * operands_size ops) → IsLeastCut (search_stock search) ts b → IsHeld (summed (summed (Some 1) a) b)
parts_held search ops ts a b few parts small least =
    held (summed (summed (Some 1) a) b) (1 + 36 * operands_size ops + (36 * exprs_size ts - 18 * length ts)) (form_few a b (36 * operands_size ops) (36 * exprs_size ts - 18 * length ts) small (cuts_few (search_stock search) search.low ts b least)) (omega (arith, few, parts))

-- ---- rows whose costs are low

pub blank_low : (n : ℕ) (row : Row) → IsBlank row → NoneAbove n row
blank_low n row blank s = subst (λ o. NoMore o n) (sym (blank s)) tt

pub noted_low : (t : ExprModel) (offer : Offer) (chains chains' : List ChainRule) (old new : Row) → NoneAbove (36 * size_of t - 17) old → Noted offer chains chains' old new → IsCheapOffer t offer → NoneAbove (36 * size_of t - 17) new
noted_low t Nothing chains chains' old new low (e, e') small = subst (NoneAbove (36 * size_of t - 17)) (sym e') low
noted_low t (Chains m) chains chains' old new low (e, e') small = subst (NoneAbove (36 * size_of t - 17)) (sym e') low
noted_low t (Reaches slot c) chains chains' old new low (e, entered) small = entered_low (36 * size_of t - 17) old new slot c low entered (omega (arith, small))
