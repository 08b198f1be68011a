-- The blocks of a program have no more words than its trees cost.
use Rattle.std.proofs.Common.{◌≡◌, ℕ, zero, suc, ◌+◌, ◌-◌, ◌<◌, ◌≤◌, Bool, true, false, ◌&&◌, nat_lt, not, List, [], ◌∷◌, drop, Option, Some, None, length, slice_get, slice_index, refl, sym, ap, subst, ◌∙◌, add-one, arith}
use Rattle.right_code.proofs.Fitting.{assign_there}
use Rattle.rec_bits.proofs.Booleans.{and-false}
use Rattle.form_model.specs.declared.flow.Flow.{Flow}
use Rattle.form_model.specs.declared.flow.Flow.TheVariants.{Assign, Test, Jump, End}
use Rattle.src_trees.specs.Blocks.{IsAssignBlock, continues, is_assign, is_entered}
use Rattle.branch_fix.specs.Costs.{SizesWithin, block_costs, joined}
use Rattle.branch_fix.specs.Parts.{blocks_before, place_blocks}
use Rattle.code_gen.proofs.Coding.{block_counted}

-- ---- lists

drop_one : (xs : List ℕ) (k : ℕ) → k < length xs → drop k xs ≡ slice_index xs k ∷ drop (suc k) xs
drop_one [] k lt = absurd (omega arith)
drop_one (x ∷ xs) zero lt = refl
drop_one (x ∷ xs) (suc k) lt = drop_one xs k (omega arith)

drop_all : (xs : List ℕ) (k : ℕ) → k ≡ length xs → drop k xs ≡ []
drop_all [] zero e = refl
drop_all [] (suc k) e = absurd (omega arith)
drop_all (x ∷ xs) zero e = absurd (omega arith)
drop_all (x ∷ xs) (suc k) e = drop_all xs k (omega arith)

-- ---- the costs of so many places from one on

abbrev pub place_cost : List ℕ → Option Flow → ℕ
place_cost costs None = 0
place_cost costs (Some (Assign tree)) = slice_index costs tree
place_cost costs (Some (Test tree when_one when_zero)) = 0
place_cost costs (Some (Jump to)) = 0
place_cost costs (Some End) = 0

abbrev pub run_cost : List Flow → List ℕ → ℕ → ℕ → ℕ
run_cost flow costs at zero = 0
run_cost flow costs at (suc n) = place_cost costs (slice_get flow at) + run_cost flow costs (at + 1) n

pub run_more : (flow : List Flow) (costs : List ℕ) (at n : ℕ) → run_cost flow costs at (suc n) ≡ run_cost flow costs at n + place_cost costs (slice_get flow (at + n))
run_more flow costs at zero = let e = ap (λ k. place_cost costs (slice_get flow k)) (let z : at + 0 ≡ at = omega arith in z) in omega (arith, e)
run_more flow costs at (suc n) =
    let h = run_more flow costs (at + 1) n in
    let e = ap (λ k. place_cost costs (slice_get flow k)) (let z : at + 1 + n ≡ at + suc n = omega arith in z) in
    omega (arith, h, e)

-- ---- a place that is no assignment ends the block before it

not_continued : (flow : List Flow) (at : ℕ) → is_assign (slice_get flow at) ≡ false → continues flow (at + 1) ≡ false
not_continued flow at e = by (is_assign (slice_get flow (at + 1 - 1))) (ap (λ k. is_assign (slice_get flow k)) (let z : at + 1 - 1 ≡ at = omega arith in z) ∙ e)
  where
    by : (b : Bool) → b ≡ false → (nat_lt 0 (at + 1) && (b && (is_assign (slice_get flow (at + 1)) && not (is_entered flow (at + 1))))) ≡ false
    by true e = absurd cc
    by false e = and-false (nat_lt 0 (at + 1))

module _ (flow : List Flow) (costs sizes : List ℕ) (long : length sizes ≡ blocks_before flow (length flow))
    (runs : (at n : ℕ) → at < length flow → IsAssignBlock flow at n → slice_index sizes (blocks_before flow at) ≤ run_cost flow costs at n)
    (tests : (at tree when_one when_zero : ℕ) → at < length flow → slice_get flow at ≡ Some (Test tree when_one when_zero) → slice_index sizes (blocks_before flow at) ≤ slice_index costs tree) where
  -- the sizes of the blocks behind a place
  abbrev behind : ℕ → List ℕ
  behind at = drop (blocks_before flow at) sizes

  -- the rest of a block, from one of its places on, and what comes behind it
  record IsRest (rest : List Flow) (at : ℕ) : Type 0 where
    cost : ℕ
    more : List ℕ
    count : ℕ
    are : block_costs flow costs rest at ≡ cost ∷ more
    some : 1 ≤ count
    sum : cost ≡ run_cost flow costs at count
    assigns : (k : ℕ) → k < count → is_assign (slice_get flow (at + k)) ≡ true
    inner : (k : ℕ) → k < count → 0 < k → continues flow (at + k) ≡ true
    last : continues flow (at + count) ≡ false
    within : SizesWithin (behind (at + 1)) more

  -- the list from a place on
  record IsFrom (rest : List Flow) (at : ℕ) : Type 0 where
    stand : (j : ℕ) → slice_get rest j ≡ slice_get flow (at + j)
    total : at + length rest ≡ length flow

  next_from : (f : Flow) (rest : List Flow) (at : ℕ) → IsFrom (f ∷ rest) at → IsFrom rest (at + 1)
  next_from f rest at h = record {
    stand = λ j. h.stand (suc j) ∙ ap (slice_get flow) (let z : at + suc j ≡ at + 1 + j = omega arith in z);
    total = let t = h.total in omega (arith, t);
  }

  here : (f : Flow) (rest : List Flow) (at : ℕ) → IsFrom (f ∷ rest) at → slice_get flow at ≡ Some f
  here f rest at h = ap (slice_get flow) (let z : at ≡ at + 0 = omega arith in z) ∙ sym (h.stand 0)

  inside : (f : Flow) (rest : List Flow) (at : ℕ) → IsFrom (f ∷ rest) at → at < length flow
  inside f rest at h = let t = h.total in omega (arith, t)

  before_next : (at : ℕ) → blocks_before flow (at + 1) ≡ blocks_before flow at + place_blocks (slice_get flow at) (continues flow at)
  before_next at = ap (blocks_before flow) (add-one at)

  -- the size of a block that begins at a place, and those behind it
  begun : (at : ℕ) → at < length flow → place_blocks (slice_get flow at) (continues flow at) ≡ 1 → behind at ≡ slice_index sizes (blocks_before flow at) ∷ behind (at + 1)
  begun at lt one =
      let c = block_counted flow at (length flow) lt one in
      let e = before_next at in
      drop_one sizes (blocks_before flow at) (omega (arith, c, long))
      ∙ ap (λ k. slice_index sizes (blocks_before flow at) ∷ drop k sizes) (let z : suc (blocks_before flow at) ≡ blocks_before flow (at + 1) = omega (arith, e, one) in z)

  same_behind : (at : ℕ) → place_blocks (slice_get flow at) (continues flow at) ≡ 0 → behind at ≡ behind (at + 1)
  same_behind at none = let e = before_next at in ap (λ k. drop k sizes) (let z : blocks_before flow at ≡ blocks_before flow (at + 1) = omega (arith, e, none) in z)

  -- both, of the rest of a flow
  record IsKept (rest : List Flow) (at : ℕ) : Type 0 where
    whole : continues flow at ≡ false → SizesWithin (behind at) (block_costs flow costs rest at)
    run : (tree : ℕ) (later : List Flow) → rest ≡ Assign tree ∷ later → IsRest rest at

  -- an assignment that ends its block
  alone : (tree : ℕ) (rest : List Flow) (at : ℕ) → IsFrom (Assign tree ∷ rest) at → continues flow (at + 1) ≡ false → IsKept rest (at + 1) → IsRest (Assign tree ∷ rest) at
  alone tree rest at h c later = record {
    cost = slice_index costs tree;
    more = block_costs flow costs rest (at + 1);
    count = 1;
    are = rw c refl;
    some = omega arith;
    sum = let e = ap (place_cost costs) (here (Assign tree) rest at h) in omega (arith, e);
    assigns = λ k lt. (let z : at + k ≡ at = omega arith in ap (λ n. is_assign (slice_get flow n)) z ∙ ap is_assign (here (Assign tree) rest at h));
    inner = λ k lt some. absurd (omega arith);
    last = c;
    within = later.whole c;
  }

  -- an assignment in front of the rest of its block
  joined_rest : (tree : ℕ) (rest : List Flow) (at : ℕ) → IsFrom (Assign tree ∷ rest) at → continues flow (at + 1) ≡ true → IsRest rest (at + 1) → IsRest (Assign tree ∷ rest) at
  joined_rest tree rest at h c r = record {
    cost = slice_index costs tree + r.cost;
    more = r.more;
    count = suc r.count;
    are = rw c (ap (joined (slice_index costs tree)) r.are);
    some = omega arith;
    sum = let e = ap (place_cost costs) (here (Assign tree) rest at h) in let s = r.sum in omega (arith, e, s);
    assigns = assigns;
    inner = inner;
    last = ap (continues flow) (let z : at + suc r.count ≡ at + 1 + r.count = omega arith in z) ∙ r.last;
    within = subst (λ xs. SizesWithin xs r.more) (sym (same_behind (at + 1) none)) r.within;
  }
    where
      assigns : (k : ℕ) → k < suc r.count → is_assign (slice_get flow (at + k)) ≡ true
      assigns zero lt = ap (λ n. is_assign (slice_get flow n)) (let z : at + 0 ≡ at = omega arith in z) ∙ ap is_assign (here (Assign tree) rest at h)
      assigns (suc k) lt = ap (λ n. is_assign (slice_get flow n)) (let z : at + suc k ≡ at + 1 + k = omega arith in z) ∙ r.assigns k (omega arith)

      inner : (k : ℕ) → k < suc r.count → 0 < k → continues flow (at + k) ≡ true
      inner zero lt some = absurd (omega arith)
      inner (suc zero) lt some = c
      inner (suc (suc k)) lt some = ap (continues flow) (let z : at + suc (suc k) ≡ at + 1 + suc k = omega arith in z) ∙ r.inner (suc k) (omega arith) (omega arith)

      continued_none : (o : Option Flow) → is_assign o ≡ true → (b : Bool) → b ≡ true → place_blocks o b ≡ 0
      continued_none None e b t = absurd cc
      continued_none (Some (Assign x)) e b t = rw t refl
      continued_none (Some (Test x y z)) e b t = absurd cc
      continued_none (Some (Jump to)) e b t = absurd cc
      continued_none (Some End) e b t = absurd cc

      none : place_blocks (slice_get flow (at + 1)) (continues flow (at + 1)) ≡ 0
      none = continued_none (slice_get flow (at + 1)) (assign_there flow (at + 1) c) (continues flow (at + 1)) c

  -- a block goes on with an assignment alone
  goes_on : (tree : ℕ) (rest : List Flow) (at : ℕ) → IsFrom (Assign tree ∷ rest) at → IsKept rest (at + 1) → (b : Bool) → continues flow (at + 1) ≡ b → IsRest (Assign tree ∷ rest) at
  goes_on tree rest at h later false c = alone tree rest at h c later
  goes_on tree [] at h later true c =
      let a = assign_there flow (at + 1) c in
      let f : is_assign (slice_get flow (at + 1)) ≡ false = ap is_assign (sym (h.stand 1)) in absurd cc
  goes_on tree (Assign next ∷ rest) at h later true c = joined_rest tree (Assign next ∷ rest) at h c (later.run next rest refl)
  goes_on tree (Test x y z ∷ rest) at h later true c =
      let a = assign_there flow (at + 1) c in
      let f : is_assign (slice_get flow (at + 1)) ≡ false = ap is_assign (sym (h.stand 1)) in absurd cc
  goes_on tree (Jump to ∷ rest) at h later true c =
      let a = assign_there flow (at + 1) c in
      let f : is_assign (slice_get flow (at + 1)) ≡ false = ap is_assign (sym (h.stand 1)) in absurd cc
  goes_on tree (End ∷ rest) at h later true c =
      let a = assign_there flow (at + 1) c in
      let f : is_assign (slice_get flow (at + 1)) ≡ false = ap is_assign (sym (h.stand 1)) in absurd cc

  assign_kept : (tree : ℕ) (rest : List Flow) (at : ℕ) → IsFrom (Assign tree ∷ rest) at → IsKept rest (at + 1) → IsKept (Assign tree ∷ rest) at
  assign_kept tree rest at h later = record { whole = whole; run = λ other before e. r }
    where
      r : IsRest (Assign tree ∷ rest) at
      r = goes_on tree rest at h later (continues flow (at + 1)) refl

      whole : continues flow at ≡ false → SizesWithin (behind at) (block_costs flow costs (Assign tree ∷ rest) at)
      whole c =
          let place = here (Assign tree) rest at h in
          let lt = inside (Assign tree) rest at h in
          let block : IsAssignBlock flow at r.count = record { some = r.some; assigns = r.assigns; first = c; inner = r.inner; last = r.last } in
          let one : place_blocks (slice_get flow at) (continues flow at) ≡ 1 = (λ j. place_blocks (place j) (c j)) in
          let size = runs at r.count lt block in
          let sum = r.sum in
          subst (λ xs. SizesWithin xs (block_costs flow costs (Assign tree ∷ rest) at)) (sym (begun at lt one))
          (subst (SizesWithin (slice_index sizes (blocks_before flow at) ∷ behind (at + 1))) (sym r.are) (omega (arith, size, sum), r.within))

  test_kept : (tree when_one when_zero : ℕ) (rest : List Flow) (at : ℕ) → IsFrom (Test tree when_one when_zero ∷ rest) at → IsKept rest (at + 1) → IsKept (Test tree when_one when_zero ∷ rest) at
  test_kept tree when_one when_zero rest at h later = record { whole = whole; run = λ other before e. absurd cc }
    where
      whole : continues flow at ≡ false → SizesWithin (behind at) (block_costs flow costs (Test tree when_one when_zero ∷ rest) at)
      whole c =
          let place = here (Test tree when_one when_zero) rest at h in
          let lt = inside (Test tree when_one when_zero) rest at h in
          let one : place_blocks (slice_get flow at) (continues flow at) ≡ 1 = ap (λ o. place_blocks o (continues flow at)) place in
          let size = tests at tree when_one when_zero lt place in
          subst (λ xs. SizesWithin xs (block_costs flow costs (Test tree when_one when_zero ∷ rest) at)) (sym (begun at lt one))
          (omega (arith, size), later.whole (not_continued flow at (ap is_assign place)))

  kept : (rest : List Flow) (at : ℕ) → IsFrom rest at → IsKept rest at
  kept [] at h = record {
    whole = λ c. (let t = h.total in let e : at ≡ length flow = omega (arith, t) in
        subst (λ xs. SizesWithin xs []) (sym (drop_all sizes (blocks_before flow at) (ap (blocks_before flow) e ∙ sym long))) tt);
    run = λ tree later e. absurd cc;
  }
  kept (Assign tree ∷ rest) at h = assign_kept tree rest at h (kept rest (at + 1) (next_from (Assign tree) rest at h))
  kept (Test tree when_one when_zero ∷ rest) at h = test_kept tree when_one when_zero rest at h (kept rest (at + 1) (next_from (Test tree when_one when_zero) rest at h))
  kept (Jump to ∷ rest) at h = record {
    whole = λ c. (let place = here (Jump to) rest at h in
        subst (λ xs. SizesWithin xs (block_costs flow costs rest (at + 1))) (sym (same_behind at (ap (λ o. place_blocks o (continues flow at)) place)))
        ((kept rest (at + 1) (next_from (Jump to) rest at h)).whole (not_continued flow at (ap is_assign place))));
    run = λ tree later e. absurd cc;
  }
  kept (End ∷ rest) at h = record {
    whole = λ c. (let place = here End rest at h in
        subst (λ xs. SizesWithin xs (block_costs flow costs rest (at + 1))) (sym (same_behind at (ap (λ o. place_blocks o (continues flow at)) place)))
        ((kept rest (at + 1) (next_from End rest at h)).whole (not_continued flow at (ap is_assign place))));
    run = λ tree later e. absurd cc;
  }

  -- no block has more words than it costs
  pub sizes_within : SizesWithin sizes (block_costs flow costs flow 0)
  sizes_within =
      let nothing_before : continues flow 0 ≡ false = refl in
      (kept flow 0 (record { stand = λ j. ap (slice_get flow) (let z : j ≡ 0 + j = omega arith in z); total = omega arith })).whole nothing_before
