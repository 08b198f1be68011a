-- What each arm of a step keeps.
use Rattle.std.proofs.Common.{slice_set, slice_get, slice_index, inl, inr, if◌then◌else◌, ◌≡◌, ◌≢◌, ℕ, ◌+◌, ◌<◌, ◌==◌, Bool, true, false, List, [], ◌∷◌, ◌++◌, Some, None, length, take, sym, ◌∙◌, ap, arith, subst, refl, suc}
use Rattle.std.specs.List.{AllByRecursion}
use Rattle.std.proofs.lemmas.Bool.{cases_eq, eq-eqb, ne_eqb}
use Rattle.std.proofs.lemmas.List.{get_or-set_same, get_or-set_other, length-set, length_push, get_or_push}
use Rattle.net_model.specs.Order.{position_of}
use Rattle.net_model.specs.Depends.{Depends}
use Rattle.rec_bits.proofs.Lists.{all_weaker, slice_get_within, all_at, index_old}
use Rattle.rec_bits.proofs.Faults.{among_front, among_last}
use Rattle.net_model.specs.Depends.{Among}
use Rattle.net_check.specs.Inner.Graphs.{named_in, InRange}
use Rattle.net_check.specs.Inner.Walk.{stage_at, IsWalk, GoesOn}
use Rattle.net_check.specs.declared.walk.Stage.{Stage}
use Rattle.net_check.specs.declared.walk.Stage.TheVariants.{New, Open, Placed}
use Rattle.net_check.specs.declared.walk.Walk.{Walk}
use Rattle.net_check.proofs.Walks.{less_unplaced, eased, among_at, take_more, take_whole, among_parts, linked_front, linked_push, cycle, set_cases, lowered, opened}

-- places in an order with one more net
pick_old : (b : Bool) (p q l : ℕ) → (p < l → q ≡ p) → (if b then 0 else (p + 1)) < suc l → (if b then 0 else (q + 1)) ≡ (if b then 0 else (p + 1))
pick_old true p q l f h = refl
pick_old false p q l f h = ap (λ (k : ℕ). k + 1) (f (omega arith))

pub place_old : (xs : List ℕ) (x m : ℕ) → position_of xs m < length xs → position_of (xs ++ x ∷ []) m ≡ position_of xs m
place_old [] x m h = absurd (omega arith)
place_old (y ∷ ys) x m h = pick_old (y == m) (position_of ys m) (position_of (ys ++ x ∷ []) m) (length ys) (place_old ys x m) h

pick_end : (b : Bool) (p q l : ℕ) → ((if b then 0 else (p + 1)) < suc l → ⊥) → ((p < l → ⊥) → q ≡ l) → (if b then 0 else (q + 1)) ≡ suc l
pick_end true p q l h f = absurd (h (omega arith))
pick_end false p q l h f = let k : q ≡ l = f (λ i. h (omega arith)) in omega arith

pub place_end : (xs : List ℕ) (x : ℕ) → (position_of xs x < length xs → ⊥) → position_of (xs ++ x ∷ []) x ≡ length xs
place_end [] x h = rw (eq-eqb x x refl) refl
place_end (y ∷ ys) x h = pick_end (y == x) (position_of ys x) (position_of (ys ++ x ∷ []) x) (length ys) h (place_end ys x)

pick_other : (b : Bool) (p q l : ℕ) → (q < l + 1 → p < l) → (if b then 0 else (q + 1)) < suc l + 1 → (if b then 0 else (p + 1)) < suc l
pick_other true p q l f h = omega arith
pick_other false p q l f h = let k : p < l = f (omega arith) in omega arith

pub place_other : (xs : List ℕ) (x m : ℕ) → (x ≡ m → ⊥) → position_of (xs ++ x ∷ []) m < length xs + 1 → position_of xs m < length xs
place_other [] x m ne h = absurd (let k = rw (ne_eqb x m ne) at h in omega arith)
place_other (y ∷ ys) x m ne h = pick_other (y == m) (position_of ys m) (position_of (ys ++ x ∷ []) m) (length ys) (place_other ys x m ne) h

module _ (graph : List (List ℕ)) (range : InRange graph) (old : Walk) (top : ℕ) (w : IsWalk graph old.stages (old.path ++ top ∷ []) old.order) where
  inside : top < length graph
  inside = w.inside top (among_last top old.path)

  -- the top isn't open
  pub goes_off : ((k : ℕ) → stage_at old.stages top ≡ Open k → ⊥) → GoesOn graph (old.path ++ top ∷ []) old old
  goes_off shut = record {
    kept = record {
      long = w.long;
      placed = w.placed;
      first = w.first;
      falls = w.falls;
      seen = w.seen;
      kept = λ m k h. elim (among_parts m top old.path (w.kept m k h)) [
        | inl e ↦ absurd (shut k (ap (stage_at old.stages) (sym e) ∙ h))
        | inr a ↦ a
      ];
      linked = linked_front graph top old.path w.linked;
      inside = λ m h. w.inside m (among_front m top old.path h);
      range = w.range;
      whole = w.whole;
    };
    later = λ m h. h;
    less = let l : length (old.path ++ top ∷ []) ≡ length old.path + 1 = length_push old.path top in omega arith;
  }

  module _ (k : ℕ) (here : stage_at old.stages top ≡ Open k) where
    open_not_placed : stage_at old.stages top ≢ Placed
    open_not_placed h = cc (here, h)

    -- its next input is placed
    pub goes_seen : (net : ℕ) → slice_get (named_in graph top) k ≡ Some net → stage_at old.stages net ≡ Placed
        → (stages : List Stage) (path : List ℕ) → stages ≡ slice_set old.stages top (Open (k + 1)) → path ≡ old.path ++ top ∷ []
        → GoesOn graph (old.path ++ top ∷ []) old (record { stages = stages; path = path; order = old.order })
    goes_seen net at done stages path es ep = rw (es, ep) (record {
      kept = opened graph old.stages (old.path ++ top ∷ []) old.order w top inside (k + 1) (old.path ++ top ∷ []) open_not_placed
          (take_more _ _ k net at (w.seen top k here) done) (among_last top old.path) (λ m h. h) w.linked w.inside;
      later = λ m h. elim (set_cases old.stages top m (Open (k + 1)) (omega (arith, inside, w.long))) [
        | inl e ↦ absurd (cc (e.1, h))
        | inr e ↦ sym (e.1) ∙ h
      ];
      less =
          let short : k < length (named_in graph top) = slice_get_within _ k net at in
          let low = lowered graph old.stages top (Open (k + 1)) inside w.long (rw here (omega arith)) in
          omega (arith, low);
    })

    -- its next input is new
    pub goes_new : (net : ℕ) → slice_get (named_in graph top) k ≡ Some net → stage_at old.stages net ≡ New
        → (stages : List Stage) (path path2 : List ℕ) → stages ≡ slice_set old.stages net (Open 0) → path ≡ old.path ++ top ∷ [] → path2 ≡ path ++ net ∷ []
        → GoesOn graph (old.path ++ top ∷ []) old (record { stages = stages; path = path2; order = old.order })
    goes_new net at fresh stages path path2 es ep e2 = rw (es, e2, ep) (record {
      kept = opened graph old.stages (old.path ++ top ∷ []) old.order w net net_in 0 ((old.path ++ top ∷ []) ++ net ∷ []) (λ h. cc (fresh, h))
          tt (among_last net _) (λ m h. among_front m net _ h) (linked_push graph top net old.path w.linked (among_at _ k net at))
          (λ m h. elim (among_parts m net _ h) [ inl e ↦ subst (λ (x : ℕ). x < length graph) (sym e) net_in | inr a ↦ w.inside m a ]);
      later = λ m h. elim (set_cases old.stages net m (Open 0) (omega (arith, net_in, w.long))) [
        | inl e ↦ absurd (cc (e.1, h))
        | inr e ↦ sym (e.1) ∙ h
      ];
      less =
          let low = lowered graph old.stages net (Open 0) net_in w.long (rw fresh (omega arith)) in
          omega (arith, low, length_push (old.path ++ top ∷ []) net);
    })
      where
        net_in : net < length graph
        net_in = all_at (λ m. m < length graph) _ k net (range top) at

    -- all its inputs are placed
    module _ (at : slice_get (named_in graph top) k ≡ None) where
      in_stages : top < length old.stages
      in_stages = omega (arith, inside, w.long)

      absent : position_of old.order top < length old.order → ⊥
      absent h = open_not_placed (w.first top h)

      all_done : AllByRecursion (λ d. stage_at old.stages d ≡ Placed) (named_in graph top)
      all_done = take_whole _ _ k at (w.seen top k here)

      back : (m : ℕ) → (m ≡ top → ⊥) → stage_at (slice_set old.stages top Placed) m ≡ stage_at old.stages m
      back m ne = get_or-set_other old.stages top m Placed New ne

      forth : (m : ℕ) → stage_at old.stages m ≡ Placed → stage_at (slice_set old.stages top Placed) m ≡ Placed
      forth m h = elim (set_cases old.stages top m Placed in_stages) [ inl e ↦ e.1 | inr e ↦ e.1 ∙ h ]

      at_end : position_of (old.order ++ top ∷ []) top ≡ length old.order
      at_end = place_end old.order top absent

      still : (m : ℕ) → stage_at old.stages m ≡ Placed → position_of (old.order ++ top ∷ []) m ≡ position_of old.order m
      still m h = place_old old.order top m (w.placed m h)

      longer : length (old.order ++ top ∷ []) ≡ length old.order + 1
      longer = length_push old.order top

      placed : (m : ℕ) → stage_at (slice_set old.stages top Placed) m ≡ Placed → position_of (old.order ++ top ∷ []) m < length (old.order ++ top ∷ [])
      placed m h = elim (cases_eq m top) [
        | inl e ↦ rw (e, at_end, longer) (omega arith)
        | inr ne ↦ let d : stage_at old.stages m ≡ Placed = sym (back m ne) ∙ h in omega (arith, still m d, w.placed m d, longer)
      ]

      first : (m : ℕ) → position_of (old.order ++ top ∷ []) m < length (old.order ++ top ∷ []) → stage_at (slice_set old.stages top Placed) m ≡ Placed
      first m h = elim (cases_eq m top) [
        | inl e ↦ subst (λ (x : ℕ). stage_at (slice_set old.stages top Placed) x ≡ Placed) (sym e) (get_or-set_same old.stages top Placed New in_stages)
        | inr ne ↦ back m ne ∙ w.first m (place_other old.order top m (λ e. ne (sym e)) (omega (arith, h, longer)))
      ]

      falls : (m : ℕ) → stage_at (slice_set old.stages top Placed) m ≡ Placed
          → AllByRecursion (λ d. position_of (old.order ++ top ∷ []) d < position_of (old.order ++ top ∷ []) m) (named_in graph m)
      falls m h = elim (cases_eq m top) [
        | inl e ↦ rw e (all_weaker _ _ (λ d g. omega (arith, still d g, w.placed d g, at_end)) _ all_done)
        | inr ne ↦ let d : stage_at old.stages m ≡ Placed = sym (back m ne) ∙ h in
            all_weaker _ _ (λ x g. let l : position_of old.order x < length old.order = omega (arith, g, w.placed m d) in
            omega (arith, place_old old.order top x l, still m d, g)) _ (w.falls m d)
      ]

      seen : (m j : ℕ) → stage_at (slice_set old.stages top Placed) m ≡ Open j → AllByRecursion (λ d. stage_at (slice_set old.stages top Placed) d ≡ Placed) (take j (named_in graph m))
      seen m j h = elim (set_cases old.stages top m Placed in_stages) [
        | inl e ↦ absurd (cc (e.1, h))
        | inr e ↦ all_weaker _ _ forth _ (w.seen m j (sym (e.1) ∙ h))
      ]

      kept : (m j : ℕ) → stage_at (slice_set old.stages top Placed) m ≡ Open j → Among m old.path
      kept m j h = elim (set_cases old.stages top m Placed in_stages) [
        | inl e ↦ absurd (cc (e.1, h))
        | inr e ↦ elim (among_parts m top old.path (w.kept m j (sym (e.1) ∙ h))) [ inl i ↦ absurd (e.0 i) | inr a ↦ a ]
      ]

      ranged : (i : ℕ) → i < length (old.order ++ top ∷ []) → slice_index (old.order ++ top ∷ []) i < length graph
      ranged i h = elim (cases_eq i (length old.order)) [
        | inl e ↦ rw (e, get_or_push old.order top 0 (length old.order) refl) inside
        | inr ne ↦ let l : i < length old.order = omega (arith, h, longer) in rw (index_old old.order top i l) (w.range i l)
      ]

      pub goes_placed : (stages : List Stage) (order : List ℕ) → stages ≡ slice_set old.stages top Placed → order ≡ old.order ++ top ∷ []
          → GoesOn graph (old.path ++ top ∷ []) old (record { stages = stages; path = old.path; order = order })
      goes_placed stages order es eo = rw (es, eo) (record {
        kept = record {
          long = length-set old.stages top Placed ∙ w.long;
          placed = placed;
          first = first;
          falls = falls;
          seen = seen;
          kept = kept;
          linked = linked_front graph top old.path w.linked;
          inside = λ m h. w.inside m (among_front m top old.path h);
          range = ranged;
          whole = omega (arith, w.whole, longer, less_unplaced old.stages top in_stages open_not_placed, length-set old.stages top Placed);
        };
        later = λ m h. elim (set_cases old.stages top m Placed in_stages) [ inl e ↦ absurd (cc (e.1, h)) | inr e ↦ sym (e.1) ∙ h ];
        less = omega (arith, eased graph old.stages top, length_push old.path top);
      })

-- a net that is open is on a cycle with the top
pub open_cycle : (graph : List (List ℕ)) (old : Walk) (top : ℕ) → IsWalk graph old.stages (old.path ++ top ∷ []) old.order → (k net j : ℕ) → slice_get (named_in graph top) k ≡ Some net → stage_at old.stages net ≡ Open j → Depends (named_in graph) net net
open_cycle graph old top w k net j at is = cycle graph top net old.path w.linked (w.kept net j is) (among_at _ k net at)
