-- A net is left, and its component with it where it begins with the net.
use Rattle.std.proofs.Common.{slice_set, slice_index, inl, inr, ◌≡◌, ◌≢◌, ◌⊎◌, ◌↔◌, IsTrue, Bool, true, false, ℕ, ◌+◌, ◌*◌, ◌<◌, ◌≤◌, List, [], ◌∷◌, ◌++◌, length, take, sym, ◌∙◌, ap, arith, subst, refl, suc, length-take}
use Rattle.std.specs.List.{AllByRecursion}
use Rattle.std.proofs.lemmas.Bool.{cases_lt, cases_eq}
use Rattle.std.proofs.lemmas.List.{length-set, length_push}
use Rattle.net_model.specs.Depends.{Among, Depends, direct, via}
use Rattle.rec_bits.proofs.Lists.{all_weaker, slice_get_past}
use Rattle.rec_bits.proofs.Faults.{among_front, among_last}
use Rattle.net_model.proofs.Acyclic.{all_among}
use Rattle.net_check.specs.Inner.Graphs.{named_in}
use Rattle.net_check.specs.Inner.Components.{mark_at, MetAt, IsDone, IsPathTo, Uncut, SeenFrom, IsSearch, IsMerged, IsIndexed, IsComplete, IsCompleting, Rising, Later, work}
use Rattle.net_check.specs.declared.cycle.Mark.{Mark}
use Rattle.net_check.specs.declared.cycle.Mark.TheVariants.{New, Met, Done}
use Rattle.net_check.specs.declared.cycle.Search.{Search}
use Rattle.net_check.proofs.Walks.{among_parts, take_whole}
use Rattle.net_check.proofs.Marks.{set_mark, marked_inside, one_index, eased, depends_on, done_closed, rising_parts, climbs_parts, climbs_as, take_front, take_index}
use Rattle.net_check.proofs.Joins.{top_high, top_at}

-- ---- components are joined

pub merged_here : (at : ℕ) (old xs : List ℕ) (x : ℕ) → Rising (xs ++ x ∷ []) → ((s : ℕ) → Among s (xs ++ x ∷ []) → Among s old) → ((s : ℕ) → Among s old → s ≤ at → Among s (xs ++ x ∷ [])) → x ≤ at → IsMerged at old (xs ++ x ∷ [])
merged_here at old xs x rising from kept h = record {
  from = from;
  kept = kept;
  low = λ s a. elim (among_parts s x xs a) [ inl e ↦ omega (arith, e, h) | inr b ↦ let k : s < x = (rising_parts xs x rising).1 s b in omega (arith, k, h) ];
  rising = rising;
}

pub still_kept : (at : ℕ) (old xs : List ℕ) (x : ℕ) → ((s : ℕ) → Among s old → s ≤ at → Among s (xs ++ x ∷ [])) → at < x → (s : ℕ) → Among s old → s ≤ at → Among s xs
still_kept at old xs x kept h s a l = elim (among_parts s x xs (kept s a l)) [ inl e ↦ absurd (omega (arith, e, h, l)) | inr b ↦ b ]

-- ---- a component is completed, from its last net on

module _ (graph : List (List ℕ)) (index : ℕ) (told : Bool) (old now : Search) (i : IsIndexed old.marks old.met) (c : IsCompleting graph index told old now) (ms : List ℕ) (net : ℕ) (popped : now.met ≡ ms ++ net ∷ []) (more : index < length now.met) where
  now_long : length now.met ≡ length ms + 1
  now_long = ap length popped ∙ length_push ms net

  front : (ms ≡ take (length ms) old.met) × ((length ms < length old.met) × (slice_index old.met (length ms) ≡ net))
  front =
      let e : length now.met ≡ suc (length ms) = omega (arith, now_long) in
      take_front ms net old.met (sym popped ∙ c.met ∙ ap (λ (k : ℕ). take k old.met) e)

  net_at : MetAt old.marks net (length ms)
  net_at = subst (λ (m : ℕ). MetAt old.marks m (length ms)) front.1.1 (i.at (length ms) front.1.0)

  in_marks : net < length now.marks
  in_marks =
      let k : net < length old.marks = marked_inside old.marks net (λ e. let b = net_at.is in cc (b, e)) in
      omega (arith, k, c.long)

  pub pop_inside : net < length now.marks
  pop_inside = in_marks

  new_inside : (m j : ℕ) → MetAt old.marks m j → length ms ≤ j → mark_at (slice_set now.marks net (Done told)) m ≡ Done told
  new_inside m j a h = elim (set_mark now.marks net m (Done told) in_marks) [
    | inl e ↦ e.1
    | inr e ↦ e.1 ∙ elim (cases_eq j (length ms)) [
      | inl f ↦ absurd (e.0 (sym (i.back m j a).1 ∙ ap (slice_index old.met) f ∙ front.1.1))
      | inr ne ↦ c.inside m j a (omega (arith, h, ne, now_long))
    ]
  ]

  new_outside : (m : ℕ) → ((j : ℕ) → MetAt old.marks m j → j < length ms) → mark_at (slice_set now.marks net (Done told)) m ≡ mark_at old.marks m
  new_outside m h = elim (set_mark now.marks net m (Done told) in_marks) [
    | inl e ↦ absurd (let k : length ms < length ms = h (length ms) (subst (λ (x : ℕ). MetAt old.marks x (length ms)) (sym e.0) net_at) in omega (arith, k))
    | inr e ↦ e.1 ∙ c.outside m (λ j a. let k : j < length ms = h j a in omega (arith, k, now_long))
  ]

  pub one_completed : (marks : List Mark) → marks ≡ slice_set now.marks net (Done told) → IsCompleting graph index told old (record { marks = marks; met = ms; starts = now.starts; path = now.path })
  one_completed marks em = rw em (record {
    long = length-set now.marks net (Done told) ∙ c.long;
    within = omega (arith, more, now_long);
    met = front.0;
    starts = c.starts;
    path = c.path;
    inside = new_inside;
    outside = new_outside;
    eased = (let k : work graph (slice_set now.marks net (Done told)) ≤ work graph now.marks = eased graph now.marks net told in omega (arith, k, c.eased));
  })

take_all : (xs : List ℕ) → take (length xs) xs ≡ xs
take_all [] = refl
take_all (x ∷ xs) = ap (λ (ys : List ℕ). x ∷ ys) (take_all xs)

pub start_completing : (graph : List (List ℕ)) (index : ℕ) (told : Bool) (old : Search) → IsIndexed old.marks old.met → index ≤ length old.met → IsCompleting graph index told old old
start_completing graph index told old i h = record {
  long = refl;
  within = h;
  met = sym (take_all old.met);
  starts = refl;
  path = refl;
  inside = λ m j a l. absurd (omega (arith, (i.back m j a).0, l));
  outside = λ m k. refl;
  eased = omega arith;
}

pub end_completing : (graph : List (List ℕ)) (index : ℕ) (told : Bool) (old now : Search) → IsCompleting graph index told old now → length now.met ≤ index → IsComplete graph index told old now
end_completing graph index told old now c h =
    let e : length now.met ≡ index = omega (arith, h, c.within) in
    record {
      long = c.long;
      met = c.met ∙ ap (λ (k : ℕ). take k old.met) e;
      starts = c.starts;
      path = c.path;
      inside = λ m j a l. c.inside m j a (omega (arith, e, l));
      outside = λ m k. c.outside m (λ j a. let g : j < index = k j a in omega (arith, e, g));
      eased = c.eased;
    }

-- ---- the last net of the path is left

module _ (graph : List (List ℕ)) (marks : List Mark) (met starts path : List ℕ) (top : ℕ) (w : IsSearch graph marks met starts (path ++ top ∷ [])) (index place : ℕ) (here : mark_at marks top ≡ Met index place) (whole : length (named_in graph top) ≤ place) where
  top_met : MetAt marks top index
  top_met = record { place = place; is = here }

  -- a component that doesn't begin with it begins with a net before it
  before : (s : ℕ) → Among s starts → s ≢ index → Among (slice_index met s) path
  before s a ne = elim (among_parts (slice_index met s) top path (w.begun s a)) [
    | inl e ↦ absurd (ne (one_index marks top s index (subst (λ (m : ℕ). MetAt marks m s) e (w.at s (w.low s a))) top_met))
    | inr p ↦ p
  ]

  left_ended : (m i k : ℕ) → mark_at marks m ≡ Met i k → Among m path ⊎ (length (named_in graph m) ≤ k)
  left_ended m i k e = elim (w.ended m i k e) [
    | inr h ↦ inr h
    | inl a ↦ elim (among_parts m top path a) [
      | inr p ↦ inl p
      | inl f ↦
          let g : Met i k ≡ Met index place = sym e ∙ ap (mark_at marks) f ∙ here in
          let j : k ≡ place = cc g in
          inr (rw f (omega (arith, whole, j)))
    ]
  ]

  pub left_kept : (Among index starts → ⊥) → IsSearch graph marks met starts path
  left_kept none = record {
    long = w.long;
    at = w.at;
    back = w.back;
    joined = w.joined;
    seen = w.seen;
    ended = left_ended;
    rising = w.rising;
    low = w.low;
    begun = λ s a. before s a (λ e. none (subst (λ (x : ℕ). Among x starts) e a));
    based = w.based;
    climbs = (climbs_parts marks path top w.climbs).0;
    on_path = λ m a. w.on_path m (among_front m top path a);
    closed = w.closed;
    cyclic = w.cyclic;
    acyclic = w.acyclic;
  }

  -- no component begins with it where the last one doesn't
  pub not_begun : (xs : List ℕ) (x : ℕ) → starts ≡ xs ++ x ∷ [] → x ≢ index → Among index starts → ⊥
  not_begun xs x e ne a = elim (among_parts index x xs (subst (Among index) e a)) [
    | inl f ↦ ne (sym f)
    | inr b ↦
        let k : index < x = (rising_parts xs x (subst Rising e w.rising)).1 index b in
        let l : x ≤ index = top_high graph marks met starts path top w index top_met x (subst (Among x) (sym e) (among_last x xs)) in
        omega (arith, k, l)
  ]

  -- its component begins with it
  module _ (xs : List ℕ) (begun : starts ≡ xs ++ index ∷ []) (told : Bool) (exact : IsTrue told ↔ ((index + 1 < length met) ⊎ Among top (named_in graph top))) (old new : Search) (om : old.marks ≡ marks) (on : old.met ≡ met) (os : old.starts ≡ xs) (op : old.path ≡ path) (c : IsComplete graph index told old new) where
    high : (s : ℕ) → Among s starts → s ≤ index
    high = top_high graph marks met starts path top w index top_met

    inside : (m i : ℕ) → MetAt marks m i → index ≤ i → mark_at new.marks m ≡ Done told
    inside m i a = c.inside m i (subst (λ (x : List Mark). MetAt x m i) (sym om) a)

    outside : (m : ℕ) → ((i : ℕ) → MetAt marks m i → i < index) → mark_at new.marks m ≡ mark_at marks m
    outside m h = c.outside m (λ i a. h i (subst (λ (x : List Mark). MetAt x m i) om a)) ∙ ap (λ (x : List Mark). mark_at x m) om

    done_outside : (m : ℕ) (t : Bool) → mark_at marks m ≡ Done t → mark_at new.marks m ≡ Done t
    done_outside m t e = outside m (λ i a. absurd (let b = a.is in cc)) ∙ e

    done_forth : (m : ℕ) → IsDone marks m → IsDone new.marks m
    done_forth m d = record { told = d.told; is = done_outside m d.told d.is }

    -- a net that is met keeps its index, or its component is complete
    met_cases : (m i : ℕ) → MetAt marks m i → ((i < index) × (mark_at new.marks m ≡ mark_at marks m)) ⊎ ((index ≤ i) × (mark_at new.marks m ≡ Done told))
    met_cases m i a = elim (cases_lt i index) [
      | inl l ↦ inl (l, outside m (λ j b. let e : j ≡ i = one_index marks m j i b a in omega (arith, e, l)))
      | inr g ↦ inr (g, inside m i a g)
    ]

    forth : (m i : ℕ) → i < index → MetAt marks m i → MetAt new.marks m i
    forth m i l a = elim (met_cases m i a) [ inl e ↦ record { place = a.place; is = e.1 ∙ a.is } | inr e ↦ absurd (omega (arith, l, e.0)) ]

    -- what is met was met below the index
    by_mark : (m i k : ℕ) (s : Mark) → mark_at marks m ≡ s → mark_at new.marks m ≡ Met i k → (mark_at marks m ≡ Met i k) × (i < index)
    by_mark m i k New e h = let f = outside m (λ j a. absurd (let b = a.is in cc)) in absurd (cc (e, f, h))
    by_mark m i k (Done t) e h = let f = done_outside m t e in absurd (cc (f, h))
    by_mark m i k (Met j l) e h = elim (met_cases m j (record { place = l; is = e })) [
      | inl f ↦
          let g : mark_at marks m ≡ Met i k = sym f.1 ∙ h in
          let o : j ≡ i = one_index marks m j i (record { place = l; is = e }) (record { place = k; is = g }) in
          (g, omega (arith, o, f.0))
      | inr f ↦ absurd (let x = f.1 in cc)
    ]

    back : (m i k : ℕ) → mark_at new.marks m ≡ Met i k → (mark_at marks m ≡ Met i k) × (i < index)
    back m i k h = by_mark m i k (mark_at marks m) refl h

    -- what is done was done, or is of the component
    by_done : (m : ℕ) (t : Bool) (s : Mark) → mark_at marks m ≡ s → mark_at new.marks m ≡ Done t → (mark_at marks m ≡ Done t) ⊎ ((i : ℕ) × MetAt marks m i × (index ≤ i) × (told ≡ t))
    by_done m t New e h = let f = outside m (λ j a. absurd (let b = a.is in cc)) in absurd (cc (e, f, h))
    by_done m t (Done u) e h = inl (sym (outside m (λ j a. absurd (let b = a.is in cc))) ∙ h)
    by_done m t (Met j l) e h = elim (met_cases m j (record { place = l; is = e })) [
      | inl f ↦ absurd (let x = f.1 in cc)
      | inr f ↦ inr (j, record { place = l; is = e }, f.0, cc (f.1, h))
    ]

    done_cases : (m : ℕ) (t : Bool) → mark_at new.marks m ≡ Done t → (mark_at marks m ≡ Done t) ⊎ ((i : ℕ) × MetAt marks m i × (index ≤ i) × (told ≡ t))
    done_cases m t h = by_done m t (mark_at marks m) refl h

    in_met : index < length met
    in_met = (top_at graph marks met starts path top w index top_met).0

    shorter : length (take index met) ≡ index
    shorter = simp length-take (omega (arith, in_met))

    still : (s : ℕ) → Among s xs → Among s starts
    still s a = subst (Among s) (sym begun) (among_front s index xs a)

    lower : (s : ℕ) → Among s xs → s < index
    lower s a = (rising_parts xs index (subst Rising begun w.rising)).1 s a

    more_uncut : (p q : ℕ) → p < index → Uncut xs p q → Uncut starts p q
    more_uncut p q l u s a = elim (among_parts s index xs (subst (Among s) begun a)) [ inl e ↦ inr (omega (arith, e, l)) | inr b ↦ u s b ]

    fewer_uncut : (p q : ℕ) → Uncut starts p q → Uncut xs p q
    fewer_uncut p q u s a = u s (still s a)

    new_seen : (i d : ℕ) → SeenFrom marks starts i d → SeenFrom new.marks xs i d
    new_seen i d (inl h) = inl (done_forth d h)
    new_seen i d (inr h) = elim (met_cases d h.0 h.1) [
      | inl e ↦ inr (h.0, forth d h.0 e.0 h.1, fewer_uncut i h.0 h.2)
      | inr e ↦ inl (record { told = told; is = e.1 })
    ]

    -- a net of the component names nets of complete components alone
    part_closed : (m i : ℕ) → MetAt marks m i → index ≤ i → AllByRecursion (IsDone new.marks) (named_in graph m)
    part_closed m i a g =
        all_weaker _ _ (λ d h. elim h [
          | inl x ↦ done_forth d x
          | inr x ↦ elim (x.2 index (subst (Among index) (sym begun) (among_last index xs))) [
            | inl y ↦ record { told = told; is = inside d x.0 x.1 y }
            | inr y ↦ absurd (omega (arith, y, g))
          ]
        ]) _ (take_whole (SeenFrom marks starts i) _ a.place (slice_get_past _ _ seen_all) (w.seen m i a.place a.is))
      where
        seen_all : length (named_in graph m) ≤ a.place
        seen_all = elim (w.ended m i a.place a.is) [
          | inr h ↦ h
          | inl p ↦ elim (among_parts m top path p) [
            | inl e ↦
                let f : Met i a.place ≡ Met index place = sym a.is ∙ ap (mark_at marks) e ∙ here in
                let k : a.place ≡ place = cc f in
                rw e (omega (arith, whole, k))
            | inr q ↦ let l : i < index = (climbs_parts marks path top w.climbs).1 m q i index a top_met in absurd (omega (arith, l, g))
          ]
        ]

    new_closed : (m : ℕ) → IsDone new.marks m → AllByRecursion (IsDone new.marks) (named_in graph m)
    new_closed m d = elim (done_cases m d.told d.is) [
      | inl e ↦ all_weaker _ _ done_forth _ (w.closed m (record { told = d.told; is = e }))
      | inr e ↦ part_closed m e.0 e.1 e.2
    ]

    -- in a component of two nets or more each depends on itself
    mutual_cycle : (m i p : ℕ) → MetAt marks m i → index ≤ i → p ≢ i → index ≤ p → p < length met → Depends (named_in graph) m m
    mutual_cycle m i p a g ne h l =
        let b = w.back m i a in
        let there : IsPathTo graph m (slice_index met p) = subst (λ (x : ℕ). IsPathTo graph x (slice_index met p)) b.1 (w.joined i p b.0 l (λ s x. inl (omega (arith, high s x, h)))) in
        let again : IsPathTo graph (slice_index met p) m = subst (IsPathTo graph (slice_index met p)) b.1 (w.joined p i l b.0 (λ s x. inl (omega (arith, high s x, g)))) in
        elim there [
          | inl e ↦ absurd (ne (sym (one_index marks m i p a (subst (λ (x : ℕ). MetAt marks x p) (sym e) (w.at p l)))))
          | inr d ↦ elim again [
            | inl e ↦ absurd (ne (sym (one_index marks m i p a (subst (λ (x : ℕ). MetAt marks x p) e (w.at p l)))))
            | inr f ↦ depends_on graph m (slice_index met p) m d f
          ]
        ]

    is_top : (m i : ℕ) → MetAt marks m i → i ≡ index → m ≡ top
    is_top m i a e = sym (w.back m i a).1 ∙ ap (slice_index met) e ∙ (top_at graph marks met starts path top w index top_met).1

    part_cyclic : (m i : ℕ) → MetAt marks m i → index ≤ i → told ≡ true → Depends (named_in graph) m m
    part_cyclic m i a g t = elim (exact.0 t) [
      | inl l ↦ elim (cases_eq i index) [
        | inl e ↦ mutual_cycle m i (index + 1) a g (omega (arith, e)) (omega arith) l
        | inr ne ↦ mutual_cycle m i index a g (λ e. ne (sym e)) (omega arith) in_met
      ]
      | inr n ↦ elim (cases_eq i index) [
        | inl e ↦ let f : m ≡ top = is_top m i a e in rw f (direct n)
        | inr ne ↦ mutual_cycle m i index a g (λ e. ne (sym e)) (omega arith) in_met
      ]
    ]

    part_acyclic : (m i : ℕ) → MetAt marks m i → index ≤ i → told ≡ false → Depends (named_in graph) m m → ⊥
    part_acyclic m i a g t d =
        let e : m ≡ top = is_top m i a (elim (cases_lt (index + 1) (length met)) [
          | inl l ↦ absurd (cc (t, exact.1 (inl l)))
          | inr k ↦ omega (arith, k, (w.back m i a).0, g)
        ]) in
        no_loop (rw e at d)
      where
        single : length met ≤ index + 1
        single = elim (cases_lt (index + 1) (length met)) [ inl l ↦ absurd (cc (t, exact.1 (inl l))) | inr k ↦ k ]

        named_done : AllByRecursion (IsDone marks) (named_in graph top)
        named_done =
            all_named (named_in graph top) (λ x h. h) (take_whole (SeenFrom marks starts index) _ place (slice_get_past _ _ whole) (w.seen top index place here))
          where
            all_named : (ms : List ℕ) → ((x : ℕ) → Among x ms → Among x (named_in graph top)) → AllByRecursion (SeenFrom marks starts index) ms → AllByRecursion (IsDone marks) ms
            all_named [] f h = tt
            all_named (x ∷ ys) f h = (
              elim h.0 [
                | inl y ↦ y
                | inr y ↦ elim (y.2 index (subst (Among index) (sym begun) (among_last index xs))) [
                  | inr z ↦ absurd (omega (arith, z))
                  | inl z ↦
                      let l = w.back x y.0 y.1 in
                      let j : y.0 ≡ index = omega (arith, l.0, z, single) in
                      absurd (cc (t, exact.1 (inr (subst (λ (v : ℕ). Among v (named_in graph top)) (is_top x y.0 y.1 j) (f x (inl refl))))))
                ]
              ],
              all_named ys (λ v k. f v (inr k)) h.1,
            )

        not_done : IsDone marks top → ⊥
        not_done k = let b = k.is in let f = here in cc

        no_loop : Depends (named_in graph) top top → ⊥
        no_loop (direct h) = not_done (all_among (IsDone marks) top _ named_done h)
        no_loop (via {b = b} h k) = not_done (done_closed graph marks w.closed b top (all_among (IsDone marks) b _ named_done h) k)

    new_cyclic : (m : ℕ) → mark_at new.marks m ≡ Done true → Depends (named_in graph) m m
    new_cyclic m h = elim (done_cases m true h) [ inl e ↦ w.cyclic m e | inr e ↦ part_cyclic m e.0 e.1 e.2 e.3 ]

    new_acyclic : (m : ℕ) → mark_at new.marks m ≡ Done false → Depends (named_in graph) m m → ⊥
    new_acyclic m h = elim (done_cases m false h) [ inl e ↦ w.acyclic m e | inr e ↦ part_acyclic m e.0 e.1 e.2 e.3 ]

    kept_part : IsSearch graph new.marks (take index met) xs path
    kept_part = record {
      long = c.long ∙ ap length om ∙ w.long;
      at = λ i h. (let l : i < index = omega (arith, h, shorter) in rw (take_index index met i l) (forth _ i l (w.at i (omega (arith, l, in_met)))));
      back = λ m i a. (let k = back m i a.place a.is in (omega (arith, k.1, shorter), take_index index met i k.1 ∙ (w.back m i (record { place = a.place; is = k.0 })).1));
      joined = λ p q hp hq u. (let lp : p < index = omega (arith, hp, shorter) in let lq : q < index = omega (arith, hq, shorter) in rw (take_index index met p lp, take_index index met q lq) (w.joined p q (omega (arith, lp, in_met)) (omega (arith, lq, in_met)) (more_uncut p q lp u)));
      seen = λ m i k h. all_weaker _ _ (new_seen i) _ (w.seen m i k (back m i k h).0);
      ended = λ m i k h. left_ended m i k (back m i k h).0;
      rising = (rising_parts xs index (subst Rising begun w.rising)).0;
      low = λ s a. omega (arith, lower s a, shorter);
      begun = λ s a. rw (take_index index met s (lower s a)) (before s (still s a) (λ e. (let l : s < index = lower s a in absurd (omega (arith, e, l)))));
      based = λ i h. (let l : i < index = omega (arith, h, shorter) in let b = w.based i (omega (arith, l, in_met)) in (b.0, elim (among_parts b.0 index xs (subst (Among b.0) begun b.1)) [ inl e ↦ absurd (omega (arith, e, b.2, l)) | inr a ↦ a ], b.2));
      climbs = climbs_as marks new.marks path (λ y i h a. record { place = a.place; is = (back y i a.place a.is).0 }) (climbs_parts marks path top w.climbs).0;
      on_path = λ m a. (let o = w.on_path m (among_front m top path a) in (o.0, forth m o.0 ((climbs_parts marks path top w.climbs).1 m a o.0 index o.1 top_met) o.1));
      closed = new_closed;
      cyclic = new_cyclic;
      acyclic = new_acyclic;
    }

    new_later : Later marks new.marks
    new_later m h = by_new (mark_at marks m) refl
      where
        by_new : (s : Mark) → mark_at marks m ≡ s → mark_at marks m ≡ New
        by_new New e = e
        by_new (Done t) e = absurd (let f = done_outside m t e in cc)
        by_new (Met i k) e = elim (met_cases m i (record { place = k; is = e })) [ inl f ↦ absurd (let x = f.1 in cc) | inr f ↦ absurd (let x = f.1 in cc) ]

    pub part_left : IsSearch graph new.marks new.met new.starts new.path
    part_left = rw (c.met, c.starts, c.path, on, os, op) kept_part

    pub part_later : Later marks new.marks
    part_later = new_later

    pub part_less : 2 * work graph new.marks + length new.path < 2 * work graph marks + length (path ++ top ∷ [])
    part_less =
        let k : work graph new.marks ≤ work graph marks = rw om at c.eased in
        let p : length new.path ≡ length path = ap length (c.path ∙ op) in
        omega (arith, k, p, length_push path top)
