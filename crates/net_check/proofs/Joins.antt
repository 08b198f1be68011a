-- Components are joined, and a net goes on to the next one that it names.
use Rattle.std.proofs.Common.{slice_set, slice_get, slice_index, inl, inr, ◌≡◌, ◌≢◌, ◌⊎◌, Bool, ℕ, ◌+◌, ◌<◌, ◌≤◌, List, [], ◌∷◌, ◌++◌, Some, length, take, sym, ◌∙◌, ap, arith, subst, refl}
use Rattle.std.specs.List.{AllByRecursion}
use Rattle.std.proofs.lemmas.Bool.{cases_lt, cases_eq}
use Rattle.std.proofs.lemmas.List.{length-set}
use Rattle.net_model.specs.Depends.{Among, direct}
use Rattle.rec_bits.proofs.Lists.{all_weaker, slice_get_within}
use Rattle.rec_bits.proofs.Faults.{among_last}
use Rattle.net_check.specs.Inner.Graphs.{named_in}
use Rattle.net_check.specs.Inner.Components.{mark_at, MetAt, IsDone, IsPathTo, Uncut, SeenFrom, IsSearch, IsMerged, Later, work}
use Rattle.net_check.specs.declared.cycle.Mark.{Mark}
use Rattle.net_check.specs.declared.cycle.Mark.TheVariants.{New, Met, Done}
use Rattle.net_check.proofs.Walks.{among_parts, take_more}
use Rattle.net_check.proofs.Marks.{set_mark, marked_inside, one_index, reach_depends, depends_reach, cut_cases, climbs_parts, climbs_as, lowered}

module _ (graph : List (List ℕ)) (marks : List Mark) (met starts path : List ℕ) (top : ℕ) (w : IsSearch graph marks met starts (path ++ top ∷ [])) (index : ℕ) (here : MetAt marks top index) where
  -- no component begins behind the last net of the path
  pub top_high : (s : ℕ) → Among s starts → s ≤ index
  top_high s h =
      let a : MetAt marks (slice_index met s) s = w.at s (w.low s h) in
      elim (among_parts (slice_index met s) top path (w.begun s h)) [
        | inl e ↦ let k : s ≡ index = one_index marks top s index (subst (λ (m : ℕ). MetAt marks m s) e a) here in omega (arith, k)
        | inr p ↦ let l : s < index = (climbs_parts marks path top w.climbs).1 _ p s index a here in omega (arith, l)
      ]

  pub top_at : (index < length met) × (slice_index met index ≡ top)
  top_at = w.back top index here

  -- all that is met reaches it
  pub to_top : (p : ℕ) → p < length met → IsPathTo graph (slice_index met p) top
  to_top p l = subst (IsPathTo graph (slice_index met p)) top_at.1 (w.joined p index l top_at.0 (λ s h. inl (top_high s h)))

  -- it names a net that is met at a place: the components behind it are joined
  module _ (net at : ℕ) (names : Among net (named_in graph top)) (there : MetAt marks net at) (starts2 : List ℕ) (m : IsMerged at starts starts2) where
    net_at : (at < length met) × (slice_index met at ≡ net)
    net_at = w.back net at there

    still : (i j : ℕ) → Uncut starts i j → Uncut starts2 i j
    still i j u s h = u s (m.from s h)

    round : (p q s : ℕ) → p < length met → q < length met → Uncut starts2 p q → Among s starts → q < s → s ≤ p → IsPathTo graph (slice_index met p) (slice_index met q)
    round p q s lp lq u h low high =
        inr (reach_depends graph _ top _ (to_top p lp)
        (depends_reach graph top net _ (direct names)
        (subst (λ (x : ℕ). IsPathTo graph x (slice_index met q)) net_at.1 (w.joined at q net_at.0 lq free))))
      where
        behind : at < s
        behind = elim (cases_lt at s) [
          | inl l ↦ l
          | inr g ↦ elim (u s (m.kept s h g)) [ inl a ↦ absurd (omega (arith, a, low)) | inr b ↦ absurd (omega (arith, b, high)) ]
        ]

        free : Uncut starts at q
        free x a = elim (cases_lt at x) [
          | inl l ↦ inr l
          | inr g ↦ elim (u x (m.kept x a g)) [ inl b ↦ inl b | inr b ↦ absurd (omega (arith, b, g, behind, high)) ]
        ]

    new_joined : (p q : ℕ) → p < length met → q < length met → Uncut starts2 p q → IsPathTo graph (slice_index met p) (slice_index met q)
    new_joined p q lp lq u = elim (cut_cases starts p q) [
      | inl free ↦ w.joined p q lp lq free
      | inr c ↦ round p q c.0 lp lq u c.1 c.2 c.3
    ]

    new_based : (i : ℕ) → i < length met → (s : ℕ) × Among s starts2 × (s ≤ i)
    new_based i l =
        let b = w.based i l in
        elim (cases_lt at b.0) [
          | inr g ↦ (b.0, m.kept b.0 b.1 g, b.2)
          | inl h ↦
              let z = w.based at net_at.0 in
              (z.0, m.kept z.0 z.1 z.2, omega (arith, z.2, h, b.2))
        ]

    pub joined_kept : IsSearch graph marks met starts2 (path ++ top ∷ [])
    joined_kept = record {
      long = w.long;
      at = w.at;
      back = w.back;
      joined = new_joined;
      seen = λ x i k e. all_weaker _ _ (λ d h. elim h [ inl y ↦ inl y | inr y ↦ inr (y.0, y.1, still i y.0 y.2) ]) _ (w.seen x i k e);
      ended = w.ended;
      rising = m.rising;
      low = λ s h. w.low s (m.from s h);
      begun = λ s h. w.begun s (m.from s h);
      based = new_based;
      climbs = w.climbs;
      on_path = w.on_path;
      closed = w.closed;
      cyclic = w.cyclic;
      acyclic = w.acyclic;
    }

    pub joined_seen : SeenFrom marks starts2 index net
    joined_seen = inr (at, there, λ s h. inl (m.low s h))

-- the last net of the path goes on
module _ (graph : List (List ℕ)) (marks : List Mark) (met starts path : List ℕ) (top : ℕ) (w : IsSearch graph marks met starts (path ++ top ∷ [])) (index place : ℕ) (here : mark_at marks top ≡ Met index place) (net : ℕ) (is : slice_get (named_in graph top) place ≡ Some net) (done : SeenFrom marks starts index net) where
  abbrev set : List Mark
  set = slice_set marks top (Met index (place + 1))

  in_marks : top < length marks
  in_marks = marked_inside marks top (λ e. cc (here, e))

  same : (m : ℕ) → m ≢ top → mark_at set m ≡ mark_at marks m
  same m ne = elim (set_mark marks top m (Met index (place + 1)) in_marks) [ inl e ↦ absurd (ne e.0) | inr e ↦ e.1 ]

  at_top : mark_at set top ≡ Met index (place + 1)
  at_top = elim (set_mark marks top top (Met index (place + 1)) in_marks) [ inl e ↦ e.1 | inr e ↦ absurd (e.0 refl) ]

  forth : (m i : ℕ) → MetAt marks m i → MetAt set m i
  forth m i a = elim (cases_eq m top) [
    | inl e ↦
        let f : Met i a.place ≡ Met index place = sym a.is ∙ ap (mark_at marks) e ∙ here in
        let g : i ≡ index = cc f in
        record { place = place + 1; is = rw (e, g) at_top }
    | inr ne ↦ record { place = a.place; is = same m ne ∙ a.is }
  ]

  back : (m i : ℕ) → MetAt set m i → MetAt marks m i
  back m i a = elim (cases_eq m top) [
    | inl e ↦
        let f : Met i a.place ≡ Met index (place + 1) = sym a.is ∙ ap (mark_at set) e ∙ at_top in
        let g : i ≡ index = cc f in
        record { place = place; is = rw (e, g) here }
    | inr ne ↦ record { place = a.place; is = sym (same m ne) ∙ a.is }
  ]

  done_ne : (m : ℕ) (told : Bool) → mark_at set m ≡ Done told → m ≢ top
  done_ne m told d e = let f = ap (mark_at set) e in let h = at_top in cc

  old_ne : (m : ℕ) → IsDone marks m → m ≢ top
  old_ne m d e = let b = d.is in let f = ap (mark_at marks) e in cc

  done_forth : (m : ℕ) → IsDone marks m → IsDone set m
  done_forth m d = record { told = d.told; is = same m (old_ne m d) ∙ d.is }

  seen_forth : (i d : ℕ) → SeenFrom marks starts i d → SeenFrom set starts i d
  seen_forth i d (inl h) = inl (done_forth d h)
  seen_forth i d (inr h) = inr (h.0, forth d h.0 h.1, h.2)

  new_seen : (m i k : ℕ) → mark_at set m ≡ Met i k → AllByRecursion (SeenFrom set starts i) (take k (named_in graph m))
  new_seen m i k e = elim (cases_eq m top) [
    | inl f ↦
        let g : Met i k ≡ Met index (place + 1) = sym e ∙ ap (mark_at set) f ∙ at_top in
        let gi : i ≡ index = cc g in
        let gk : k ≡ place + 1 = cc g in
        rw (f, gi, gk) (all_weaker _ _ (seen_forth index) _ (take_more _ _ place net is (w.seen top index place here) done))
    | inr ne ↦ all_weaker _ _ (seen_forth i) _ (w.seen m i k (sym (same m ne) ∙ e))
  ]

  new_ended : (m i k : ℕ) → mark_at set m ≡ Met i k → Among m (path ++ top ∷ []) ⊎ (length (named_in graph m) ≤ k)
  new_ended m i k e = elim (cases_eq m top) [
    | inl f ↦ inl (rw f (among_last top path))
    | inr ne ↦ w.ended m i k (sym (same m ne) ∙ e)
  ]

  pub on_kept : (marks2 : List Mark) → marks2 ≡ set → IsSearch graph marks2 met starts (path ++ top ∷ [])
  on_kept marks2 em = rw em (record {
    long = length-set marks top (Met index (place + 1)) ∙ w.long;
    at = λ i h. forth _ i (w.at i h);
    back = λ m i a. w.back m i (back m i a);
    joined = w.joined;
    seen = new_seen;
    ended = new_ended;
    rising = w.rising;
    low = w.low;
    begun = w.begun;
    based = w.based;
    climbs = climbs_as marks set (path ++ top ∷ []) (λ y i h a. back y i a) w.climbs;
    on_path = λ m a. (let o = w.on_path m a in (o.0, forth m o.0 o.1));
    closed = λ m d. all_weaker _ _ done_forth _ (w.closed m (record { told = d.told; is = sym (same m (done_ne m d.told d.is)) ∙ d.is }));
    cyclic = λ m d. w.cyclic m (sym (same m (done_ne m _ d)) ∙ d);
    acyclic = λ m d. w.acyclic m (sym (same m (done_ne m _ d)) ∙ d);
  })

  pub on_later : (marks2 : List Mark) → marks2 ≡ set → Later marks marks2
  on_later marks2 em m h = elim (cases_eq m top) [
    | inl e ↦ absurd (let f = ap (mark_at set) e in let g = at_top in let k : mark_at set m ≡ New = rw em at h in cc)
    | inr ne ↦ sym (same m ne) ∙ (rw em at h)
  ]

  pub on_less : (marks2 : List Mark) → marks2 ≡ set → work graph marks2 < work graph marks
  on_less marks2 em =
      let short : place < length (named_in graph top) = slice_get_within _ place net is in
      rw em (lowered graph marks top (Met index (place + 1)) (omega (arith, in_marks, w.long)) w.long (rw here (omega arith)))
