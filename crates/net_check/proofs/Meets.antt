-- A net is met.
use Rattle.std.proofs.Common.{slice_set, slice_index, inl, inr, ◌≡◌, ◌≢◌, ◌⊎◌, Bool, ℕ, ◌+◌, ◌<◌, ◌≤◌, List, [], ◌∷◌, ◌++◌, length, take, sym, ◌∙◌, ap, arith, refl}
use Rattle.std.specs.List.{AllByRecursion}
use Rattle.std.proofs.lemmas.Bool.{cases_lt, cases_eq}
use Rattle.std.proofs.lemmas.List.{length-set, length_push, get_or_push}
use Rattle.net_model.specs.Depends.{Among}
use Rattle.rec_bits.proofs.Lists.{all_weaker, index_old}
use Rattle.rec_bits.proofs.Faults.{among_front, among_last}
use Rattle.net_check.specs.Inner.Graphs.{named_in}
use Rattle.net_check.specs.Inner.Components.{mark_at, MetAt, IsDone, IsPathTo, Uncut, SeenFrom, Climbs, IsSearch, Later, work}
use Rattle.net_check.specs.declared.cycle.Mark.{Mark}
use Rattle.net_check.specs.declared.cycle.Mark.TheVariants.{New, Met, Done}
use Rattle.net_check.proofs.Walks.{among_parts}
use Rattle.net_check.proofs.Marks.{set_mark, rising_more, climbs_as, climbs_more, lowered}

module _ (graph : List (List ℕ)) (marks : List Mark) (met starts path : List ℕ) (w : IsSearch graph marks met starts path) (net : ℕ) (inside : net < length graph) (fresh : mark_at marks net ≡ New) (all : (p : ℕ) → p < length met → IsPathTo graph (slice_index met p) net) where
  abbrev set : List Mark
  set = slice_set marks net (Met (length met) 0)

  in_marks : net < length marks
  in_marks = omega (arith, inside, w.long)

  not_met : (m i : ℕ) → MetAt marks m i → m ≢ net
  not_met m i a e = let b = a.is in let f = ap (mark_at marks) e in cc

  not_done : (m : ℕ) → IsDone marks m → m ≢ net
  not_done m d e = let b = d.is in let f = ap (mark_at marks) e in cc

  same : (m : ℕ) → m ≢ net → mark_at set m ≡ mark_at marks m
  same m ne = elim (set_mark marks net m (Met (length met) 0) in_marks) [ inl e ↦ absurd (ne e.0) | inr e ↦ e.1 ]

  here : mark_at set net ≡ Met (length met) 0
  here = elim (set_mark marks net net (Met (length met) 0) in_marks) [ inl e ↦ e.1 | inr e ↦ absurd (e.0 refl) ]

  forth : (m i : ℕ) → MetAt marks m i → MetAt set m i
  forth m i a = record { place = a.place; is = same m (not_met m i a) ∙ a.is }

  done_forth : (m : ℕ) → IsDone marks m → IsDone set m
  done_forth m d = record { told = d.told; is = same m (not_done m d) ∙ d.is }

  old_at : (m i : ℕ) → m ≢ net → MetAt set m i → MetAt marks m i
  old_at m i ne a = record { place = a.place; is = sym (same m ne) ∙ a.is }

  old_done : (m : ℕ) → IsDone set m → IsDone marks m
  old_done m d = elim (cases_eq m net) [
    | inl e ↦ absurd (let b = d.is in let f = ap (mark_at set) e in let h = here in cc)
    | inr ne ↦ record { told = d.told; is = sym (same m ne) ∙ d.is }
  ]

  done_ne : (m : ℕ) (told : Bool) → mark_at set m ≡ Done told → m ≢ net
  done_ne m told d e = let f = ap (mark_at set) e in let h = here in cc

  net_index : (i k : ℕ) → mark_at set net ≡ Met i k → (i ≡ length met) × (k ≡ 0)
  net_index i k e = let h = here in (cc, cc)

  longer : length (met ++ net ∷ []) ≡ length met + 1
  longer = length_push met net

  at_end : slice_index (met ++ net ∷ []) (length met) ≡ net
  at_end = get_or_push met net 0 (length met) refl

  new_at : (i : ℕ) → i < length (met ++ net ∷ []) → MetAt set (slice_index (met ++ net ∷ []) i) i
  new_at i h = elim (cases_eq i (length met)) [
    | inl e ↦ record { place = 0; is = rw (e, at_end) here }
    | inr ne ↦
        let l : i < length met = omega (arith, h, longer) in
        rw (index_old met net i l) (forth _ i (w.at i l))
  ]

  new_back : (m i : ℕ) → MetAt set m i → (i < length (met ++ net ∷ [])) × (slice_index (met ++ net ∷ []) i ≡ m)
  new_back m i a = elim (cases_eq m net) [
    | inl e ↦
        let k = net_index i a.place (sym (ap (mark_at set) e) ∙ a.is) in
        (omega (arith, k.0, longer), rw k.0 (at_end ∙ sym e))
    | inr ne ↦
        let k = w.back m i (old_at m i ne a) in
        (omega (arith, k.0, longer), index_old met net i k.0 ∙ k.1)
  ]

  fewer : (p q : ℕ) → Uncut (starts ++ length met ∷ []) p q → Uncut starts p q
  fewer p q u s h = u s (among_front s (length met) starts h)

  new_joined : (p q : ℕ) → p < length (met ++ net ∷ []) → q < length (met ++ net ∷ []) → Uncut (starts ++ length met ∷ []) p q → IsPathTo graph (slice_index (met ++ net ∷ []) p) (slice_index (met ++ net ∷ []) q)
  new_joined p q hp hq u = elim (cases_eq p (length met)) [
    | inl ep ↦ elim (cases_eq q (length met)) [
      | inl eq ↦ inl (rw (ep, eq) refl)
      | inr nq ↦ elim (u (length met) (among_last (length met) starts)) [
        | inl h ↦ absurd (omega (arith, h, hq, longer, nq))
        | inr h ↦ absurd (omega (arith, h, ep))
      ]
    ]
    | inr np ↦
        let lp : p < length met = omega (arith, hp, longer) in
        elim (cases_eq q (length met)) [
          | inl eq ↦ rw (index_old met net p lp, eq, at_end) (all p lp)
          | inr nq ↦
              let lq : q < length met = omega (arith, hq, longer) in
              rw (index_old met net p lp, index_old met net q lq) (w.joined p q lp lq (fewer p q u))
        ]
  ]

  new_uncut : (i j : ℕ) → i < length met → Uncut starts i j → Uncut (starts ++ length met ∷ []) i j
  new_uncut i j l u s h = elim (among_parts s (length met) starts h) [ inl e ↦ inr (omega (arith, e, l)) | inr a ↦ u s a ]

  new_seen : (m i k : ℕ) → mark_at set m ≡ Met i k → AllByRecursion (SeenFrom set (starts ++ length met ∷ []) i) (take k (named_in graph m))
  new_seen m i k e = elim (cases_eq m net) [
    | inl f ↦
        let z = net_index i k (sym (ap (mark_at set) f) ∙ e) in
        rw z.1 tt
    | inr ne ↦
        let old : mark_at marks m ≡ Met i k = sym (same m ne) ∙ e in
        let l = w.back m i (record { place = k; is = old }) in
        all_weaker _ _ (λ d h. elim h [ inl x ↦ inl (done_forth d x) | inr x ↦ inr (x.0, forth d x.0 x.1, new_uncut i x.0 l.0 x.2) ]) _ (w.seen m i k old)
  ]

  new_ended : (m i k : ℕ) → mark_at set m ≡ Met i k → Among m (path ++ net ∷ []) ⊎ (length (named_in graph m) ≤ k)
  new_ended m i k e = elim (cases_eq m net) [
    | inl f ↦ inl (rw f (among_last net path))
    | inr ne ↦ elim (w.ended m i k (sym (same m ne) ∙ e)) [ inl a ↦ inl (among_front m net path a) | inr h ↦ inr h ]
  ]

  new_begun : (s : ℕ) → Among s (starts ++ length met ∷ []) → Among (slice_index (met ++ net ∷ []) s) (path ++ net ∷ [])
  new_begun s h = elim (among_parts s (length met) starts h) [
    | inl e ↦ rw (e, at_end) (among_last net path)
    | inr a ↦ rw (index_old met net s (w.low s a)) (among_front _ net path (w.begun s a))
  ]

  new_low : (s : ℕ) → Among s (starts ++ length met ∷ []) → s < length (met ++ net ∷ [])
  new_low s h = elim (among_parts s (length met) starts h) [
    | inl e ↦ omega (arith, e, longer)
    | inr a ↦ omega (arith, w.low s a, longer)
  ]

  new_based : (i : ℕ) → i < length (met ++ net ∷ []) → (s : ℕ) × Among s (starts ++ length met ∷ []) × (s ≤ i)
  new_based i h = elim (cases_lt i (length met)) [
    | inl l ↦ let b = w.based i l in (b.0, among_front b.0 (length met) starts b.1, b.2)
    | inr g ↦ (length met, among_last (length met) starts, g)
  ]

  path_ne : (m : ℕ) → Among m path → m ≢ net
  path_ne m a = let o = w.on_path m a in not_met m o.0 o.1

  new_climbs : Climbs set (path ++ net ∷ [])
  new_climbs = climbs_more set path net (climbs_as marks set path (λ y i h a. old_at y i (path_ne y h) a) w.climbs)
      (λ y h i j a b.
      let l = w.back y i (old_at y i (path_ne y h) a) in
      let z = net_index j b.place b.is in
      omega (arith, l.0, z.0))

  new_on : (m : ℕ) → Among m (path ++ net ∷ []) → (i : ℕ) × MetAt set m i
  new_on m h = elim (among_parts m net path h) [
    | inl e ↦ (length met, record { place = 0; is = rw e here })
    | inr a ↦ let o = w.on_path m a in (o.0, forth m o.0 o.1)
  ]

  pub met_kept : (marks2 : List Mark) (met2 starts2 path2 : List ℕ) → marks2 ≡ set → met2 ≡ met ++ net ∷ [] → starts2 ≡ starts ++ length met ∷ [] → path2 ≡ path ++ net ∷ [] → IsSearch graph marks2 met2 starts2 path2
  met_kept marks2 met2 starts2 path2 em en es ep = rw (em, en, es, ep) (record {
    long = length-set marks net (Met (length met) 0) ∙ w.long;
    at = new_at;
    back = new_back;
    joined = new_joined;
    seen = new_seen;
    ended = new_ended;
    rising = rising_more starts (length met) w.rising w.low;
    low = new_low;
    begun = new_begun;
    based = new_based;
    climbs = new_climbs;
    on_path = new_on;
    closed = λ m d. all_weaker _ _ done_forth _ (w.closed m (old_done m d));
    cyclic = λ m d. w.cyclic m (sym (same m (done_ne m _ d)) ∙ d);
    acyclic = λ m d. w.acyclic m (sym (same m (done_ne m _ d)) ∙ d);
  })

  pub met_later : (marks2 : List Mark) → marks2 ≡ set → Later marks marks2
  met_later marks2 em m h = elim (cases_eq m net) [
    | inl e ↦ ap (mark_at marks) e ∙ fresh
    | inr ne ↦ sym (same m ne) ∙ (rw em at h)
  ]

  pub met_less : (marks2 : List Mark) → marks2 ≡ set → work graph marks2 < work graph marks
  met_less marks2 em = rw em (lowered graph marks net (Met (length met) 0) inside w.long (rw fresh (omega arith)))
