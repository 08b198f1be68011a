-- Routes that are added and merged.
use Rattle.std.proofs.Common.{◌≡◌, ◌≢◌, ℕ, suc, ◌+◌, ◌^◌, ◌<◌, ◌≤◌, ◌==◌, ◌||◌, Bool, true, false, not, if◌then◌else◌, cond, List, [], ◌∷◌, ◌++◌, length, None, Some, slice_get, slice_set, nat_lt, refl, sym, ap, subst, ◌∙◌, arith}
use Rattle.std.proofs.lemmas.List.{append-nil}
use Rattle.std.specs.List.{position, position_or_len, slice_index_or}
use Rattle.std.proofs.lemmas.Option.{get_or_from_slice_get}
use Rattle.std.proofs.lemmas.Bool.{ltb-true, ltb-false}
use borrow.Author.Tests.{eqb-true, eqb-false}
use Rattle.transfer_set.proofs.Exact.{held-append}
use Rattle.bit_bdd.specs.Diagrams.{Diagrams, has_word, Extends}
use Rattle.rec_bits.proofs.Lists.{Around, around}
use Rattle.transfer_set.specs.declared.route.Route.{Route}
use Rattle.transfer_set.specs.Routes.{row, exprs_under, Fresh, NoRepeat, IsSet, AllSets, AllExprs, IsRoutes}
use Rattle.transfer_set.proofs.Collecting.{held_later, sets_later}
use Rattle.route_trace.specs.Inner.Routing.{Finds}

-- ---- finding

finds_len : (expr : ℕ) (routes : List Route) → Finds expr routes (position (λ route. route.expr == expr) routes)
finds_len expr routes = by (nat_lt (position_or_len (λ route. route.expr == expr) routes) (length routes)) refl
  where
    none : (routes : List Route) → length routes ≤ position_or_len (λ route. route.expr == expr) routes → Fresh expr routes
    none [] h = tt
    none (route ∷ routes) h = step (route.expr == expr) refl h (none routes)
      where
        step : (b : Bool) → (route.expr == expr) ≡ b → length (route ∷ routes) ≤ cond (not b) (1 + position_or_len (λ route. route.expr == expr) routes) 0
            → (length routes ≤ position_or_len (λ route. route.expr == expr) routes → Fresh expr routes) → Fresh expr (route ∷ routes)
        step true e h rest = absurd (omega (arith, h))
        step false e h rest = (eqb-false route.expr expr e, rest (omega (arith, h)))

    some : (routes : List Route) → position_or_len (λ route. route.expr == expr) routes < length routes → (route : Route) × (slice_get routes (position_or_len (λ route. route.expr == expr) routes) ≡ Some route) × (route.expr ≡ expr)
    some [] h = absurd (omega (arith, h))
    some (route ∷ routes) h = step (route.expr == expr) refl h (some routes)
      where
        step : (b : Bool) → (route.expr == expr) ≡ b → cond (not b) (1 + position_or_len (λ route. route.expr == expr) routes) 0 < length (route ∷ routes)
            → (position_or_len (λ route. route.expr == expr) routes < length routes → (found : Route) × (slice_get routes (position_or_len (λ route. route.expr == expr) routes) ≡ Some found) × (found.expr ≡ expr))
            → (found : Route) × (slice_get (route ∷ routes) (cond (not b) (1 + position_or_len (λ route. route.expr == expr) routes) 0) ≡ Some found) × (found.expr ≡ expr)
        step true e h rest = (route, refl, eqb-true route.expr expr e)
        step false e h rest =
            let w = rest (omega (arith, h)) in
            let n : 1 + position_or_len (λ route. route.expr == expr) routes ≡ suc (position_or_len (λ route. route.expr == expr) routes) = omega arith in
            (w.0, ap (slice_get (route ∷ routes)) n ∙ w.1, w.2)

    by : (b : Bool) → nat_lt (position_or_len (λ route. route.expr == expr) routes) (length routes) ≡ b → Finds expr routes (cond b (Some (position_or_len (λ route. route.expr == expr) routes)) None)
    by true e = some routes (ltb-true _ _ e)
    by false e = none routes (ltb-false _ _ e)

-- ---- lists

or_true : (b : Bool) → (b || true) ≡ true
or_true true = refl
or_true false = refl

set_around : (before after : List Route) (x y : Route) → slice_set (before ++ x ∷ after) (length before) y ≡ before ++ y ∷ after
set_around [] after x y = refl
set_around (z ∷ before) after x y = ap (λ l. z ∷ l) (set_around before after x y)

pub nil_left : {X : Type 0} (xs ys : List X) → xs ++ ys ≡ [] → xs ≡ []
nil_left [] ys e = refl
nil_left (x ∷ xs) ys e = absurd (cc)

pub nil_right : {X : Type 0} (xs ys : List X) → xs ++ ys ≡ [] → ys ≡ []
nil_right [] ys e = e
nil_right (x ∷ xs) ys e = absurd (cc)

fresh_put : (expr : ℕ) (before after : List Route) (x y : Route) → x.expr ≡ y.expr → Fresh expr (before ++ x ∷ after) → Fresh expr (before ++ y ∷ after)
fresh_put expr [] after x y e h = (λ q. h.0 (e ∙ q), h.1)
fresh_put expr (z ∷ before) after x y e h = (h.0, fresh_put expr before after x y e h.1)

apart_put : (before after : List Route) (x y : Route) → x.expr ≡ y.expr → NoRepeat (before ++ x ∷ after) → NoRepeat (before ++ y ∷ after)
apart_put [] after x y e h = (subst (λ k. Fresh k after) e h.0, h.1)
apart_put (z ∷ before) after x y e h = (fresh_put z.expr before after x y e h.0, apart_put before after x y e h.1)

fresh_push : (expr : ℕ) (xs : List Route) (y : Route) → y.expr ≢ expr → Fresh expr xs → Fresh expr (xs ++ y ∷ [])
fresh_push expr [] y h f = (h, tt)
fresh_push expr (x ∷ xs) y h f = (f.0, fresh_push expr xs y h f.1)

apart_push : (xs : List Route) (y : Route) → Fresh y.expr xs → NoRepeat xs → NoRepeat (xs ++ y ∷ [])
apart_push [] y f h = (tt, tt)
apart_push (x ∷ xs) y f h = (fresh_push x.expr xs y (λ e. f.0 (sym e)) h.0, apart_push xs y f.1 h.1)

sets_put : (book : Diagrams) (before after : List Route) (x y : Route) → IsSet book y.set → AllSets book (before ++ x ∷ after) → AllSets book (before ++ y ∷ after)
sets_put book [] after x y s h = (s, h.1)
sets_put book (z ∷ before) after x y s h = (h.0, sets_put book before after x y s h.1)

sets_push : (book : Diagrams) (xs : List Route) (y : Route) → IsSet book y.set → AllSets book xs → AllSets book (xs ++ y ∷ [])
sets_push book [] y s h = (s, tt)
sets_push book (x ∷ xs) y s h = (h.0, sets_push book xs y s h.1)

sets_at : (book : Diagrams) (before after : List Route) (x : Route) → AllSets book (before ++ x ∷ after) → IsSet book x.set
sets_at book [] after x h = h.0
sets_at book (z ∷ before) after x h = sets_at book before after x h.1

sets_left : (book : Diagrams) (xs ys : List Route) → AllSets book (xs ++ ys) → AllSets book xs
sets_left book [] ys h = tt
sets_left book (x ∷ xs) ys h = (h.0, sets_left book xs ys h.1)

sets_right : (book : Diagrams) (xs ys : List Route) → AllSets book (xs ++ ys) → AllSets book ys
sets_right book [] ys h = h
sets_right book (x ∷ xs) ys h = sets_right book xs ys h.1

exprs_put : (size : ℕ) (before after : List Route) (x y : Route) → y.expr < size → AllExprs size (before ++ x ∷ after) → AllExprs size (before ++ y ∷ after)
exprs_put size [] after x y s h = (s, h.1)
exprs_put size (z ∷ before) after x y s h = (h.0, exprs_put size before after x y s h.1)

pub exprs_push : (size : ℕ) (xs : List Route) (y : Route) → y.expr < size → AllExprs size xs → AllExprs size (xs ++ y ∷ [])
exprs_push size [] y s h = (s, tt)
exprs_push size (x ∷ xs) y s h = (h.0, exprs_push size xs y s h.1)

-- ---- a book that grows

pub routes_later : (old new : Diagrams) → Extends old new → (routes : List Route) → IsRoutes old routes → IsRoutes new routes
routes_later old new g routes h = record { sets = sets_later old new g routes h.sets; apart = h.apart }

-- ---- the route of an expression gets more words

module _ (old new : Diagrams) (g : Extends old new) (out : List Route) (routes : IsRoutes old out) (expr set : ℕ) (is_set : IsSet old set) where
  module _ (both place : ℕ) (found : (route : Route) × (slice_get out place ≡ Some route) × (route.expr ≡ expr)) where
    pub around_it : Around out place found.0
    around_it = around out place found.0 found.1

    pub set_is : slice_set out place (record { expr = expr; set = both }) ≡ around_it.before ++ (record { expr = expr; set = both }) ∷ around_it.after
    set_is =
        let r = around_it in
        (λ j. slice_set (r.is j) (sym r.place j) (record { expr = expr; set = both })) ∙ set_around r.before r.after found.0 (record { expr = expr; set = both })

    module _ (within : both < length new.nodes) (words : (word : ℕ) → has_word new both word ≡ (has_word old found.0.set word || has_word old set word)) where
      pub merged_routes : IsRoutes new (slice_set out place (record { expr = expr; set = both }))
      merged_routes =
          let r = around_it in
          subst (λ l. IsRoutes new l) (sym set_is)
          (record {
            sets = sets_put new r.before r.after found.0 (record { expr = expr; set = both })
                (record {
                  within = within;
                  word = is_set.word;
                  fits = subst (λ b. is_set.word < 2 ^ b) (sym g.bits) is_set.fits;
                  holds = words is_set.word ∙ ap (λ b. has_word old found.0.set is_set.word || b) is_set.holds ∙ or_true (has_word old found.0.set is_set.word);
                })
                (subst (λ l. AllSets new l) r.is (sets_later old new g out routes.sets));
            apart = apart_put r.before r.after found.0 (record { expr = expr; set = both }) found.2 (subst (λ l. NoRepeat l) r.is routes.apart);
          })

      pub merged_exprs : (size : ℕ) → expr < size → AllExprs size out → AllExprs size (slice_set out place (record { expr = expr; set = both }))
      merged_exprs size less h =
          let r = around_it in
          subst (λ l. AllExprs size l) (sym set_is) (exprs_put size r.before r.after found.0 (record { expr = expr; set = both }) less (subst (λ l. AllExprs size l) r.is h))

      pub merged_held : (word : ℕ) → (has_word old set word ≡ true → exprs_under old out word ≡ []) → exprs_under new (slice_set out place (record { expr = expr; set = both })) word ≡ (if has_word old set word then expr ∷ [] else exprs_under old out word)
      merged_held word apart =
          ap (λ l. exprs_under new l word) set_is ∙ held-append new r.before ((record { expr = expr; set = both }) ∷ r.after) word
          ∙ (λ j. before_same j ++ ((if words word j then expr ∷ [] else []) ++ after_same j))
          ∙ by (has_word old set word) (has_word old found.0.set word) refl refl apart
        where
          r : Around out place found.0
          r = around_it

          split : AllSets old (around_it.before ++ found.0 ∷ around_it.after)
          split = subst (λ l. AllSets old l) around_it.is routes.sets

          before_same : exprs_under new around_it.before word ≡ exprs_under old around_it.before word
          before_same = held_later old new g around_it.before (sets_left old around_it.before (found.0 ∷ around_it.after) split) word

          after_same : exprs_under new around_it.after word ≡ exprs_under old around_it.after word
          after_same = held_later old new g around_it.after (sets_right old around_it.before (found.0 ∷ around_it.after) split).1 word

          whole : exprs_under old out word ≡ exprs_under old around_it.before word ++ (row old found.0 word ++ exprs_under old around_it.after word)
          whole = ap (λ l. exprs_under old l word) around_it.is ∙ held-append old around_it.before (found.0 ∷ around_it.after) word

          by : (b c : Bool) → has_word old set word ≡ b → has_word old found.0.set word ≡ c → (b ≡ true → exprs_under old out word ≡ [])
              → exprs_under old around_it.before word ++ ((if (c || b) then expr ∷ [] else []) ++ exprs_under old around_it.after word) ≡ (if b then expr ∷ [] else exprs_under old out word)
          by true c eb ec none =
              let n = sym whole ∙ none refl in
              let before = nil_left (exprs_under old around_it.before word) _ n in
              let after = nil_right (row old found.0 word) _ (nil_right (exprs_under old around_it.before word) _ n) in
              (λ j. before j ++ ((if or_true c j then expr ∷ [] else []) ++ after j))
          by false true eb ec none = (λ j. exprs_under old around_it.before word ++ ((sym found.2 j ∷ []) ++ exprs_under old around_it.after word)) ∙ (λ j. exprs_under old around_it.before word ++ ((if sym ec j then found.0.expr ∷ [] else []) ++ exprs_under old around_it.after word)) ∙ sym whole
          by false false eb ec none = (λ j. exprs_under old around_it.before word ++ ((if sym ec j then found.0.expr ∷ [] else []) ++ exprs_under old around_it.after word)) ∙ sym whole

  -- ---- a new route

  pub pushed_routes : Fresh expr out → IsRoutes old (out ++ (record { expr = expr; set = set }) ∷ [])
  pushed_routes fresh = record {
    sets = sets_push old out (record { expr = expr; set = set }) is_set routes.sets;
    apart = apart_push out (record { expr = expr; set = set }) fresh routes.apart;
  }

  pub pushed_held : (word : ℕ) → (has_word old set word ≡ true → exprs_under old out word ≡ []) → exprs_under old (out ++ (record { expr = expr; set = set }) ∷ []) word ≡ (if has_word old set word then expr ∷ [] else exprs_under old out word)
  pushed_held word apart = held-append old out ((record { expr = expr; set = set }) ∷ []) word ∙ by (has_word old set word) apart
    where
      by : (b : Bool) → (b ≡ true → exprs_under old out word ≡ []) → exprs_under old out word ++ ((if b then expr ∷ [] else []) ++ []) ≡ (if b then expr ∷ [] else exprs_under old out word)
      by true none = let n = none refl in (λ j. n j ++ (expr ∷ []))
      by false none = append-nil (exprs_under old out word)

-- ---- for what the code finds

found_at : (expr : ℕ) (seen out : List Route) (place : ℕ) (d : Route) → seen ≡ out → Some place ≡ position (λ route. route.expr == expr) seen → (route : Route) × (slice_get out place ≡ Some route) × (route.expr ≡ expr)
found_at expr seen out place d e f =
    subst (λ l. (route : Route) × (slice_get l place ≡ Some route) × (route.expr ≡ expr)) e (subst (λ o. Finds expr seen o) (sym f) (finds_len expr seen))

pub found_index : (expr : ℕ) (seen out : List Route) (place : ℕ) (d : Route) → seen ≡ out → Some place ≡ position (λ route. route.expr == expr) seen
    → (slice_get out place ≡ Some (slice_index_or out place d)) × ((slice_index_or out place d).expr ≡ expr)
found_index expr seen out place d e f =
    let w = found_at expr seen out place d e f in
    let same : slice_index_or out place d ≡ w.0 = get_or_from_slice_get out place w.0 d w.1 in
    (w.1 ∙ ap Some (sym same), ap (λ (r : Route). r.expr) same ∙ w.2)

pub not_found : (expr : ℕ) (seen out : List Route) → seen ≡ out → None ≡ position (λ route. route.expr == expr) seen → Fresh expr out
not_found expr seen out e f = subst (λ l. Fresh expr l) e (subst (λ o. Finds expr seen o) (sym f) (finds_len expr seen))
