-- What the routes of a net say, from the expressions that they give each word.
use Rattle.std.proofs.Common.{◌≡◌, ◌≢◌, ℕ, ◌<◌, Bool, true, false, if◌then◌else◌, List, [], ◌∷◌, ◌++◌, map, length, Some, slice_get, refl, sym, ap, subst, ◌∙◌, append_assoc, arith}
use Rattle.std.proofs.lemmas.List.{map-append}
use Rattle.bit_bdd.specs.Diagrams.{Diagrams, has_word}
use Rattle.net_model.specs.Exprs.{ExprModel}
use Rattle.sym_expr.specs.declared.pool.Node.{Node}
use Rattle.sym_expr.specs.Pools.{expr_of_id, IsOneEach}
use Rattle.rec_bits.proofs.Lists.{around}
use Rattle.transfer_set.specs.declared.route.Route.{Route}
use Rattle.transfer_set.specs.Routes.{row, exprs_under, models_under, Fresh, NoRepeat, AllExprs, IsRouteTable, only, GivesExpr, RouteIs}
use Rattle.transfer_set.proofs.Collecting.{expr_at}

pub held-append : (book : Diagrams) (xs ys : List Route) (word : ℕ) → exprs_under book (xs ++ ys) word ≡ exprs_under book xs word ++ exprs_under book ys word
held-append book [] ys word = refl
held-append book (x ∷ xs) ys word = ap (λ l. row book x word ++ l) (held-append book xs ys word) ∙ sym (append_assoc (row book x word) (exprs_under book xs word) (exprs_under book ys word))

-- lists with at most one element
single : {X : Type 0} (before after : List X) (x : X) (b : Bool) (y : X) → before ++ ((x ∷ []) ++ after) ≡ (if b then y ∷ [] else []) → (b ≡ true) × (x ≡ y)
single [] after x true y e = (refl, cc)
single [] after x false y e = absurd (cc)
single (z ∷ before) after x false y e = absurd (cc)
single (z ∷ []) after x true y e = absurd (cc)
single (z ∷ w ∷ before) after x true y e = absurd (cc)

module _ (book : Diagrams) (pool : List Node) (legal : ℕ) (f : ℕ → ExprModel) where
  -- a route that holds a word gives it its expression
  pub holds_right : (before after : List Route) (route : Route) (word : ℕ) → models_under book pool (before ++ route ∷ after) word ≡ only book legal word (f word)
      → has_word book route.set word ≡ true → (has_word book legal word ≡ true) × (expr_of_id pool route.expr ≡ f word)
  holds_right before after route word e h =
      single (map (expr_of_id pool) (exprs_under book before word)) (map (expr_of_id pool) (exprs_under book after word)) (expr_of_id pool route.expr) (has_word book legal word) (f word)
      (sym (ap (map (expr_of_id pool)) (held-append book before (route ∷ after) word ∙ ap (λ b. exprs_under book before word ++ ((if b then route.expr ∷ [] else []) ++ exprs_under book after word)) h)
      ∙ map-append (expr_of_id pool) (exprs_under book before word) ((route.expr ∷ []) ++ exprs_under book after word)) ∙ e)

  -- a word whose expression is that of a route is in its set
  held_some : (routes : List Route) (word e : ℕ) → exprs_under book routes word ≡ e ∷ [] → (before after : List Route) (route : Route) → routes ≡ before ++ route ∷ after → NoRepeat routes → route.expr ≡ e → has_word book route.set word ≡ true
  held_some routes word e h before after route is apart same =
      by before (subst (λ l. NoRepeat l) is apart) (sym (ap (λ l. exprs_under book l word) is) ∙ h)
    where
      none_of : (x : ℕ) (rs : List Route) → Fresh x rs → (ys : List ℕ) → exprs_under book rs word ≡ x ∷ ys → ⊥
      none_of x [] q ys k = absurd (cc)
      none_of x (r ∷ rs) q ys k = step (has_word book r.set word) (λ z. none_of x rs q.1 ys z) k
        where
          step : (b : Bool) → (exprs_under book rs word ≡ x ∷ ys → ⊥) → (if b then r.expr ∷ [] else []) ++ exprs_under book rs word ≡ x ∷ ys → ⊥
          step true rest k = q.0 (cc)
          step false rest k = rest k

      by : (before : List Route) → NoRepeat (before ++ route ∷ after) → exprs_under book (before ++ route ∷ after) word ≡ e ∷ [] → has_word book route.set word ≡ true
      by [] q k = step (has_word book route.set word) refl k
        where
          step : (b : Bool) → has_word book route.set word ≡ b → (if b then route.expr ∷ [] else []) ++ exprs_under book after word ≡ e ∷ [] → has_word book route.set word ≡ true
          step true eb k = eb
          step false eb k = absurd (none_of route.expr after q.0 [] (k ∙ ap (λ x. x ∷ []) (sym same)))
      by (z ∷ before) q k = step (has_word book z.set word) (λ k. by before q.1 k) k
        where
          fresh_at : (xs : List Route) → Fresh z.expr (xs ++ route ∷ after) → route.expr ≢ z.expr
          fresh_at [] g = g.0
          fresh_at (x ∷ xs) g = fresh_at xs g.1

          step : (b : Bool) → (exprs_under book (before ++ route ∷ after) word ≡ e ∷ [] → has_word book route.set word ≡ true)
              → (if b then z.expr ∷ [] else []) ++ exprs_under book (before ++ route ∷ after) word ≡ e ∷ [] → has_word book route.set word ≡ true
          step true rest k = absurd (fresh_at before q.0 (same ∙ sym (cc)))
          step false rest k = rest k

-- an expression that some route gives is one of the pool
held_in : (book : Diagrams) (size word : ℕ) (routes : List Route) → AllExprs size routes → (e : ℕ) (es : List ℕ) → exprs_under book routes word ≡ e ∷ es → e < size
held_in book size word [] h e es k = absurd (cc)
held_in book size word (r ∷ routes) h e es k = by (has_word book r.set word) (λ q. held_in book size word routes h.1 e es q) k
  where
    by : (b : Bool) → (exprs_under book routes word ≡ e ∷ es → e < size) → (if b then r.expr ∷ [] else []) ++ exprs_under book routes word ≡ e ∷ es → e < size
    by true rest q = (let s : r.expr ≡ e = cc in omega (arith, s, h.0))
    by false rest q = rest q

pub one_of : (t : ℕ → ExprModel) (xs : List ℕ) (y : ExprModel) → map t xs ≡ y ∷ [] → (e : ℕ) × (xs ≡ e ∷ []) × (t e ≡ y)
one_of t [] y k = absurd (cc)
one_of t (x ∷ []) y k = (x, refl, cc)
one_of t (x ∷ z ∷ xs) y k = absurd (cc)

-- the set of each route is all legal words with its expression
pub exact : (book : Diagrams) (pool : List Node) (legal : ℕ) (f : ℕ → ExprModel) (routes : List Route) → IsOneEach pool → IsRouteTable book pool routes → GivesExpr book pool legal f routes
    → (place : ℕ) (route : Route) → slice_get routes place ≡ Some route → RouteIs book pool legal f route
exact book pool legal f routes one table g place route at word fits =
    let r = around routes place route at in
    let in_pool = expr_at (length pool) routes place route at table.exprs in (
      λ h. holds_right book pool legal f r.before r.after route word (ap (λ l. models_under book pool l word) (sym r.is) ∙ g word fits) h,
      λ q.
          let w = one_of (expr_of_id pool) (exprs_under book routes word) (f word) (g word fits ∙ ap (λ b. if b then f word ∷ [] else []) q.0) in
          held_some book pool legal f routes word w.0 w.1 r.before r.after route r.is table.right.apart
          (sym ((one w.0 route.expr (held_in book (length pool) word routes table.exprs w.0 [] w.1) in_pool).0 (w.2 ∙ sym q.1))),
    )
