-- Routes of operators over operands that have routes.
use Rattle.std.proofs.Common.{◌≡◌, ℕ, zero, suc, ◌+◌, ◌≤◌, Bool, true, false, if◌then◌else◌, List, [], ◌∷◌, ◌++◌, map, take, length, Some, slice_get, refl, sym, ap, subst, ◌∙◌, length-append, arith}
use Rattle.std.proofs.lemmas.List.{append-nil, map-append}
use Rattle.bit_bdd.specs.Diagrams.{Diagrams, has_word, Extends}
use Rattle.net_model.specs.Exprs.{ExprModel, read, un, bin, cat, zext, sext, select, expr_width}
use Rattle.net_model.specs.Symbolic.{sliced}
use Rattle.sym_expr.specs.declared.pool.Node.{Node}
use Rattle.sym_expr.specs.Pools.{AllBelow, Grows, expr_of_id}
use Rattle.sym_expr.proofs.CallerLemmas.{same_expr}
use Rattle.rec_bits.proofs.Lists.{around}
use Rattle.transfer_set.specs.declared.route.Route.{Route}
use Rattle.route_trace.specs.declared.heads.Head.{Head}
use Rattle.route_trace.specs.declared.heads.Head.TheVariants.{Same, Read, Un, Slice, Zext, Sext, Bin, Cat, Select}
use Rattle.route_trace.specs.Inner.Heads.{LastFits, head_parts, head_expr}
use Rattle.transfer_set.specs.Routes.{row, exprs_under, models_under, AllExprs, IsRouteTable}
use Rattle.route_trace.specs.Inner.Routing.{AllFit}
use Rattle.transfer_set.proofs.Exact.{held-append}
use Rattle.transfer_set.proofs.Collecting.{held_later}
use Rattle.route_trace.proofs.Merging.{routes_later}

-- ---- a pool that grows

pub exprs_later : (m n : ℕ) → m ≤ n → (routes : List Route) → AllExprs m routes → AllExprs n routes
exprs_later m n h [] e = tt
exprs_later m n h (route ∷ routes) e = (omega (arith, h, e.0), exprs_later m n h routes e.1)

pub models_later : (book : Diagrams) (old new : List Node) → Grows old new → (routes : List Route) → AllExprs (length old) routes → (word : ℕ) → models_under book new routes word ≡ models_under book old routes word
models_later book old new g [] h word = refl
models_later book old new g (route ∷ routes) h word =
    map-append (expr_of_id new) (row book route word) (exprs_under book routes word)
    ∙ by (has_word book route.set word) (models_later book old new g routes h.1 word)
    ∙ sym (map-append (expr_of_id old) (row book route word) (exprs_under book routes word))
  where
    by : (b : Bool) → map (expr_of_id new) (exprs_under book routes word) ≡ map (expr_of_id old) (exprs_under book routes word)
        → map (expr_of_id new) (if b then route.expr ∷ [] else []) ++ map (expr_of_id new) (exprs_under book routes word) ≡ map (expr_of_id old) (if b then route.expr ∷ [] else []) ++ map (expr_of_id old) (exprs_under book routes word)
    by true rest = let e = same_expr old new g route.expr h.0 in (λ j. e j ∷ rest j)
    by false rest = rest

pub table_later : (book book' : Diagrams) (pool pool' : List Node) → Extends book book' → Grows pool pool' → (routes : List Route) → IsRouteTable book pool routes → IsRouteTable book' pool' routes
table_later book book' pool pool' e g routes t = record {
  right = routes_later book book' e routes t.right;
  exprs = exprs_later (length pool) (length pool') g.longer routes t.exprs;
}

pub both_later : (book book' : Diagrams) (pool pool' : List Node) → Extends book book' → Grows pool pool' → (routes : List Route) → IsRouteTable book pool routes → (word : ℕ) → models_under book' pool' routes word ≡ models_under book pool routes word
both_later book book' pool pool' e g routes t word =
    ap (map (expr_of_id pool')) (held_later book book' e routes t.right.sets word) ∙ models_later book pool pool' g routes t.exprs word

module _ (old new : List Node) (g : Grows old new) where
  pub head-same : (head : Head) → AllBelow (length old) (head_parts head) → (s t : ExprModel) → s ≡ t → head_expr head (expr_of_id new) s ≡ head_expr head (expr_of_id old) t
  head-same Same h s t e = e
  head-same (Read space w) h s t e = (λ j. read space (e j) w)
  head-same (Un o) h s t e = (λ j. un o (e j))
  head-same (Slice i l) h s t e = (λ j. sliced (e j) i l)
  head-same (Zext w) h s t e = (λ j. zext (e j) w)
  head-same (Sext w) h s t e = (λ j. sext (e j) w)
  head-same (Bin o a) h s t e = let f = same_expr old new g a h.0 in (λ j. bin o (f j) (e j))
  head-same (Cat a) h s t e = let f = same_expr old new g a h.0 in (λ j. cat (f j) (e j))
  head-same (Select c a) h s t e = let d = same_expr old new g c h.0 in let f = same_expr old new g a h.1.0 in (λ j. select (d j) (f j) (e j))

  pub fits-later : (head : Head) → AllBelow (length old) (head_parts head) → (v w : ℕ) → v ≡ w → LastFits head (expr_of_id old) v → LastFits head (expr_of_id new) w
  fits-later Same h v w e f = tt
  fits-later (Read space i) h v w e f = f
  fits-later (Un o) h v w e f = tt
  fits-later (Slice i l) h v w e f = (f.0, omega (arith, f.1, e))
  fits-later (Zext i) h v w e f = (omega (arith, f.0, e), f.1)
  fits-later (Sext i) h v w e f = (omega (arith, f.0, e), f.1)
  fits-later (Bin o a) h v w e f = sym e ∙ f ∙ sym (ap expr_width (same_expr old new g a h.0))
  fits-later (Cat a) h v w e f = (let q = ap expr_width (same_expr old new g a h.0) in omega (arith, q, f, e))
  fits-later (Select c a) h v w e f = (ap expr_width (same_expr old new g c h.0) ∙ f.0, sym e ∙ f.1 ∙ sym (ap expr_width (same_expr old new g a h.1.0)))

  pub below_later : (is : List ℕ) → AllBelow (length old) is → AllBelow (length new) is
  below_later [] h = tt
  below_later (i ∷ is) h = (omega (arith, h.0, g.longer), below_later is h.1)

-- ---- one route

-- a route was added
pub added_exprs : (book book1 book2 : Diagrams) (pool pool1 : List Node) → Extends book book1 → Grows pool pool1 → (out out2 : List Route) → IsRouteTable book pool out → (expr : ℕ) (model : ExprModel) → expr_of_id pool1 expr ≡ model
    → (word : ℕ) (b c : Bool) → c ≡ b → exprs_under book2 out2 word ≡ (if c then expr ∷ [] else exprs_under book1 out word)
    → models_under book2 pool1 out2 word ≡ (if b then model ∷ [] else models_under book pool out word)
added_exprs book book1 book2 pool pool1 e g out out2 t expr model is word true c eb h =
    ap (map (expr_of_id pool1)) (h ∙ ap (λ d. if d then expr ∷ [] else exprs_under book1 out word) eb) ∙ (λ j. is j ∷ [])
added_exprs book book1 book2 pool pool1 e g out out2 t expr model is word false c eb h =
    ap (map (expr_of_id pool1)) (h ∙ ap (λ d. if d then expr ∷ [] else exprs_under book1 out word) eb) ∙ both_later book book1 pool pool1 e g out t word

-- ---- all routes

take_around : (before after : List Route) (x : Route) → take (length before) (before ++ x ∷ after) ≡ before
take_around [] after x = refl
take_around (z ∷ before) after x = ap (λ l. z ∷ l) (take_around before after x)

take_more : (before after : List Route) (x : Route) → take (length before + 1) (before ++ x ∷ after) ≡ before ++ x ∷ []
take_more before after x = let n : length before + 1 ≡ suc (length before) = omega arith in ap (λ k. take k (before ++ x ∷ after)) n ∙ by before
  where
    by : (before : List Route) → take (suc (length before)) (before ++ x ∷ after) ≡ before ++ x ∷ []
    by [] = refl
    by (z ∷ before) = ap (λ l. z ∷ l) (by before)

pub held_more : (book : Diagrams) (routes : List Route) (i : ℕ) (route : Route) → slice_get routes i ≡ Some route → (word : ℕ) → exprs_under book (take (i + 1) routes) word ≡ exprs_under book (take i routes) word ++ row book route word
held_more book routes i route at word =
    let r = around routes i route at in
    let more : take (i + 1) routes ≡ r.before ++ route ∷ [] = (λ j. take (sym r.place j + 1) (r.is j)) ∙ take_more r.before r.after route in
    let less : take i routes ≡ r.before = (λ j. take (sym r.place j) (r.is j)) ∙ take_around r.before r.after route in
    ap (λ l. exprs_under book l word) more ∙ held-append book r.before (route ∷ []) word
    ∙ (λ j. exprs_under book (sym less j) word ++ append-nil (row book route word) j)

-- where a route holds a word that at most one does, none before it holds it
pub none_before : (book : Diagrams) (routes : List Route) (i : ℕ) (route : Route) → slice_get routes i ≡ Some route → (word : ℕ) → length (exprs_under book routes word) ≤ 1 → has_word book route.set word ≡ true → exprs_under book (take i routes) word ≡ []
none_before book routes i route at word one h =
    let r = around routes i route at in
    let less : take i routes ≡ r.before = (λ j. take (sym r.place j) (r.is j)) ∙ take_around r.before r.after route in
    let whole : exprs_under book routes word ≡ exprs_under book r.before word ++ ((route.expr ∷ []) ++ exprs_under book r.after word) =
    ap (λ l. exprs_under book l word) r.is ∙ held-append book r.before (route ∷ r.after) word ∙ ap (λ b. exprs_under book r.before word ++ ((if b then route.expr ∷ [] else []) ++ exprs_under book r.after word)) h in
    ap (λ l. exprs_under book l word) less ∙ short (exprs_under book r.before word) (exprs_under book r.after word) (ap length whole)
  where
    short : (xs ys : List ℕ) → length (exprs_under book routes word) ≡ length (xs ++ ((route.expr ∷ []) ++ ys)) → xs ≡ []
    short [] ys e = refl
    short (x ∷ xs) ys e = (let l = length-append xs ((route.expr ∷ []) ++ ys) in absurd (omega (arith, e, one, l)))

pub fit_at : (head : Head) (pool : List Node) (routes : List Route) (i : ℕ) (route : Route) → slice_get routes i ≡ Some route → AllFit head pool routes → LastFits head (expr_of_id pool) (expr_width (expr_of_id pool route.expr))
fit_at head pool [] i route at f = absurd (cc)
fit_at head pool (x ∷ routes) zero route at f = (let e : x ≡ route = cc in subst (λ (r : Route). LastFits head (expr_of_id pool) (expr_width (expr_of_id pool r.expr))) e f.0)
fit_at head pool (x ∷ routes) (suc i) route at f = fit_at head pool routes i route at f.1
