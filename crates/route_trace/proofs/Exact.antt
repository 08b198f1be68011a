-- What the routes of a net say, from the expressions that they give each word.
use Rattle.std.proofs.Common.{◌≡◌, ◌⊎◌, inl, inr, ℕ, suc, ◌^◌, ◌<◌, true, if◌then◌else◌, List, [], ◌∷◌, ◌++◌, length, refl, sym, ap, subst, ◌∙◌}
use Rattle.bit_bdd.specs.Diagrams.{Diagrams, has_word}
use Rattle.net_model.specs.Exprs.{ExprModel, expr_width}
use Rattle.sym_expr.specs.declared.pool.Node.{Node}
use Rattle.sym_expr.specs.Pools.{expr_of_id, IsOneEach}
use Rattle.transfer_set.specs.declared.route.Route.{Route}
use Rattle.transfer_set.specs.Routes.{row, exprs_under, models_under, Fresh, NoRepeat, AllSets, AllExprs, IsRouteTable, only, GivesExpr}
use Rattle.route_trace.specs.Inner.Gates.{AllWide, AllLegal, HasValues}
use Rattle.route_trace.specs.Limits.{Differ, AllDiffer}
use Rattle.route_trace.proofs.Loops.{no_exprs}
use Rattle.transfer_set.proofs.Exact.{held-append, holds_right, one_of}
use Rattle.route_trace.proofs.Merging.{nil_left, nil_right}

module _ (book : Diagrams) (pool : List Node) (legal : ℕ) (f : ℕ → ExprModel) where
  -- widths, by a word of each route
  wide : (width : ℕ) → ((word : ℕ) → word < 2 ^ book.bits → expr_width (f word) ≡ width) → (before routes : List Route) → AllSets book routes
      → ((word : ℕ) → word < 2 ^ book.bits → models_under book pool (before ++ routes) word ≡ only book legal word (f word)) → AllWide pool width routes
  wide width w before [] s g = tt
  wide width w before (route ∷ routes) s g =
      let r = holds_right book pool legal f before routes route s.0.word (g s.0.word s.0.fits) s.0.holds in (
        ap expr_width r.1 ∙ w s.0.word s.0.fits,
        wide width w (before ++ route ∷ []) routes s.1 (λ word fits. ap (λ l. models_under book pool l word) (assoc before route routes) ∙ g word fits),
      )
    where
      assoc : (xs : List Route) (y : Route) (ys : List Route) → (xs ++ y ∷ []) ++ ys ≡ xs ++ y ∷ ys
      assoc [] y ys = refl
      assoc (x ∷ xs) y ys = ap (λ l. x ∷ l) (assoc xs y ys)

  pub all_wide : (width : ℕ) → ((word : ℕ) → word < 2 ^ book.bits → expr_width (f word) ≡ width) → (routes : List Route) → AllSets book routes → GivesExpr book pool legal f routes → AllWide pool width routes
  all_wide width w routes s g = wide width w [] routes s g

-- each legal word has a route
pub every : (book : Diagrams) (pool : List Node) (legal : ℕ) (f : ℕ → ExprModel) (routes : List Route) → GivesExpr book pool legal f routes → (word : ℕ) → word < 2 ^ book.bits → has_word book legal word ≡ true
    → (e : ℕ) × (exprs_under book routes word ≡ e ∷ []) × (expr_of_id pool e ≡ f word)
every book pool legal f routes g word fits h = one_of (expr_of_id pool) (exprs_under book routes word) (f word) (g word fits ∙ ap (λ b. if b then f word ∷ [] else []) h)

-- ---- how many values a net has

-- a legal word for each route, with its expression
abbrev Witnessed : Diagrams → List Node → ℕ → (ℕ → ExprModel) → List Route → List ℕ → Type 0
Witnessed book pool legal f [] [] = Unit {0}
Witnessed book pool legal f [] (w ∷ ws) = ⊥
Witnessed book pool legal f (r ∷ routes) [] = ⊥
Witnessed book pool legal f (r ∷ routes) (w ∷ ws) = (w < 2 ^ book.bits) × (has_word book legal w ≡ true) × (expr_of_id pool r.expr ≡ f w) × Witnessed book pool legal f routes ws

join : (xs : List Route) (y : Route) (ys : List Route) → (xs ++ y ∷ []) ++ ys ≡ xs ++ y ∷ ys
join [] y ys = refl
join (x ∷ xs) y ys = ap (λ l. x ∷ l) (join xs y ys)

-- the routes give each word nothing yet, or its value
abbrev pub GivesPart : Diagrams → List Node → ℕ → (ℕ → ExprModel) → List Route → Type 0
GivesPart book pool legal f routes = (word : ℕ) → word < 2 ^ book.bits → (models_under book pool routes word ≡ []) ⊎ (models_under book pool routes word ≡ only book legal word (f word))

module _ (book : Diagrams) (pool : List Node) (legal : ℕ) (f : ℕ → ExprModel) where
  -- a route that holds a word gives it something
  holds_some : (before after : List Route) (route : Route) (word : ℕ) → has_word book route.set word ≡ true → models_under book pool (before ++ route ∷ after) word ≡ [] → ⊥
  holds_some before after route word h e =
      let none = no_exprs (expr_of_id pool) (exprs_under book (before ++ route ∷ after) word) e in
      let row = nil_left (row book route word) (exprs_under book after word) (nil_right (exprs_under book before word) _ (sym (held-append book before (route ∷ after) word) ∙ none)) in
      some (sym (ap (λ b. if b then route.expr ∷ [] else []) h) ∙ row)
    where
      some : route.expr ∷ [] ≡ [] → ⊥
      some q = cc

  witness : (before routes : List Route) → AllSets book routes → GivesPart book pool legal f (before ++ routes) → (ws : List ℕ) × Witnessed book pool legal f routes ws × (length ws ≡ length routes)
  witness before [] s g = ([], tt, refl)
  witness before (r ∷ routes) s g =
      let h = elim (g s.0.word s.0.fits) as (λ _. (has_word book legal s.0.word ≡ true) × (expr_of_id pool r.expr ≡ f s.0.word)) [
        | inl e ↦ absurd (holds_some before routes r s.0.word s.0.holds e)
        | inr e ↦ holds_right book pool legal f before routes r s.0.word e s.0.holds
      ] in
      let rest = witness (before ++ r ∷ []) routes s.1 (subst (GivesPart book pool legal f) (sym (join before r routes)) g) in
      (s.0.word ∷ rest.0, (s.0.fits, h.0, h.1, rest.1), ap suc rest.2)

  differ : IsOneEach pool → (r : Route) (w : ℕ) → r.expr < length pool → expr_of_id pool r.expr ≡ f w → (routes : List Route) (ws : List ℕ) → Fresh r.expr routes → AllExprs (length pool) routes → Witnessed book pool legal f routes ws → Differ f w ws
  differ one r w in_pool e [] [] q h k = tt
  differ one r w in_pool e [] (v ∷ ws) q h k = absurd k
  differ one r w in_pool e (x ∷ routes) [] q h k = absurd k
  differ one r w in_pool e (x ∷ routes) (v ∷ ws) q h k =
      (λ s. q.0 ((one x.expr r.expr h.0 in_pool).0 (k.2 ∙ sym s ∙ sym e)), differ one r w in_pool e routes ws q.1 h.1 k.3)

  all_differ : IsOneEach pool → (routes : List Route) (ws : List ℕ) → NoRepeat routes → AllExprs (length pool) routes → Witnessed book pool legal f routes ws → AllDiffer f ws
  all_differ one [] [] q h k = tt
  all_differ one [] (v ∷ ws) q h k = absurd k
  all_differ one (x ∷ routes) [] q h k = absurd k
  all_differ one (x ∷ routes) (v ∷ ws) q h k = (differ one x v h.0 k.2 routes ws q.0 h.1 k.3, all_differ one routes ws q.1 h.1 k.3)

  all_legal : (routes : List Route) (ws : List ℕ) → Witnessed book pool legal f routes ws → AllLegal book legal ws
  all_legal [] [] k = tt
  all_legal [] (v ∷ ws) k = absurd k
  all_legal (x ∷ routes) [] k = absurd k
  all_legal (x ∷ routes) (v ∷ ws) k = (k.0, k.1, all_legal routes ws k.3)

  -- a net has as many values as there are routes so far
  pub as_many : IsOneEach pool → (routes : List Route) → IsRouteTable book pool routes → GivesPart book pool legal f routes → HasValues book legal f (length routes)
  as_many one routes table g =
      let w = witness [] routes table.right.sets g in
      record { words = w.0; count = w.2; legal_words = all_legal routes w.0 w.1; apart = all_differ one routes w.0 table.right.apart table.exprs w.1 }
