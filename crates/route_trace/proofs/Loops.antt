-- Loops over routes that add something for each.
use Rattle.std.proofs.Common.{◌≡◌, ℕ, zero, suc, ◌+◌, ◌<◌, ◌≤◌, ◌&&◌, Bool, true, false, if◌then◌else◌, true≢false, List, [], ◌∷◌, ◌++◌, map, take, length, Some, slice_get, refl, sym, ap, subst, ◌∙◌}
use Rattle.std.proofs.lemmas.List.{append-nil}
use Rattle.bit_bdd.specs.Diagrams.{Diagrams, has_word, Extends}
use Rattle.bit_bdd.proofs.CallerLemmas.{same_words}
use Rattle.net_model.specs.Exprs.{ExprModel, bin, cat, select, expr_width}
use Rattle.sym_expr.specs.declared.pool.Node.{Node}
use Rattle.sym_expr.specs.Pools.{AllBelow, Grows, expr_of_id}
use Rattle.sym_expr.proofs.CallerLemmas.{grows_refl, same_expr}
use Rattle.transfer_set.specs.declared.route.Route.{Route}
use Rattle.route_trace.specs.declared.heads.Head.{Head}
use Rattle.route_trace.specs.declared.heads.Binary.{Binary}
use Rattle.route_trace.specs.declared.heads.Binary.TheVariants.{Bin, Cat, Select}
use Rattle.route_trace.specs.Inner.Heads.{binary_head, binary_parts, binary_expr, head_parts, head_expr}
use Rattle.transfer_set.specs.Routes.{row, exprs_under, models_under, AllExprs, IsRouteTable}
use Rattle.route_trace.specs.Inner.Routing.{each, AllFit, AllBinaryFit}
use Rattle.route_trace.proofs.Products.{both_later, held_more, none_before, fits-later}

pub no_exprs : (t : ℕ → ExprModel) (xs : List ℕ) → map t xs ≡ [] → xs ≡ []
no_exprs t [] q = refl
no_exprs t (x ∷ xs) q = absurd (cc)

module _ (f : ExprModel → List ExprModel) (book : Diagrams) (pool : List Node) (routes : List Route) (set : ℕ) (word : ℕ) (i : ℕ) (route : Route) (at : slice_get routes i ≡ Some route) (one : length (exprs_under book routes word) ≤ 1) where
  pub each_apart : (pool' : List Node) (now : List ℕ) (outs : List ExprModel) (b c : Bool) → b ≡ has_word book set word → c ≡ has_word book route.set word
      → map (expr_of_id pool') now ≡ (if has_word book set word then each f (models_under book pool (take i routes) word) else outs)
      → (b && c) ≡ true → now ≡ []
  each_apart pool' now outs true true eb ec e h =
      let none = none_before book routes i route at word one (sym ec) in
      no_exprs (expr_of_id pool') now (e ∙ ap (λ d. if d then each f (models_under book pool (take i routes) word) else outs) (sym eb) ∙ ap (λ l. each f (map (expr_of_id pool) l)) none)
  each_apart pool' now outs true false eb ec e h = absurd (true≢false (sym h))
  each_apart pool' now outs false c eb ec e h = absurd (true≢false (sym h))

  each_exprs : (outs new old add : List ExprModel) (b c : Bool) → b ≡ has_word book set word → c ≡ has_word book route.set word
      → old ≡ (if has_word book set word then each f (models_under book pool (take i routes) word) else outs)
      → add ≡ f (expr_of_id pool route.expr)
      → new ≡ (if b && c then add else old)
      → new ≡ (if has_word book set word then each f (models_under book pool (take (i + 1) routes) word) else outs)
  each_exprs outs new old add b c eb ec eo ea en = en ∙ by b c eb ec ∙ ap (λ d. if d then each f (models_under book pool (take (i + 1) routes) word) else outs) eb
    where
      more : exprs_under book (take (i + 1) routes) word ≡ exprs_under book (take i routes) word ++ row book route word
      more = held_more book routes i route at word

      by : (b c : Bool) → b ≡ has_word book set word → c ≡ has_word book route.set word → (if b && c then add else old) ≡ (if b then each f (models_under book pool (take (i + 1) routes) word) else outs)
      by true true eb ec =
          let none = none_before book routes i route at word one (sym ec) in
          let all : exprs_under book (take (i + 1) routes) word ≡ route.expr ∷ [] = more ∙ (λ j. none j ++ (if sym ec j then route.expr ∷ [] else [])) in
          ea ∙ sym (append-nil (f (expr_of_id pool route.expr))) ∙ sym (ap (λ l. each f (map (expr_of_id pool) l)) all)
      by true false eb ec =
          let all : exprs_under book (take (i + 1) routes) word ≡ exprs_under book (take i routes) word = more ∙ (λ j. exprs_under book (take i routes) word ++ (if sym ec j then route.expr ∷ [] else [])) ∙ append-nil (exprs_under book (take i routes) word) in
          eo ∙ ap (λ d. if d then each f (models_under book pool (take i routes) word) else outs) (sym eb) ∙ sym (ap (λ l. each f (map (expr_of_id pool) l)) all)
      by false c eb ec = eo ∙ ap (λ d. if d then each f (models_under book pool (take i routes) word) else outs) (sym eb)

  -- a turn of a loop that narrows the set to a route's words and adds what f gives for the route
  pub each_step : (book1 book2 : Diagrams) (pool1 : List Node) → Extends book book1 → Extends book1 book2 → (out : List Route) → IsRouteTable book1 pool1 out → set < length book.nodes → route.set < length book.nodes
      → (outs add new : List ExprModel) (both : ℕ) → has_word book2 both word ≡ (has_word book1 set word && has_word book1 route.set word)
      → models_under book1 pool1 out word ≡ (if has_word book set word then each f (models_under book pool (take i routes) word) else outs)
      → add ≡ f (expr_of_id pool route.expr)
      → new ≡ (if has_word book2 both word then add else models_under book2 pool1 out word)
      → new ≡ (if has_word book set word then each f (models_under book pool (take (i + 1) routes) word) else outs)
  each_step book1 book2 pool1 e1 e2 out table set_in route_in outs add new both words old ea en =
      each_exprs outs new (models_under book2 pool1 out word) add (has_word book1 set word) (has_word book1 route.set word)
      (same_words book book1 e1 set set_in word) (same_words book book1 e1 route.set route_in word)
      (both_later book1 book2 pool1 pool1 e2 (grows_refl pool1) out table word ∙ old) ea (en ∙ ap (λ b. if b then add else models_under book2 pool1 out word) words)

-- ---- two operands

pub binary_below : (n : ℕ) (binary : Binary) (a : ℕ) → a < n → AllBelow n (binary_parts binary) → AllBelow n (head_parts (binary_head binary a))
binary_below n (Bin o) a h p = (h, tt)
binary_below n Cat a h p = (h, tt)
binary_below n (Select c) a h p = (p.0, (h, tt))

-- under a pool that grew
pub binary-same : (old new : List Node) → Grows old new → (binary : Binary) → AllBelow (length old) (binary_parts binary) → (a : ℕ) → a < length old → (b : ExprModel) → head_expr (binary_head binary a) (expr_of_id new) b ≡ binary_expr binary (expr_of_id old) (expr_of_id old a) b
binary-same old new g (Bin o) p a h b = let e = same_expr old new g a h in (λ j. bin o (e j) b)
binary-same old new g Cat p a h b = let e = same_expr old new g a h in (λ j. cat (e j) b)
binary-same old new g (Select c) p a h b = let d = same_expr old new g c p.0 in let e = same_expr old new g a h in (λ j. select (d j) (e j) b)

pub all_fit_later : (old new : List Node) → Grows old new → (head : Head) → AllBelow (length old) (head_parts head) → (routes : List Route) → AllExprs (length old) routes → AllFit head old routes → AllFit head new routes
all_fit_later old new g head p [] e f = tt
all_fit_later old new g head p (r ∷ routes) e f =
    (fits-later old new g head p _ _ (sym (ap expr_width (same_expr old new g r.expr e.0))) f.0, all_fit_later old new g head p routes e.1 f.1)

pub binary_fit_at : (binary : Binary) (pool : List Node) (xs bs : List Route) (i : ℕ) (a : Route) → slice_get xs i ≡ Some a → AllBinaryFit binary pool xs bs → AllFit (binary_head binary a.expr) pool bs
binary_fit_at binary pool [] bs i a at f = absurd (cc)
binary_fit_at binary pool (x ∷ xs) bs zero a at f = (let e : x ≡ a = cc in subst (λ (r : Route). AllFit (binary_head binary r.expr) pool bs) e f.0)
binary_fit_at binary pool (x ∷ xs) bs (suc i) a at f = binary_fit_at binary pool xs bs i a at f.1

pub map-same : (f g : ExprModel → ExprModel) → ((t : ExprModel) → f t ≡ g t) → (ts us : List ExprModel) → ts ≡ us → map f ts ≡ map g us
map-same f g h ts us e = ap (map f) e ∙ by us
  where
    by : (us : List ExprModel) → map f us ≡ map g us
    by [] = refl
    by (u ∷ us) = let p = h u in let q = by us in (λ j. p j ∷ q j)
