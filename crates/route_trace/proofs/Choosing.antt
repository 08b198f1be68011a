-- What is right for the routes of a case, from what is right for the choices and the tests that it
-- is made of.
use Rattle.std.proofs.Common.{◌≡◌, inl, inr, ℕ, ◌<◌, Bool, true, false, if◌then◌else◌, List, [], ◌∷◌, length, Option, sym, ap, subst, ◌∙◌, arith}
use Rattle.bit_bdd.specs.Diagrams.{Diagrams, Extends, has_word}
use Rattle.bit_bdd.proofs.CallerLemmas.{extends_trans, same_words}
use Rattle.net_model.specs.Exprs.{ExprModel, select}
use Rattle.net_model.specs.Symbolic.{case_expr}
use Rattle.net_model.specs.Nets.{row_nets}
use Rattle.sym_expr.specs.declared.pool.Node.{Node}
use Rattle.sym_expr.specs.Pools.{Grows}
use Rattle.sym_expr.proofs.CallerLemmas.{grows_refl, grows_trans}
use Rattle.ctl_bdd.specs.Bits.{number_at}
use Rattle.transfer_set.specs.declared.route.Route.{Route}
use Rattle.transfer_set.specs.Routes.{IsRouteTable, models_under, only, routes_at}
use Rattle.route_trace.specs.Inner.Routing.{AreTables, first_exprs, passes}
use Rattle.route_trace.specs.Inner.Gates.{AllGive, RowTests, rest_exprs}
use Rattle.route_trace.specs.Inner.Selects.{selects}
use Rattle.route_trace.specs.Inner.Tests.{IsSelectedAt, target, target_exprs}
use Rattle.route_trace.proofs.Given.{given_case}
use Rattle.route_trace.proofs.Products.{both_later}
use Rattle.route_trace.proofs.Selecting.{given_later, selects_given, target_given, target_later}

-- choices between routes that were made one after the other, as they stood before
pub selects_then : (book book1 book2 : Diagrams) (pool pool1 pool2 : List Node) → Extends book book1 → Extends book1 book2 → Grows pool pool1 → Grows pool1 pool2 → (nets : List (List Route)) → AreTables book pool nets
    → (legal : ℕ) → legal < length book.nodes → (width sel : ℕ) (one zero : Option ℕ) (ones zeros : List Route) → IsRouteTable book1 pool1 ones → (word : ℕ)
    → models_under book1 pool1 ones word ≡ target_exprs book pool nets legal width one word → models_under book2 pool2 zeros word ≡ target_exprs book1 pool1 nets legal width zero word → (exprs : List ExprModel)
    → exprs ≡ (if has_word book2 legal word then selects (models_under book2 pool2 (routes_at nets sel) word) (models_under book2 pool2 ones word) (models_under book2 pool2 zeros word) else [])
    → exprs ≡ (if has_word book legal word then selects (models_under book pool (routes_at nets sel) word) (target_exprs book pool nets legal width one word) (target_exprs book pool nets legal width zero word) else [])
selects_then book book1 book2 pool pool1 pool2 e f g h nets t legal legal_in width sel one zero ones zeros table word eo ez exprs is =
    is ∙ same
    (same_words book book2 (extends_trans book book1 book2 e f) legal legal_in word)
    (both_later book book2 pool pool2 (extends_trans book book1 book2 e f) (grows_trans pool pool1 pool2 g h) (routes_at nets sel) (t.tables sel) word)
    (both_later book1 book2 pool1 pool2 f h ones table word ∙ eo)
    (ez ∙ target_later book book1 pool pool1 e g nets t legal legal_in word width zero)
  where
    same : {b d : Bool} {xs us ys vs zs ws : List ExprModel} → b ≡ d → xs ≡ us → ys ≡ vs → zs ≡ ws → (if b then selects xs ys zs else []) ≡ (if d then selects us vs ws else [])
    same e f g h = (λ j. if e j then selects (f j) (g j) (h j) else [])

module _ (book : Diagrams) (pool : List Node) (nets : List (List Route)) (legal : ℕ) (sets : List ℕ) (width sel : ℕ) (rows : List (ℕ × ℕ)) (rest : Option ℕ) (word : ℕ) where
  -- a case whose selector has one bit and no sets
  pub bit_case : (0 < length sets → ⊥) → (exprs : List ExprModel)
      → exprs ≡ (if has_word book legal word
      then selects (models_under book pool (routes_at nets sel) word) (target_exprs book pool nets legal width (target rows 1 rest) word) (target_exprs book pool nets legal width (target rows 0 rest) word) else [])
      → (t : ℕ → ExprModel) (u : ℕ → ℕ) (f : ℕ → Bool) → AllGive book pool nets legal t word (sel ∷ row_nets rows rest) → IsSelectedAt book sets word u f sel
      → exprs ≡ only book legal word (if f sel then case_expr t width (u sel) rows rest else select (t sel) (case_expr t width 1 rows rest) (case_expr t width 0 rows rest))
  bit_case none exprs is t u f given selected =
      selects_given (has_word book legal word) (t sel) (case_expr t width 1 rows rest) (case_expr t width 0 rows rest) _ _ _ exprs given.0
      (target_given book pool nets legal t word width 1 rows rest given.1) (target_given book pool nets legal t word width 0 rows rest given.1) is
      ∙ ap (λ b. only book legal word (if b then case_expr t width (u sel) rows rest else select (t sel) (case_expr t width 1 rows rest) (case_expr t width 0 rows rest))) (sym free)
    where
      free : f sel ≡ false
      free = elim selected as (λ _. f sel ≡ false) [ inl h ↦ absurd (none h.0) | inr h ↦ h.1 ]

  -- a case whose selector has sets, by the tests of its rows
  pub tests_case : (book1 : Diagrams) → Extends book book1 → AreTables book pool nets → legal < length book.nodes → (tests : List (ℕ × ℕ)) → RowTests book1 word (number_at book sets word) tests rows → 0 < length sets → (exprs : List ExprModel)
      → exprs ≡ (if has_word book1 legal word then (if passes book1 word tests then first_exprs book1 pool nets word tests else rest_exprs book1 pool nets width rest word) else [])
      → (t : ℕ → ExprModel) (u : ℕ → ℕ) (f : ℕ → Bool) → AllGive book pool nets legal t word (sel ∷ row_nets rows rest) → IsSelectedAt book sets word u f sel
      → exprs ≡ only book legal word (if f sel then case_expr t width (u sel) rows rest else select (t sel) (case_expr t width 1 rows rest) (case_expr t width 0 rows rest))
  tests_case book1 e tables legal_in tests tested some exprs is t u f given selected =
      given_case book1 pool nets legal t word width (u sel) tests rows rest (select (t sel) (case_expr t width 1 rows rest) (case_expr t width 0 rows rest)) (f sel) static.0
      (subst (λ k. RowTests book1 word k tests rows) static.1 tested)
      (given_later book book1 pool pool e (grows_refl pool) nets tables legal legal_in word t (row_nets rows rest) given.1) exprs is
      ∙ ap (λ b. if b then (if f sel then case_expr t width (u sel) rows rest else select (t sel) (case_expr t width 1 rows rest) (case_expr t width 0 rows rest)) ∷ [] else []) (same_words book book1 e legal legal_in word)
    where
      static : (f sel ≡ true) × (number_at book sets word ≡ u sel)
      static = elim selected as (λ _. (f sel ≡ true) × (number_at book sets word ≡ u sel)) [
        | inl h ↦ (h.1, h.2)
        | inr h ↦ (let none : length sets ≡ 0 = ap length h.0 in absurd (omega (arith, some, none)))
      ]
