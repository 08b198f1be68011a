-- The first of several tests that holds.
use Rattle.std.proofs.Common.{◌≡◌, ℕ, zero, suc, ◌+◌, ◌^◌, ◌<◌, ◌≤◌, ◌&&◌, ◌||◌, not, Bool, true, false, if◌then◌else◌, true≢false, List, [], ◌∷◌, ◌++◌, map, take, length, Some, slice_get, refl, sym, ap, subst, ◌∙◌, arith}
use Rattle.ctl_bdd.proofs.Clashes.{gate_step}
use Rattle.bit_bdd.specs.Diagrams.{Diagrams, has_word, Extends}
use Rattle.bit_bdd.proofs.CallerLemmas.{extends_trans, same_words}
use Rattle.net_model.specs.Exprs.{ExprModel}
use Rattle.sym_expr.specs.declared.pool.Node.{Node}
use Rattle.sym_expr.specs.Pools.{expr_of_id, Grows}
use Rattle.sym_expr.proofs.CallerLemmas.{grows_refl}
use Rattle.rec_bits.proofs.Lists.{around}
use Rattle.rec_bits.proofs.Booleans.{or-false}
use Rattle.transfer_set.specs.declared.route.Route.{Route}
use Rattle.route_trace.specs.declared.heads.Head.TheVariants.{Same}
use Rattle.transfer_set.specs.Routes.{IsRouteTable, models_under, routes_at}
use Rattle.transfer_set.proofs.Collecting.{held_later}
use Rattle.route_trace.specs.Inner.Routing.{AllTests, passes, first_exprs, AreTables, AllFit}
use Rattle.route_trace.proofs.Products.{both_later, table_later}
use Rattle.route_trace.proofs.Loops.{no_exprs}

pub map_same : (ts : List ExprModel) → map (λ t. t) ts ≡ ts
map_same [] = refl
map_same (t ∷ ts) = ap (λ l. t ∷ l) (map_same ts)

-- anything can be the whole
pub all_fit_same : (pool : List Node) (routes : List Route) → AllFit Same pool routes
all_fit_same pool [] = tt
all_fit_same pool (route ∷ routes) = (tt, all_fit_same pool routes)

pub test_at : (book : Diagrams) (tests : List (ℕ × ℕ)) (i : ℕ) (test : ℕ × ℕ) → slice_get tests i ≡ Some test → AllTests book tests → test.0 < length book.nodes
test_at book [] i test at h = absurd (cc)
test_at book (x ∷ tests) zero test at h = (let e : x ≡ test = cc in subst (λ (t : ℕ × ℕ). t.0 < length book.nodes) e h.0)
test_at book (x ∷ tests) (suc i) test at h = test_at book tests i test at h.1

module _ (book : Diagrams) (pool : List Node) (nets : List (List Route)) (word : ℕ) where
  passes_more : (xs : List (ℕ × ℕ)) (test : ℕ × ℕ) → passes book word (xs ++ test ∷ []) ≡ (passes book word xs || has_word book test.0 word)
  passes_more [] test = or-false (has_word book test.0 word)
  passes_more (x ∷ xs) test = by (has_word book x.0 word) (passes_more xs test)
    where
      by : (b : Bool) → passes book word (xs ++ test ∷ []) ≡ (passes book word xs || has_word book test.0 word) → (b || passes book word (xs ++ test ∷ [])) ≡ ((b || passes book word xs) || has_word book test.0 word)
      by true e = refl
      by false e = e

  first_more : (xs : List (ℕ × ℕ)) (test : ℕ × ℕ) → first_exprs book pool nets word (xs ++ test ∷ [])
      ≡ (if passes book word xs then first_exprs book pool nets word xs else (if has_word book test.0 word then models_under book pool (routes_at nets test.1) word else []))
  first_more [] test = refl
  first_more (x ∷ xs) test = by (has_word book x.0 word) (first_more xs test)
    where
      by : (b : Bool) → first_exprs book pool nets word (xs ++ test ∷ []) ≡ (if passes book word xs then first_exprs book pool nets word xs else (if has_word book test.0 word then models_under book pool (routes_at nets test.1) word else []))
          → (if b then models_under book pool (routes_at nets x.1) word else first_exprs book pool nets word (xs ++ test ∷ []))
          ≡ (if b || passes book word xs then (if b then models_under book pool (routes_at nets x.1) word else first_exprs book pool nets word xs) else (if has_word book test.0 word then models_under book pool (routes_at nets test.1) word else []))
      by true e = refl
      by false e = e

  -- nothing is taken where no test holds
  pub none_taken : (xs : List (ℕ × ℕ)) → passes book word xs ≡ false → first_exprs book pool nets word xs ≡ []
  none_taken [] e = refl
  none_taken (x ∷ xs) e = by (has_word book x.0 word) e (λ q. none_taken xs q)
    where
      by : (b : Bool) → (b || passes book word xs) ≡ false → (passes book word xs ≡ false → first_exprs book pool nets word xs ≡ []) → (if b then models_under book pool (routes_at nets x.1) word else first_exprs book pool nets word xs) ≡ []
      by true e rest = absurd (true≢false e)
      by false e rest = rest e

  take_test : (before after : List (ℕ × ℕ)) (x : ℕ × ℕ) → take (length before) (before ++ x ∷ after) ≡ before
  take_test [] after x = refl
  take_test (z ∷ before) after x = ap (λ l. z ∷ l) (take_test before after x)

  take_test_more : (before after : List (ℕ × ℕ)) (x : ℕ × ℕ) → take (suc (length before)) (before ++ x ∷ after) ≡ before ++ x ∷ []
  take_test_more [] after x = refl
  take_test_more (z ∷ before) after x = ap (λ l. z ∷ l) (take_test_more before after x)

  module _ (tests : List (ℕ × ℕ)) (i : ℕ) (test : ℕ × ℕ) (at : slice_get tests i ≡ Some test) where
    one_more : take (i + 1) tests ≡ take i tests ++ test ∷ []
    one_more =
        let r = around tests i test at in
        let place = r.place in
        let n : i + 1 ≡ suc (length r.before) = omega arith in
        (λ j. take (n j) (r.is j)) ∙ take_test_more r.before r.after test ∙ ap (λ l. l ++ test ∷ []) (sym ((λ j. take (sym r.place j) (r.is j)) ∙ take_test r.before r.after test))

    -- nothing was added for the words of this turn
    pub first_apart : (pool' : List Node) (now : List ℕ) (outs : List ExprModel) (b p c : Bool) → p ≡ passes book word (take i tests)
        → map (expr_of_id pool') now ≡ (if b then first_exprs book pool nets word (take i tests) else outs)
        → ((b && not p) && c) ≡ true → now ≡ []
    first_apart pool' now outs true false true ep e h = no_exprs (expr_of_id pool') now (e ∙ none_taken (take i tests) (sym ep))
    first_apart pool' now outs true false false ep e h = absurd (true≢false (sym h))
    first_apart pool' now outs true true c ep e h = absurd (true≢false (sym h))
    first_apart pool' now outs false p c ep e h = absurd (true≢false (sym h))

    first_exprs_more : (outs new old add : List ExprModel) (b p c : Bool) → p ≡ passes book word (take i tests) → c ≡ has_word book test.0 word
        → old ≡ (if b then first_exprs book pool nets word (take i tests) else outs)
        → add ≡ models_under book pool (routes_at nets test.1) word
        → new ≡ (if (b && not p) && c then add else old)
        → new ≡ (if b then first_exprs book pool nets word (take (i + 1) tests) else outs)
    first_exprs_more outs new old add b p c ep ec eo ea en = en ∙ by b p c ep ec eo
      where
        all : first_exprs book pool nets word (take (i + 1) tests)
            ≡ (if passes book word (take i tests) then first_exprs book pool nets word (take i tests) else (if has_word book test.0 word then models_under book pool (routes_at nets test.1) word else []))
        all = ap (first_exprs book pool nets word) one_more ∙ first_more (take i tests) test

        by : (b p c : Bool) → p ≡ passes book word (take i tests) → c ≡ has_word book test.0 word → old ≡ (if b then first_exprs book pool nets word (take i tests) else outs)
            → (if (b && not p) && c then add else old) ≡ (if b then first_exprs book pool nets word (take (i + 1) tests) else outs)
        by true false true ep ec eo = ea ∙ (λ j. if ep j then first_exprs book pool nets word (take i tests) else (if ec j then models_under book pool (routes_at nets test.1) word else [])) ∙ sym all
        by true false false ep ec eo = eo ∙ none_taken (take i tests) (sym ep) ∙ (λ j. if ep j then first_exprs book pool nets word (take i tests) else (if ec j then models_under book pool (routes_at nets test.1) word else [])) ∙ sym all
        by true true c ep ec eo = eo ∙ (λ j. if ep j then first_exprs book pool nets word (take i tests) else (if has_word book test.0 word then models_under book pool (routes_at nets test.1) word else [])) ∙ sym all
        by false p c ep ec eo = eo

    -- a turn of a loop that narrows what is left to a test's words and adds what the test's net
    -- gives
    pub first_step : (book1 book2 : Diagrams) (pool1 : List Node) → Extends book book1 → Extends book1 book2 → Grows pool pool1 → (out : List Route) → IsRouteTable book1 pool1 out → test.0 < length book.nodes → AreTables book pool nets
        → (outs new : List ExprModel) (b : Bool) (left here : ℕ) → has_word book1 left word ≡ (b && not (passes book word (take i tests))) → has_word book2 here word ≡ (has_word book1 left word && has_word book1 test.0 word)
        → models_under book1 pool1 out word ≡ (if b then first_exprs book pool nets word (take i tests) else outs)
        → (routes : List Route) → routes ≡ routes_at nets test.1
        → new ≡ (if has_word book2 here word then map (λ t. t) (models_under book2 pool1 routes word) else models_under book2 pool1 out word)
        → new ≡ (if b then first_exprs book pool nets word (take (i + 1) tests) else outs)
    first_step book1 book2 pool1 e1 e2 g out table in_book tables outs new b left here el eh old routes er en =
        first_exprs_more outs new (models_under book2 pool1 out word) (map (λ t. t) (models_under book2 pool1 routes word)) b (passes book word (take i tests)) (has_word book test.0 word) refl refl
        (both_later book1 book2 pool1 pool1 e2 (grows_refl pool1) out table word ∙ old)
        (map_same (models_under book2 pool1 routes word) ∙ ap (λ l. models_under book2 pool1 l word) er
        ∙ both_later book book2 pool pool1 (extends_trans book book1 book2 e1 e2) g (routes_at nets test.1) (tables.tables test.1) word)
        (en ∙ ap (λ d. if d then map (λ t. t) (models_under book2 pool1 routes word) else models_under book2 pool1 out word)
        (eh ∙ (λ j. el j && same_words book book1 e1 test.0 in_book word j)))

    pub left_more : (b p c new : Bool) → p ≡ passes book word (take i tests) → c ≡ has_word book test.0 word → new ≡ ((b && not p) && not c) → new ≡ (b && not (passes book word (take (i + 1) tests)))
    left_more b p c new ep ec en =
        en ∙ gate_step b p c ∙ (λ j. b && not (ep j || ec j)) ∙ ap (λ q. b && not q) (sym (ap (passes book word) one_more ∙ passes_more (take i tests) test))

pub tables_later : (book book' : Diagrams) (pool pool' : List Node) → Extends book book' → Grows pool pool' → (nets : List (List Route)) → AreTables book pool nets → AreTables book' pool' nets
tables_later book book' pool pool' e g nets t = record {
  tables = λ n. table_later book book' pool pool' e g (routes_at nets n) (t.tables n);
  one = λ n word fits. subst (λ l. length l ≤ 1) (sym (held_later book book' e (routes_at nets n) (t.tables n).right.sets word)) (t.one n word (subst (λ b. word < 2 ^ b) e.bits fits));
}

module _ (book : Diagrams) (pool : List Node) (nets : List (List Route)) (word : ℕ) (tests : List (ℕ × ℕ)) where
  -- no route has the words that no test holds
  pub rest_apart : (pool' : List Node) (now : List ℕ) (a l : Bool) → l ≡ (a && not (passes book word tests)) → map (expr_of_id pool') now ≡ (if a then first_exprs book pool nets word tests else []) → l ≡ true → now ≡ []
  rest_apart pool' now a l e h t = by a (passes book word tests) refl (sym e ∙ t) h
    where
      by : (a p : Bool) → p ≡ passes book word tests → (a && not p) ≡ true → map (expr_of_id pool') now ≡ (if a then first_exprs book pool nets word tests else []) → now ≡ []
      by true true ep q h = absurd (true≢false (sym q))
      by true false ep q h = no_exprs (expr_of_id pool') now (h ∙ none_taken book pool nets word tests (sym ep))
      by false p ep q h = absurd (true≢false (sym q))

  pub with_rest : (new old add : List ExprModel) (a l : Bool) → l ≡ (a && not (passes book word tests)) → old ≡ (if a then first_exprs book pool nets word tests else []) → new ≡ (if l then add else old)
      → new ≡ (if a then (if passes book word tests then first_exprs book pool nets word tests else add) else [])
  with_rest new old add a l e eo en = en ∙ ap (λ b. if b then add else old) e ∙ by a (passes book word tests) eo
    where
      by : (a p : Bool) → old ≡ (if a then first_exprs book pool nets word tests else []) → (if a && not p then add else old) ≡ (if a then (if p then first_exprs book pool nets word tests else add) else [])
      by true true eo = eo
      by true false eo = refl
      by false p eo = eo
