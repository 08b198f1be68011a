-- Routes that are given up give each word nothing yet, or what is right for it.
use Rattle.std.proofs.Common.{◌≡◌, ◌⊎◌, inl, inr, ℕ, zero, suc, ◌^◌, ◌<◌, ◌≤◌, Bool, true, false, if◌then◌else◌, List, [], ◌∷◌, ◌++◌, map, take, length, refl, sym, ap, ◌∙◌, arith}
use Rattle.std.proofs.Math.Seq.{take-nil}
use Rattle.bit_bdd.specs.Diagrams.{Diagrams, has_word}
use Rattle.net_model.specs.Exprs.{ExprModel}
use Rattle.sym_expr.specs.declared.pool.Node.{Node}
use Rattle.sym_expr.specs.Pools.{expr_of_id}
use Rattle.transfer_set.specs.declared.route.Route.{Route}
use Rattle.transfer_set.specs.Routes.{exprs_under, models_under, routes_at}
use Rattle.route_trace.specs.Inner.Routing.{first_exprs, passes}
use Rattle.route_trace.specs.Inner.Stops.{IfMany, IsOver}
use Rattle.route_trace.proofs.Firsts.{none_taken}
use Rattle.route_trace.specs.declared.stop.TraceStop.{TraceStop}
use Rattle.route_trace.specs.declared.stop.TraceStop.TheVariants.{Many, Memory}

-- what is right for a part is nothing or right for the whole
abbrev Becomes : Diagrams → (P Q : ℕ → List ExprModel → Type 0) → Type 0
Becomes book P Q = (word : ℕ) → word < 2 ^ book.bits → (exprs : List ExprModel) → P word exprs → (exprs ≡ []) ⊎ Q word exprs

pub many_in : (stop : TraceStop) (book : Diagrams) (pool : List Node) (P Q : ℕ → List ExprModel → Type 0) → Becomes book P Q → IfMany stop (IsOver book pool P) → IfMany stop (IsOver book pool Q)
many_in Memory book pool P Q f o = tt
many_in Many book pool P Q f o = record {
  routes = o.routes;
  many = o.many;
  table = o.table;
  part = λ word fits.
      elim (o.part word fits) as (λ _. (models_under book pool o.routes word ≡ []) ⊎ Q word (models_under book pool o.routes word)) [
        | inl e ↦ inl e
        | inr p ↦ f word fits (models_under book pool o.routes word) p
      ];
}

-- ---- some routes of a list

-- where at most one route holds a word, the first of them hold it as all do, or not at all
held_taken : (book : Diagrams) (routes : List Route) (k word : ℕ) → length (exprs_under book routes word) ≤ 1 → (exprs_under book (take k routes) word ≡ []) ⊎ (exprs_under book (take k routes) word ≡ exprs_under book routes word)
held_taken book [] k word one = inl (ap (λ l. exprs_under book l word) (take-nil k))
held_taken book (route ∷ routes) zero word one = inl refl
held_taken book (route ∷ routes) (suc k) word one = by (has_word book route.set word) one (held_taken book routes k word)
  where
    none : (xs : List ℕ) → length xs ≤ 0 → xs ≡ []
    none [] h = refl
    none (x ∷ xs) h = absurd (omega (arith, h))

    by : (b : Bool) → length ((if b then route.expr ∷ [] else []) ++ exprs_under book routes word) ≤ 1
        → (length (exprs_under book routes word) ≤ 1 → (exprs_under book (take k routes) word ≡ []) ⊎ (exprs_under book (take k routes) word ≡ exprs_under book routes word))
        → ((if b then route.expr ∷ [] else []) ++ exprs_under book (take k routes) word ≡ []) ⊎ ((if b then route.expr ∷ [] else []) ++ exprs_under book (take k routes) word ≡ (if b then route.expr ∷ [] else []) ++ exprs_under book routes word)
    by false one rest = rest one
    by true one rest =
        let empty = none (exprs_under book routes word) (omega (arith, one)) in
        inr (ap (λ l. route.expr ∷ l) (elim (rest (omega (arith, one))) as (λ _. exprs_under book (take k routes) word ≡ exprs_under book routes word) [ inl e ↦ e ∙ sym empty | inr e ↦ e ]))

-- what is added for the first of some routes
pub part_taken : (f : List ExprModel → List ExprModel) → f [] ≡ [] → (book : Diagrams) (pool : List Node) (routes : List Route) (k word : ℕ) → length (exprs_under book routes word) ≤ 1 → (b : Bool) (outs exprs : List ExprModel)
    → exprs ≡ (if b then f (models_under book pool (take k routes) word) else outs) → (exprs ≡ []) ⊎ (exprs ≡ (if b then f (models_under book pool routes word) else outs))
part_taken f none book pool routes k word one false outs exprs e = inr e
part_taken f none book pool routes k word one true outs exprs e =
    elim (held_taken book routes k word one) as (λ _. (exprs ≡ []) ⊎ (exprs ≡ f (models_under book pool routes word))) [
      | inl n ↦ inl (e ∙ ap (λ l. f (map (expr_of_id pool) l)) n ∙ none)
      | inr a ↦ inr (e ∙ ap (λ l. f (map (expr_of_id pool) l)) a)
    ]

-- ---- some tests of a list

-- the first tests take a word as all do, or not at all
first_taken : (book : Diagrams) (pool : List Node) (nets : List (List Route)) (word : ℕ) (tests : List (ℕ × ℕ)) (k : ℕ)
    → (first_exprs book pool nets word (take k tests) ≡ []) ⊎ (first_exprs book pool nets word (take k tests) ≡ first_exprs book pool nets word tests)
first_taken book pool nets word [] k = inl (ap (first_exprs book pool nets word) (take-nil k))
first_taken book pool nets word (test ∷ tests) zero = inl refl
first_taken book pool nets word (test ∷ tests) (suc k) = by (has_word book test.0 word) (first_taken book pool nets word tests k)
  where
    by : (b : Bool) → (first_exprs book pool nets word (take k tests) ≡ []) ⊎ (first_exprs book pool nets word (take k tests) ≡ first_exprs book pool nets word tests)
        → ((if b then models_under book pool (routes_at nets test.1) word else first_exprs book pool nets word (take k tests)) ≡ [])
        ⊎ ((if b then models_under book pool (routes_at nets test.1) word else first_exprs book pool nets word (take k tests)) ≡ (if b then models_under book pool (routes_at nets test.1) word else first_exprs book pool nets word tests))
    by true rest = inr refl
    by false rest = rest

-- what is added for the first of some tests
pub part_tested : (book : Diagrams) (pool : List Node) (nets : List (List Route)) (word : ℕ) (tests : List (ℕ × ℕ)) (k : ℕ) (b : Bool) (outs exprs : List ExprModel)
    → exprs ≡ (if b then first_exprs book pool nets word (take k tests) else outs) → (exprs ≡ []) ⊎ (exprs ≡ (if b then first_exprs book pool nets word tests else outs))
part_tested book pool nets word tests k false outs exprs e = inr e
part_tested book pool nets word tests k true outs exprs e =
    elim (first_taken book pool nets word tests k) as (λ _. (exprs ≡ []) ⊎ (exprs ≡ first_exprs book pool nets word tests)) [
      | inl n ↦ inl (e ∙ n)
      | inr a ↦ inr (e ∙ a)
    ]

-- what was added by the tests alone, before the rest
pub part_of_tests : (book : Diagrams) (pool : List Node) (nets : List (List Route)) (word : ℕ) (tests : List (ℕ × ℕ)) (b : Bool) (rest exprs : List ExprModel) → exprs ≡ (if b then first_exprs book pool nets word tests else [])
    → (exprs ≡ []) ⊎ (exprs ≡ (if b then (if passes book word tests then first_exprs book pool nets word tests else rest) else []))
part_of_tests book pool nets word tests false rest exprs e = inl e
part_of_tests book pool nets word tests true rest exprs e = by (passes book word tests) refl
  where
    by : (p : Bool) → passes book word tests ≡ p → (exprs ≡ []) ⊎ (exprs ≡ (if p then first_exprs book pool nets word tests else rest))
    by true q = inr e
    by false q = inl (e ∙ none_taken book pool nets word tests q)
