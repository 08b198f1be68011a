-- What gates give, from what their nets give.
use Rattle.std.proofs.Common.{◌≡◌, ℕ, ◌==◌, ◌||◌, Bool, true, false, if◌then◌else◌, List, [], ◌∷◌, Option, None, Some, refl, sym, ap, subst, ◌∙◌}
use Rattle.bit_bdd.specs.Diagrams.{Diagrams, has_word}
use Rattle.net_model.specs.Exprs.{ExprModel, const, expr_width}
use Rattle.net_model.specs.Symbolic.{case_expr, bus_expr}
use Rattle.net_model.specs.Nets.{driver_nets, row_nets}
use Rattle.sym_expr.specs.declared.pool.Node.{Node}
use Rattle.sym_expr.specs.Pools.{expr_of_id}
use Rattle.transfer_set.specs.declared.route.Route.{Route}
use Rattle.route_trace.specs.declared.heads.Head.{Head}
use Rattle.route_trace.specs.declared.heads.Binary.{Binary}
use Rattle.route_trace.specs.Inner.Heads.{LastFits, binary_head}
use Rattle.transfer_set.specs.Routes.{models_under, routes_at, only}
use Rattle.route_trace.specs.Inner.Routing.{passes, first_exprs, AllFit, AllBinaryFit}
use Rattle.route_trace.specs.Inner.Gates.{rest_exprs, AllGive, AllWide, RowTests, DriverTests}

-- expressions of one width are operands of what asks for it
pub fit_wide : (head : Head) (pool : List Node) (width : ℕ) → LastFits head (expr_of_id pool) width → (routes : List Route) → AllWide pool width routes → AllFit head pool routes
fit_wide head pool width f [] w = tt
fit_wide head pool width f (r ∷ routes) w = (subst (λ n. LastFits head (expr_of_id pool) n) (sym w.0) f, fit_wide head pool width f routes w.1)

pub binary_fit_wide : (binary : Binary) (pool : List Node) (first second : ℕ) → ((a : ℕ) → expr_width (expr_of_id pool a) ≡ first → LastFits (binary_head binary a) (expr_of_id pool) second) → (xs ys : List Route) → AllWide pool first xs → AllWide pool second ys → AllBinaryFit binary pool xs ys
binary_fit_wide binary pool first second f [] ys v w = tt
binary_fit_wide binary pool first second f (x ∷ xs) ys v w = (fit_wide (binary_head binary x.expr) pool second (f x.expr v.0) ys w, binary_fit_wide binary pool first second f xs ys v.1 w)

-- the first test that holds
module _ (book : Diagrams) (pool : List Node) (nets : List (List Route)) (legal : ℕ) (t : ℕ → ExprModel) (word width : ℕ) (is : has_word book legal word ≡ true) where
  given : (m : ℕ) → models_under book pool (routes_at nets m) word ≡ only book legal word (t m) → models_under book pool (routes_at nets m) word ≡ t m ∷ []
  given m e = e ∙ ap (λ b. if b then t m ∷ [] else []) is

  first_case : (key : ℕ) (tests rows : List (ℕ × ℕ)) (rest : Option ℕ) → RowTests book word key tests rows → AllGive book pool nets legal t word (row_nets rows rest)
      → (if passes book word tests then first_exprs book pool nets word tests else rest_exprs book pool nets width rest word) ≡ case_expr t width key rows rest ∷ []
  first_case key [] [] None h g = refl
  first_case key [] [] (Some n) h g = given n g.0
  first_case key [] (row ∷ rows) rest h g = absurd h
  first_case key (test ∷ tests) [] rest h g = absurd h
  first_case key (test ∷ tests) (row ∷ rows) rest h g =
      (λ j. if h.0 j || passes book word tests then (if h.0 j then models_under book pool (routes_at nets (h.1 j)) word else first_exprs book pool nets word tests) else rest_exprs book pool nets width rest word)
      ∙ by (row.0 == key) (first_case key tests rows rest h.2 g.1)
    where
      by : (b : Bool) → (if passes book word tests then first_exprs book pool nets word tests else rest_exprs book pool nets width rest word) ≡ case_expr t width key rows rest ∷ []
          → (if b || passes book word tests then (if b then models_under book pool (routes_at nets row.1) word else first_exprs book pool nets word tests) else rest_exprs book pool nets width rest word)
          ≡ (if b then t row.1 else case_expr t width key rows rest) ∷ []
      by true e = given row.1 g.0
      by false e = e

  first_bus : (u : ℕ → ℕ) (tests drivers : List (ℕ × ℕ)) → DriverTests book word u tests drivers → AllGive book pool nets legal t word (driver_nets drivers)
      → (if passes book word tests then first_exprs book pool nets word tests else const width 0 ∷ []) ≡ bus_expr t u width drivers ∷ []
  first_bus u [] [] h g = refl
  first_bus u [] (driver ∷ drivers) h g = absurd h
  first_bus u (test ∷ tests) [] h g = absurd h
  first_bus u (test ∷ tests) (driver ∷ drivers) h g =
      (λ j. if h.0 j || passes book word tests then (if h.0 j then models_under book pool (routes_at nets (h.1 j)) word else first_exprs book pool nets word tests) else const width 0 ∷ [])
      ∙ by (u driver.1 == 1) (first_bus u tests drivers h.2 g.1.1)
    where
      by : (b : Bool) → (if passes book word tests then first_exprs book pool nets word tests else const width 0 ∷ []) ≡ bus_expr t u width drivers ∷ []
          → (if b || passes book word tests then (if b then models_under book pool (routes_at nets driver.0) word else first_exprs book pool nets word tests) else const width 0 ∷ [])
          ≡ (if b then t driver.0 else bus_expr t u width drivers) ∷ []
      by true e = given driver.0 g.0
      by false e = e

only_by : (b : Bool) (xs : List ExprModel) (x : ExprModel) → (b ≡ true → xs ≡ x ∷ []) → (if b then xs else []) ≡ (if b then x ∷ [] else [])
only_by true xs x h = h refl
only_by false xs x h = refl

pub given_case : (book : Diagrams) (pool : List Node) (nets : List (List Route)) (legal : ℕ) (t : ℕ → ExprModel) (word width : ℕ) (key : ℕ) (tests rows : List (ℕ × ℕ)) (rest : Option ℕ) (other : ExprModel) (s : Bool) → s ≡ true → RowTests book word key tests rows → AllGive book pool nets legal t word (row_nets rows rest)
    → (new : List ExprModel) → new ≡ (if has_word book legal word then (if passes book word tests then first_exprs book pool nets word tests else rest_exprs book pool nets width rest word) else [])
    → new ≡ only book legal word (if s then case_expr t width key rows rest else other)
given_case book pool nets legal t word width key tests rows rest other s es h g new e =
    e ∙ only_by (has_word book legal word) _ _ (λ is. first_case book pool nets legal t word width is key tests rows rest h g) ∙ ap (λ b. only book legal word (if b then case_expr t width key rows rest else other)) (sym es)

pub given_bus : (book : Diagrams) (pool : List Node) (nets : List (List Route)) (legal : ℕ) (t : ℕ → ExprModel) (word width : ℕ) (u : ℕ → ℕ) (tests drivers : List (ℕ × ℕ)) → DriverTests book word u tests drivers → AllGive book pool nets legal t word (driver_nets drivers)
    → (new : List ExprModel) → new ≡ (if has_word book legal word then (if passes book word tests then first_exprs book pool nets word tests else const width 0 ∷ []) else [])
    → new ≡ only book legal word (bus_expr t u width drivers)
given_bus book pool nets legal t word width u tests drivers h g new e =
    e ∙ only_by (has_word book legal word) _ _ (λ is. first_bus book pool nets legal t word width is u tests drivers h g)
