-- Rows of cases, and choices between two of them.
use Rattle.std.proofs.Common.{◌≡◌, ℕ, ◌<◌, ◌==◌, Bool, true, false, if◌then◌else◌, List, [], ◌∷◌, length, Option, None, Some, refl, sym, ap, ◌∙◌, arith, true≢false}
use Rattle.std.proofs.lemmas.Bool.{eqb-true}
use Rattle.bit_bdd.specs.Diagrams.{Diagrams, Extends}
use Rattle.bit_bdd.proofs.CallerLemmas.{same_words}
use Rattle.net_model.specs.Exprs.{ExprModel, const, select, expr_width}
use Rattle.net_model.specs.Symbolic.{case_expr}
use Rattle.net_model.specs.Nets.{row_nets}
use Rattle.sym_expr.specs.declared.pool.Node.{Node}
use Rattle.sym_expr.specs.Pools.{Grows}
use Rattle.sym_expr.proofs.CallerLemmas.{same_expr}
use Rattle.ctl_bdd.specs.Bits.{number_at}
use Rattle.transfer_set.specs.declared.route.Route.{Route}
use Rattle.transfer_set.specs.Routes.{routes_at, only, AllExprs}
use Rattle.route_trace.specs.declared.heads.Binary.TheVariants.{Select}
use Rattle.route_trace.specs.Inner.Routing.{AreTables}
use Rattle.route_trace.specs.Inner.Gates.{AllGive, AllWide, DriverTests}
use Rattle.route_trace.specs.Inner.Selects.{AllSelectFit, selects}
use Rattle.route_trace.specs.Inner.Tests.{AreEnabledAt, AreRowsWide, IsTargetWide, sets_in, target, target_exprs}
use Rattle.route_trace.proofs.Products.{both_later}
use Rattle.route_trace.proofs.Given.{binary_fit_wide}

pub wide_later : (old new : List Node) → Grows old new → (width : ℕ) (routes : List Route) → AllExprs (length old) routes → AllWide old width routes → AllWide new width routes
wide_later old new g width [] e w = tt
wide_later old new g width (r ∷ routes) e w = (ap expr_width (same_expr old new g r.expr e.0) ∙ w.0, wide_later old new g width routes e.1 w.1)

pub target_wide : (pool : List Node) (nets : List (List Route)) (width key : ℕ) (rows : List (ℕ × ℕ)) (rest : Option ℕ) → AreRowsWide pool nets width rows rest → IsTargetWide pool nets width (target rows key rest)
target_wide pool nets width key [] rest w = w
target_wide pool nets width key (row ∷ rows) rest w = by (row.0 == key) (target_wide pool nets width key rows rest w.1)
  where
    by : (b : Bool) → IsTargetWide pool nets width (target rows key rest) → IsTargetWide pool nets width (if b then Some row.1 else target rows key rest)
    by true later = w.0
    by false later = later

pub target_wide_later : (book : Diagrams) (old new : List Node) (nets : List (List Route)) → Grows old new → AreTables book old nets → (width : ℕ) (net : Option ℕ) → IsTargetWide old nets width net → IsTargetWide new nets width net
target_wide_later book old new nets g t width None w = tt
target_wide_later book old new nets g t width (Some n) w = wide_later old new g width (routes_at nets n) (t.tables n).exprs w

module _ (book book' : Diagrams) (pool pool' : List Node) (e : Extends book book') (g : Grows pool pool') (nets : List (List Route)) (t : AreTables book pool nets) (legal : ℕ) (legal_in : legal < length book.nodes) (word : ℕ) where
  pub target_later : (width : ℕ) (net : Option ℕ) → target_exprs book' pool' nets legal width net word ≡ target_exprs book pool nets legal width net word
  target_later width None = ap (λ b. if b then const width 0 ∷ [] else []) (same_words book book' e legal legal_in word)
  target_later width (Some n) = both_later book book' pool pool' e g (routes_at nets n) (t.tables n) word

  pub given_later : (f : ℕ → ExprModel) (ms : List ℕ) → AllGive book pool nets legal f word ms → AllGive book' pool' nets legal f word ms
  given_later f [] h = tt
  given_later f (m ∷ ms) h =
      (both_later book book' pool pool' e g (routes_at nets m) (t.tables m) word ∙ h.0 ∙ ap (λ b. if b then f m ∷ [] else []) (sym (same_words book book' e legal legal_in word)), given_later f ms h.1)

-- the net of a row gives what the case takes
pub target_given : (book : Diagrams) (pool : List Node) (nets : List (List Route)) (legal : ℕ) (t : ℕ → ExprModel) (word width key : ℕ) (rows : List (ℕ × ℕ)) (rest : Option ℕ) → AllGive book pool nets legal t word (row_nets rows rest)
    → target_exprs book pool nets legal width (target rows key rest) word ≡ only book legal word (case_expr t width key rows rest)
target_given book pool nets legal t word width key [] None g = refl
target_given book pool nets legal t word width key [] (Some n) g = g.0
target_given book pool nets legal t word width key (row ∷ rows) rest g = by (row.0 == key) (target_given book pool nets legal t word width key rows rest g.1)
  where
    by : (b : Bool) → target_exprs book pool nets legal width (target rows key rest) word ≡ only book legal word (case_expr t width key rows rest)
        → target_exprs book pool nets legal width (if b then Some row.1 else target rows key rest) word ≡ only book legal word (if b then t row.1 else case_expr t width key rows rest)
    by true e = g.0
    by false e = e

pub selects_given : (b : Bool) (x y z : ExprModel) (xs ys zs new : List ExprModel) → xs ≡ (if b then x ∷ [] else []) → ys ≡ (if b then y ∷ [] else []) → zs ≡ (if b then z ∷ [] else []) → new ≡ (if b then selects xs ys zs else [])
    → new ≡ (if b then select x y z ∷ [] else [])
selects_given true x y z xs ys zs new e f g h = h ∙ (λ j. selects (e j) (f j) (g j))
selects_given false x y z xs ys zs new e f g h = h

pub select_fit_wide : (pool : List Node) (width : ℕ) (choices firsts seconds : List Route) → AllWide pool 1 choices → AllWide pool width firsts → AllWide pool width seconds → AllSelectFit pool choices firsts seconds
select_fit_wide pool width [] firsts seconds c f s = tt
select_fit_wide pool width (choice ∷ choices) firsts seconds c f s =
    (binary_fit_wide (Select choice.expr) pool width width (λ a e. (c.0, sym e)) firsts seconds f s, select_fit_wide pool width choices firsts seconds c.1 f s)

-- tests of drivers by the values of their enables
pub drivers_valued : (book : Diagrams) (bits : List (ℕ × List ℕ)) (word : ℕ) (u : ℕ → ℕ) (tests drivers : List (ℕ × ℕ)) → AreEnabledAt book bits word u drivers
    → DriverTests book word (λ n. number_at book (sets_in bits n) word) tests drivers → DriverTests book word u tests drivers
drivers_valued book bits word u [] [] e h = tt
drivers_valued book bits word u [] (driver ∷ drivers) e h = h
drivers_valued book bits word u (test ∷ tests) [] e h = h
drivers_valued book bits word u (test ∷ tests) (driver ∷ drivers) e h = (h.0 ∙ ap (λ n. n == 1) e.0, h.1, drivers_valued book bits word u tests drivers e.1 h.2)

-- what the test for an empty list tells
pub none_there : (sets : List ℕ) (b : Bool) → b ≡ (length sets == 0) → b ≡ true → 0 < length sets → ⊥
none_there sets b e h lt = let z : length sets ≡ 0 = eqb-true (length sets) 0 (sym e ∙ h) in absurd (omega (arith, z, lt))

pub some_there : (sets : List ℕ) (b : Bool) → b ≡ (length sets == 0) → b ≡ false → 0 < length sets
some_there [] b e h = absurd (true≢false (sym e ∙ h))
some_there (set ∷ sets) b e h = omega arith
