-- Routes that are found by the words that they hold.
use Rattle.std.specs.Prelude.{◌≡◌, ℕ, ◌^◌, ◌<◌, Bool, true, false, List, [], ◌∷◌, Some, slice_get}
use Rattle.bit_bdd.specs.Diagrams.{Diagrams, has_word}
use Rattle.transfer_set.specs.declared.route.Route.{Route}

-- the route at a place holds a word
pub record HoldsAt (book : Diagrams) (routes : List Route) (place word : ℕ) : Type 0 where
  pub route : Route
  pub at : slice_get routes place ≡ Some route
  pub holds : has_word book route.set word ≡ true

-- no route holds the word, where these are the expressions of those that do
abbrev pub is_free : List ℕ → Bool
is_free [] = true
is_free (expr ∷ exprs) = false

-- two sets have a word in common
pub record Meet (book : Diagrams) (a b : ℕ) : Type 0 where
  pub word : ℕ
  pub fits : word < 2 ^ book.bits
  pub first : has_word book a word ≡ true
  pub second : has_word book b word ≡ true
