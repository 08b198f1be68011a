-- Tests of rows and drivers, one after the other.
use Rattle.std.proofs.Common.{◌≡◌, ℕ, zero, suc, ◌+◌, ◌<◌, ◌==◌, Bool, true, false, List, [], ◌∷◌, ◌++◌, take, length, add-one, refl, ◌∙◌, arith}
use Rattle.std.specs.List.{AllByRecursion, slice_index_or}
use Rattle.bit_bdd.specs.Diagrams.{Diagrams, has_word, Extends}
use Rattle.bit_bdd.proofs.CallerLemmas.{same_words}
use Rattle.ctl_bdd.specs.Bits.{AreSets, number_at, bits_value}
use Rattle.route_trace.specs.Inner.Routing.{AllTests}
use Rattle.route_trace.specs.Inner.Gates.{RowTests, DriverTests}

pub tests_later : (old new : Diagrams) → Extends old new → (tests : List (ℕ × ℕ)) → AllTests old tests → AllTests new tests
tests_later old new e [] h = tt
tests_later old new e (test ∷ tests) h = (omega (arith, h.0, e.longer), tests_later old new e tests h.1)

pub tests_push : (book : Diagrams) (tests : List (ℕ × ℕ)) (set net : ℕ) → AllTests book tests → set < length book.nodes → AllTests book (tests ++ (set, net) ∷ [])
tests_push book [] set net h k = (k, tt)
tests_push book (test ∷ tests) set net h k = (h.0, tests_push book tests set net h.1 k)

pub rows_later : (old new : Diagrams) → Extends old new → (word key : ℕ) (tests rows : List (ℕ × ℕ)) → AllTests old tests → RowTests old word key tests rows → RowTests new word key tests rows
rows_later old new e word key [] [] h r = tt
rows_later old new e word key [] (row ∷ rows) h r = r
rows_later old new e word key (test ∷ tests) [] h r = r
rows_later old new e word key (test ∷ tests) (row ∷ rows) h r = (same_words old new e test.0 h.0 word ∙ r.0, r.1, rows_later old new e word key tests rows h.1 r.2)

module _ (book : Diagrams) (word key set : ℕ) where
  rows_more : (tests rows : List (ℕ × ℕ)) (i : ℕ) → i < length rows → RowTests book word key tests (take i rows)
      → has_word book set word ≡ ((slice_index_or rows i (0, 0)).0 == key) → RowTests book word key (tests ++ (set, (slice_index_or rows i (0, 0)).1) ∷ []) (take (suc i) rows)
  rows_more tests [] i lt h e = absurd (omega (arith, lt))
  rows_more [] (row ∷ rows) zero lt h e = (e, refl, tt)
  rows_more (test ∷ tests) (row ∷ rows) zero lt h e = absurd h
  rows_more [] (row ∷ rows) (suc i) lt h e = absurd h
  rows_more (test ∷ tests) (row ∷ rows) (suc i) lt h e = (h.0, h.1, rows_more tests rows i (omega (arith, lt)) h.2 e)

  pub rows_push : (tests rows : List (ℕ × ℕ)) (i : ℕ) → i < length rows → RowTests book word key tests (take i rows)
      → has_word book set word ≡ ((slice_index_or rows i (0, 0)).0 == key) → RowTests book word key (tests ++ (set, (slice_index_or rows i (0, 0)).1) ∷ []) (take (i + 1) rows)
  rows_push tests rows i lt h e = rw (add-one i) (rows_more tests rows i lt h e)

module _ (book : Diagrams) (word : ℕ) (u : ℕ → ℕ) (set : ℕ) where
  drivers_more : (tests drivers : List (ℕ × ℕ)) (i : ℕ) → i < length drivers → DriverTests book word u tests (take i drivers)
      → has_word book set word ≡ (u (slice_index_or drivers i (0, 0)).1 == 1) → DriverTests book word u (tests ++ (set, (slice_index_or drivers i (0, 0)).0) ∷ []) (take (suc i) drivers)
  drivers_more tests [] i lt h e = absurd (omega (arith, lt))
  drivers_more [] (driver ∷ drivers) zero lt h e = (e, refl, tt)
  drivers_more (test ∷ tests) (driver ∷ drivers) zero lt h e = absurd h
  drivers_more [] (driver ∷ drivers) (suc i) lt h e = absurd h
  drivers_more (test ∷ tests) (driver ∷ drivers) (suc i) lt h e = (h.0, h.1, drivers_more tests drivers i (omega (arith, lt)) h.2 e)

  pub drivers_push : (tests drivers : List (ℕ × ℕ)) (i : ℕ) → i < length drivers → DriverTests book word u tests (take i drivers)
      → has_word book set word ≡ (u (slice_index_or drivers i (0, 0)).1 == 1) → DriverTests book word u (tests ++ (set, (slice_index_or drivers i (0, 0)).0) ∷ []) (take (i + 1) drivers)
  drivers_push tests drivers i lt h e = rw (add-one i) (drivers_more tests drivers i lt h e)

pub pair_at : (P : ℕ × ℕ → Type 0) (pairs : List (ℕ × ℕ)) (i : ℕ) → i < length pairs → AllByRecursion P pairs → P (slice_index_or pairs i (0, 0))
pair_at P [] i lt h = absurd (omega (arith, lt))
pair_at P (pair ∷ pairs) zero lt h = h.0
pair_at P (pair ∷ pairs) (suc i) lt h = pair_at P pairs i (omega (arith, lt)) h.1

-- the one set of a bit tells whether the bit is 1
pub enabled : (book : Diagrams) (sets : List ℕ) (word : ℕ) → length sets ≡ 1 → has_word book (slice_index_or sets 0 0) word ≡ (number_at book sets word == 1)
enabled book [] word e = absurd (omega (arith, e))
enabled book (set ∷ []) word e = by (has_word book set word)
  where
    by : (b : Bool) → b ≡ (bits_value (b ∷ []) == 1)
    by true = refl
    by false = refl
enabled book (set ∷ next ∷ sets) word e = absurd (omega (arith, e))

pub one_in : (book : Diagrams) (sets : List ℕ) → length sets ≡ 1 → AreSets book sets → slice_index_or sets 0 0 < length book.nodes
one_in book [] e h = absurd (omega (arith, e))
one_in book (set ∷ sets) e h = h.0
