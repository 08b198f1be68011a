-- The places in "ab", LF, "c".
use Rattle.std.specs.Prelude.{ℕ, ◌≡◌, refl, List, [], ◌∷◌}
use Rattle.text_places.specs.Places.{column_at, line_around, line_at}

abbrev two_lines : List ℕ
two_lines = 97 ∷ 98 ∷ 10 ∷ 99 ∷ []

-- the LF is the third byte of the first line
lf_line : line_at two_lines 2 ≡ 1
lf_line = refl

lf_column : column_at two_lines 2 ≡ 3
lf_column = refl

-- and what follows it the first of the second
second_line : line_at two_lines 3 ≡ 2
second_line = refl

second_column : column_at two_lines 3 ≡ 1
second_column = refl

-- the end, and what lies past it
end_column : column_at two_lines 9 ≡ 2
end_column = refl

-- the lines themselves
first : line_around two_lines 1 ≡ 97 ∷ 98 ∷ []
first = refl

of_lf : line_around two_lines 2 ≡ 97 ∷ 98 ∷ []
of_lf = refl

second : line_around two_lines 4 ≡ 99 ∷ []
second = refl
