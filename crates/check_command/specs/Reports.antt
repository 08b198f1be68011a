-- What is written of an image that is accepted.
use Rattle.std.specs.Prelude.{ℕ, Bool, nat_eq, ◌||◌, if◌then◌else◌, List, [], ◌∷◌, ◌++◌, codes}
use Rattle.std.specs.Fmt.{decimal}
use Rattle.std.specs.List.{concat, flat_map, starts_with}
use Rattle.text_lines.specs.Lines.{lines_of}
use Rattle.segment.specs.declared.way.Way.{Way}
use Rattle.segment.specs.declared.way.Way.TheVariants.{Never, Takes, Unknown}
use Rattle.followed.specs.declared.passed.Passed.{Passed}
use Rattle.followed.specs.declared.passed.Turn.{Turn}

-- CLOCKS TO, or never
abbrev pub way_text : Way → List ℕ
way_text (Takes clocks to) = concat (decimal clocks ∷ codes " " ∷ decimal to ∷ [])
way_text Never = codes "never"
way_text (Unknown why) = codes "never"

-- mark ADDRESS ANSWER WAY
abbrev pub answer_line : ℕ → List ℕ → Way → List ℕ
answer_line address answer way =
    concat (codes "mark " ∷ decimal address ∷ answer ∷ way_text way ∷ codes "\n" ∷ [])

-- one line for each answer, 1 before 0
abbrev pub turn_lines : Turn → List ℕ
turn_lines turn =
    answer_line turn.address (codes " 1 ") turn.when_one ++ answer_line turn.address (codes " 0 ") turn.when_zero

-- a line of an image's text that tells a view, or what is hidden
abbrev pub is_told : List ℕ → Bool
is_told line = starts_with nat_eq line (codes "hide ") || starts_with nat_eq line (codes "view ")

abbrev pub told_line : List ℕ → List ℕ
told_line line = if is_told line then line else []

abbrev pub told_lines : List ℕ → List ℕ
told_lines text = flat_map told_line (lines_of text)

-- followed COUNT
abbrev pub count_line : ℕ → List ℕ
count_line marks = concat (codes "followed " ∷ decimal marks ∷ codes "\n" ∷ [])

-- start WAY
abbrev pub start_line : Way → List ℕ
start_line way = concat (codes "start " ∷ way_text way ∷ codes "\n" ∷ [])

-- the ways from the first word and from the marks, and done
abbrev pub passed_text : Passed → List ℕ
passed_text passed = concat (start_line passed.first ∷ flat_map turn_lines passed.turns ∷ codes "done\n" ∷ [])

-- how many marks there are, the views and what is hidden, and the ways
abbrev pub report_text : List ℕ → ℕ → Passed → List ℕ
report_text text marks passed = concat (count_line marks ∷ told_lines text ∷ passed_text passed ∷ [])
