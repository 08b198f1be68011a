-- The statements of a program with the loops round each, what a rule finds broken in them, and S5,
-- the rule of counters. What a rule finds in a program's statements, in the order of the text,
-- with the loops round each, the innermost first. S5: a loop whose counter is assigned or counted
-- with in its body, whose numbers are out of order, or whose number past the last is no word.
use Rattle.std.specs.Prelude.{ℕ, ◌+◌, ◌^◌, ◌||◌, Bool, is_some, nat_lt, nat_le, List, [], ◌∷◌, ◌++◌}
use Rattle.rec_bits.specs.Faults.{offsets_if, least}
use Rattle.src_model.specs.Written.{SrcNodeModel, SpotModel, SrcExprModel, node_at, SrcTestModel, StmtModel, assign, choice, while, count, StmtsModel, no_acts, act, ElseModel, without, otherwise}
use Rattle.rec_bits.specs.Faults.{same_name}

-- a loop: its counter, and the counter's first and last number
pub record Round : Type 0 where
  pub counter : List ℕ
  pub from : ℕ
  pub to : ℕ

abbrev pub place_shape : SpotModel → SrcNodeModel
place_shape place = node_at place.name place.at place.index

-- where a rule is broken in an assignment, in a test, and in a `for` with the offset of its counter
-- and its body, given the loops round them, the innermost first
pub record LoopRuleModel : Type 0 where
  pub assigned : List Round → SpotModel → SrcExprModel → List ℕ
  pub tested : List Round → SrcTestModel → List ℕ
  pub counted : Round → ℕ → StmtsModel → List ℕ

abbrev mutual
  -- where a rule is broken in a statement, in the order of the text
  pub breaks : LoopRuleModel → List Round → StmtModel → List ℕ
  breaks rule rounds (assign place value) = rule.assigned rounds place value
  breaks rule rounds (choice test taken other) =
      rule.tested rounds test ++ breaks_in rule rounds taken ++ breaks_else rule rounds other
  breaks rule rounds (while test body) = rule.tested rounds test ++ breaks_in rule rounds body
  breaks rule rounds (count counter at from to body) =
      rule.counted (record { counter = counter; from = from; to = to }) at body
      ++ breaks_in rule (record { counter = counter; from = from; to = to } ∷ rounds) body

  pub breaks_in : LoopRuleModel → List Round → StmtsModel → List ℕ
  breaks_in rule rounds no_acts = []
  breaks_in rule rounds (act a rest) = breaks rule rounds a ++ breaks_in rule rounds rest

  pub breaks_else : LoopRuleModel → List Round → ElseModel → List ℕ
  breaks_else rule rounds without = []
  breaks_else rule rounds (otherwise body) = breaks_in rule rounds body

-- where a variable is assigned, or is the counter of a loop
abbrev pub changes_rule : List ℕ → LoopRuleModel
changes_rule name = record {
  assigned = λ rounds place value. offsets_if (same_name place.name name) place.at;
  tested = λ rounds test. [];
  counted = λ round at body. offsets_if (same_name round.counter name) at;
}

-- S5: a loop's counter is changed in its body, the numbers are out of order, or the one past the
-- last is no word
abbrev pub miscounted : ℕ → Round → StmtsModel → Bool
miscounted word round body =
    is_some (least (breaks_in (changes_rule round.counter) [] body))
    || nat_lt (round.to + 1) round.from || nat_le (2 ^ word) (round.to + 1)

abbrev pub counters : ℕ → LoopRuleModel
counters word = record {
  assigned = λ rounds place value. [];
  tested = λ rounds test. [];
  counted = λ round at body. offsets_if (miscounted word round body) at;
}
