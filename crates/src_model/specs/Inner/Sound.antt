-- What is known of each statement of a program that keeps its rules, and what counters keep in the
-- bodies of their loops.
use Rattle.std.specs.Prelude.{ℕ, ◌+◌, ◌≡◌, ◌≤◌, true, false, List, [], ◌∷◌}
use Rattle.src_model.specs.declared.program.Var.{Var as Declared}
use Rattle.src_model.specs.Written.{SrcNodeModel, SrcExprModel, SpotModel, SrcTestModel, StmtModel, assign, choice, while, count, StmtsModel, no_acts, act, ElseModel, without, otherwise}
use Rattle.src_model.specs.Names.{declared, is_plain}
use Rattle.rec_bits.specs.Faults.{same_name}
use Rattle.src_model.specs.Loops.{Round, place_shape}
use Rattle.src_model.specs.Indexes.{loose}
use Rattle.src_model.specs.Meaning.{shape_width, FitsStore}
use Rattle.src_model.specs.Trace.{counter_value}
use Rattle.src_model.specs.Fitting.{Fitting, FitsSides}
use Rattle.src_model.specs.Inner.Fitting.{FitsCount}
use Rattle.src_model.specs.Inside.{Known}

-- ---- counters

-- the counter of a loop, in its body
pub record IsCounted (vars : List Declared) (cells : List ℕ) (round : Round) : Type 0 where
  pub plain : is_plain (declared vars round.counter) ≡ true
  pub least : round.from ≤ counter_value vars round.counter cells
  pub most : counter_value vars round.counter cells ≤ round.to

-- the counters of all loops round a statement
abbrev pub Counts : List Declared → List ℕ → List Round → Type 0
Counts vars cells [] = Unit {0}
Counts vars cells (round ∷ outer) = IsCounted vars cells round × Counts vars cells outer

-- a store at a statement of these loops' bodies
pub record Holds (bits : ℕ) (vars : List Declared) (rounds : List Round) (cells : List ℕ) : Type 0 where
  pub fits : FitsStore bits vars cells
  pub counts : Counts vars cells rounds

-- a store at the test of a `for`
pub record Turns (bits : ℕ) (vars : List Declared) (rounds : List Round) (counter : List ℕ)
    (from to : ℕ) (cells : List ℕ) : Type 0 where
  pub holds : Holds bits vars rounds cells
  pub least : from ≤ counter_value vars counter cells
  pub most : counter_value vars counter cells ≤ to + 1

-- a name is no counter of these loops
abbrev pub Frees : List Round → List ℕ → Type 0
Frees [] name = Unit {0}
Frees (round ∷ outer) name = (same_name name round.counter ≡ false) × Frees outer name

-- ---- statements

-- an expression that keeps the rules, given the loops round it
pub record SoundShape (bits : ℕ) (vars : List Declared) (rounds : List Round) (asked : ℕ) (e : SrcNodeModel) : Type 0 where
  pub fits : Fitting bits asked e
  pub known : Known vars e
  pub within : loose vars rounds e ≡ []

pub record SoundAssign (bits : ℕ) (vars : List Declared) (rounds : List Round) (place : SpotModel)
    (e : SrcExprModel) : Type 0 where
  pub left : SoundShape bits vars rounds bits (place_shape place)
  pub right : SoundShape bits vars rounds bits e.shape
  pub width : shape_width bits bits e.shape ≡ bits
  pub free : Frees rounds place.name

pub record SoundTest (bits : ℕ) (vars : List Declared) (rounds : List Round) (test : SrcTestModel) : Type 0 where
  pub sides : FitsSides bits test.left.shape test.right.shape
  pub left_known : Known vars test.left.shape
  pub right_known : Known vars test.right.shape
  pub left_within : loose vars rounds test.left.shape ≡ []
  pub right_within : loose vars rounds test.right.shape ≡ []

pub record SoundCount (bits : ℕ) (vars : List Declared) (rounds : List Round) (counter : List ℕ)
    (from to : ℕ) : Type 0 where
  pub fits : FitsCount bits from to
  pub plain : is_plain (declared vars counter) ≡ true
  pub free : Frees rounds counter

abbrev mutual
  pub Sound : ℕ → List Declared → List Round → StmtModel → Type 0
  Sound bits vars rounds (assign place e) = SoundAssign bits vars rounds place e
  Sound bits vars rounds (choice test taken other) =
      SoundTest bits vars rounds test × SoundIn bits vars rounds taken
      × SoundElse bits vars rounds other
  Sound bits vars rounds (while test body) = SoundTest bits vars rounds test × SoundIn bits vars rounds body
  Sound bits vars rounds (count counter at from to body) =
      SoundCount bits vars rounds counter from to
      × SoundIn bits vars (record { counter = counter; from = from; to = to } ∷ rounds) body

  pub SoundIn : ℕ → List Declared → List Round → StmtsModel → Type 0
  SoundIn bits vars rounds no_acts = Unit {0}
  SoundIn bits vars rounds (act a rest) = Sound bits vars rounds a × SoundIn bits vars rounds rest

  pub SoundElse : ℕ → List Declared → List Round → ElseModel → Type 0
  SoundElse bits vars rounds without = Unit {0}
  SoundElse bits vars rounds (otherwise body) = SoundIn bits vars rounds body
