-- Which ways lead from the first word and from the marks of tests to the next marks.
use Rattle.std.specs.Prelude.{ℕ, ◌≡◌, Bool, true, false, if◌then◌else◌, List, [], ◌∷◌, Option, Some, None, slice_get}
use Rattle.net_model.specs.declared.hardware.Netlist.{Netlist}
use Rattle.src_model.specs.Written.{ProgramModel}
use Rattle.code_model.specs.declared.image.Mark.{Mark}
use Rattle.code_model.specs.declared.views.Viewed.{Viewed}
use Rattle.form_model.specs.declared.flow.Flow.TheVariants.{Test}
use Rattle.src_trees.specs.Flows.{program_flow, program_jobs}
use Rattle.src_trees.specs.Lowered.{MemoryMap}
use Rattle.follow.specs.Paths.{Path, path_from}
use Rattle.follow.specs.Relations.{Relation}
use Rattle.segment.specs.declared.way.Way.{Way}
use Rattle.segment.specs.declared.way.Way.TheVariants.{Never, Takes, Unknown}
use Rattle.segment.specs.Timed.{IsFirstWay, IsWay}
use Rattle.followed.specs.declared.passed.Turn.{Turn}

-- the mark of a test: its address, and the number of the test's tree
pub record TestMark : Type 0 where
  pub address : ℕ
  pub tree : ℕ

abbrev pub test_with : ℕ → Option ℕ → List TestMark → List TestMark
test_with address None later = later
test_with address (Some tree) later = record { address = address; tree = tree } ∷ later

-- the marks of tests, in order
abbrev pub tests_of : List Mark → List TestMark
tests_of [] = []
tests_of (mark ∷ marks) = test_with mark.address mark.label (tests_of marks)

-- it is known where it leads
abbrev pub IsKnown : Way → Type 0
IsKnown (Takes clocks to) = Unit {0}
IsKnown Never = Unit {0}
IsKnown (Unknown why) = ⊥

-- the way from a mark where its test has an answer, over each path of the program's flow from there
pub record IsTurn (netlist : Netlist) (viewed : Viewed) (relation : ℕ → Relation) (m : MemoryMap) (temps : ℕ) (l : ProgramModel) (most : ℕ)
    (mark : TestMark) (answer : Bool) (way : Way) : Type 0 where
  pub known : IsKnown way
  pub is : (at when_one when_zero n : ℕ) (path : Path) → slice_get (program_flow l) at ≡ Some (Test mark.tree when_one when_zero)
      → path_from (program_flow l) (program_jobs m l) n (if answer then when_one else when_zero) ≡ Some path
      → IsWay netlist viewed relation m temps l most mark.address mark.tree answer path way

-- those from all marks of tests, for both answers
abbrev pub AreTurns : Netlist → Viewed → (ℕ → Relation) → MemoryMap → ℕ → ProgramModel → ℕ → List TestMark → List Turn → Type 0
AreTurns netlist viewed relation m temps l most [] [] = Unit {0}
AreTurns netlist viewed relation m temps l most (mark ∷ marks) (turn ∷ turns) =
    (turn.address ≡ mark.address) × IsTurn netlist viewed relation m temps l most mark true turn.when_one
    × IsTurn netlist viewed relation m temps l most mark false turn.when_zero
    × AreTurns netlist viewed relation m temps l most marks turns
AreTurns netlist viewed relation m temps l most _ _ = ⊥

-- the way from the first word, over each path of the program's flow
pub record IsFirstTurn (netlist : Netlist) (viewed : Viewed) (relation : ℕ → Relation) (m : MemoryMap) (temps : ℕ) (l : ProgramModel) (most : ℕ)
    (way : Way) : Type 0 where
  pub known : IsKnown way
  pub is : (n : ℕ) (path : Path) → path_from (program_flow l) (program_jobs m l) n 0 ≡ Some path
      → IsFirstWay netlist viewed relation m temps l most path way
