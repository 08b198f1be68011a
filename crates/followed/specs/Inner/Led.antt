-- When all is ready for segments of an image to be asked for, and what is found of them.
use Rattle.std.specs.Prelude.{ℕ, ◌≡◌, Bool, true, false, List, [], ◌∷◌, Option, Some, None, slice_get, slice_index}
use Rattle.net_model.specs.declared.hardware.Netlist.{Netlist}
use Rattle.net_model.specs.declared.hardware.Space.TheVariants.{Memory as InMemory, File as InFile}
use Rattle.net_model.specs.Control.{IsSound}
use Rattle.net_model.specs.Nets.{counter_of, memory_size, memory_width, place_in, size_in, width_in}
use Rattle.src_model.specs.declared.program.Var.{Var as Declared}
use Rattle.src_model.specs.Written.{ProgramModel}
use Rattle.code_model.specs.declared.views.Viewed.{Viewed}
use Rattle.code_model.specs.Places.{label_at, words_of}
use Rattle.form_model.specs.declared.flow.Flow.{Flow}
use Rattle.form_model.specs.declared.flow.Flow.TheVariants.{Test}
use Rattle.src_trees.specs.Flows.{program_flow, program_jobs}
use Rattle.src_trees.specs.Held.{HasCellRoom, StandFor}
use Rattle.src_trees.specs.Jobs.{models_of_jobs}
use Rattle.src_trees.specs.Lowered.{MemoryMap}
use Rattle.sym_run.specs.declared.walk.Coded.{Coded}
use Rattle.sym_run.specs.Walks.{IsCodedAt, is_mark}
use Rattle.follow.specs.Followed.{IsFollowed}
use Rattle.follow.specs.Paths.{Path, path_from}
use Rattle.follow.specs.Relations.{Relation}
use Rattle.follow.specs.RightByViews.{image_memory}
use Rattle.mark_start.specs.declared.hints.Hint.{Hint}
use Rattle.segment.specs.Asked.{AreArrays, AreHintsOf, ArePlaces, AreSpots, IsHintOf}
use Rattle.segment.specs.declared.way.Way.{Way}
use Rattle.segment.specs.Timed.{IsFirstWay, IsWay}
use Rattle.followed.specs.declared.front.Front.{Front}
use Rattle.followed.specs.declared.front.Targets.{Targets}
use Rattle.followed.specs.declared.passed.Passed.{Passed}
use Rattle.followed.specs.declared.passed.Turn.{Turn}
use Rattle.followed.specs.Passing.{AreWays}
use Rattle.followed.specs.Inner.Hinted.{AreHere, AreNew}
use Rattle.followed.specs.Turned.{IsKnown, TestMark, tests_of}

-- what is asked with is the image's and the program's
pub record IsReady (netlist : Netlist) (viewed : Viewed) (relation : ℕ → Relation) (m : MemoryMap) (temps : ℕ) (l : ProgramModel) (front : Front) : Type 0 where
  pub sound : IsSound netlist
  pub counter : front.counter ≡ counter_of netlist.codes
  pub memory : front.memory ≡ place_in InMemory netlist.storages
  pub file : front.file ≡ place_in InFile netlist.storages
  pub storages : front.storages.now ≡ netlist.storages
  pub file_cells : front.file_cells ≡ size_in InFile netlist.storages
  pub file_word : front.file_word ≡ width_in InFile netlist.storages
  pub code : (a : ℕ) (coded : Coded) → slice_get front.code.now a ≡ Some coded → IsCodedAt netlist front.pool.now (slice_index (words_of viewed.image) a) coded
  pub modeless : netlist.special ≡ None
  pub word : front.word ≡ m.word
  pub temps_are : front.temps ≡ temps
  pub stand : StandFor m.places l.vars
  pub room : HasCellRoom temps m (memory_size netlist.storages)
  pub marks : (a : ℕ) → is_mark front.marks.now a ≡ false → label_at viewed.image.marks a ≡ None
  pub hints : AreHintsOf viewed relation m l.vars front.pool.now front.hints.now
  pub flow : front.flow.now ≡ program_flow l
  pub jobs : models_of_jobs front.jobs.now ≡ program_jobs m l

-- a hint has this address, whatever the hints are of
pub record IsHintAt (hints : List Hint) (address : ℕ) (hint : Hint) : Type 0 where
  pub here : hint.address ≡ address
  pub at : ℕ
  pub is : slice_get hints at ≡ Some hint

-- from a hint, where the test of a tree has the answer, over the path from a place
abbrev pub IsLed : Front → Hint → ℕ → Bool → ℕ → Way → Type 0
IsLed front hint tree answer at way =
    (netlist : Netlist) (viewed : Viewed) (relation : ℕ → Relation) (m : MemoryMap) (temps : ℕ) (l : ProgramModel) →
    IsReady netlist viewed relation m temps l front → IsHintOf viewed relation m l.vars front.pool.now hint → (n : ℕ) (path : Path) →
    path_from (program_flow l) (program_jobs m l) n at ≡ Some path →
    IsWay netlist viewed relation m temps l front.clocks hint.address tree answer path way

-- from the first word
abbrev pub IsLedOff : Front → Hint → Way → Type 0
IsLedOff front hint way =
    (netlist : Netlist) (viewed : Viewed) (relation : ℕ → Relation) (m : MemoryMap) (temps : ℕ) (l : ProgramModel) →
    IsReady netlist viewed relation m temps l front → ArePlaces m l.vars front.pool.now hint.spots → memory_width netlist.storages ≡ m.word →
    (n : ℕ) (path : Path) → path_from (program_flow l) (program_jobs m l) n 0 ≡ Some path →
    IsFirstWay netlist viewed relation m temps l front.clocks path way

-- the places of a flow to which the test of a tree goes
abbrev pub AreTargets : List Flow → ℕ → ℕ → ℕ → Type 0
AreTargets flow tree when_one when_zero =
    (k one zer : ℕ) → slice_get flow k ≡ Some (Test tree one zer) → (one ≡ when_one) × (zer ≡ when_zero)

abbrev pub HasNoTest : List Flow → ℕ → Type 0
HasNoTest flow tree = (k one zer : ℕ) → slice_get flow k ≡ Some (Test tree one zer) → ⊥

-- where an item goes, if it is the test of the tree
abbrev pub IsTestIn : Flow → ℕ → Option Targets → Type 0
IsTestIn item tree None = (one zer : ℕ) → item ≡ Test tree one zer → ⊥
IsTestIn item tree (Some to) = (one zer : ℕ) → item ≡ Test tree one zer → (one ≡ to.when_one) × (zer ≡ to.when_zero)

-- from the mark of a test, for both answers
pub record IsMarkLed (front : Front) (mark : TestMark) (turn : Turn) : Type 0 where
  pub here : turn.address ≡ mark.address
  pub hint : Hint
  pub at : IsHintAt front.hints.now mark.address hint
  pub when_one : ℕ
  pub when_zero : ℕ
  pub targets : AreTargets front.flow.now mark.tree when_one when_zero
  pub known_one : IsKnown turn.when_one
  pub known_zero : IsKnown turn.when_zero
  pub one : IsLed front hint mark.tree true when_one turn.when_one
  pub zer : IsLed front hint mark.tree false when_zero turn.when_zero

-- from all marks
abbrev pub AreMarksLed : Front → List TestMark → List Turn → Type 0
AreMarksLed front [] [] = Unit {0}
AreMarksLed front (mark ∷ marks) (turn ∷ turns) = IsMarkLed front mark turn × AreMarksLed front marks turns
AreMarksLed front _ _ = ⊥

-- all hints are of marks, each of one of its own, and from the start and from all marks the words
-- follow the flow
pub record IsWhole (viewed : Viewed) (vars : List Declared) (front : Front) (passed : Passed) : Type 0 where
  pub new : AreNew front.hints.now
  pub here : AreHere viewed vars front.pool.now front.hints.now
  pub hint : Hint
  pub spots : AreSpots [] (λ name. None) front.pool.now viewed.image.places hint.spots
  pub arrays : AreArrays vars hint.spots
  pub known : IsKnown passed.first
  pub first : IsLedOff front hint passed.first
  pub turns : AreMarksLed front (tests_of viewed.image.marks) passed.turns

-- all marks follow the program by the relations, and these are the ways
pub record HasFollowed (netlist : Netlist) (width : ℕ) (l : ProgramModel) (viewed : Viewed) (relation : ℕ → Relation) (passed : Passed) : Type 0 where
  pub followed : IsFollowed netlist viewed relation (image_memory netlist width viewed.image) viewed.image.temps l
  pub ways : AreWays netlist width l viewed relation passed
