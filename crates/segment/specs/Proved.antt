-- What is proved of a segment: from each state at its mark, where the test has the answer, words lead
-- past no mark to one whose hint the state and the program's cells after the path's jobs are as.
use Rattle.std.specs.Prelude.{ℕ, ◌+◌, ◌-◌, ◌≡◌, ◌⊎◌, true, List, [], ◌∷◌, Option, Some}
use Rattle.net_model.specs.declared.hardware.Netlist.{Netlist}
use Rattle.net_model.specs.declared.states.State.{State}
use Rattle.net_model.specs.Clock.{clock, Next, counter_in}
use Rattle.net_model.specs.Widths.{IsState}
use Rattle.src_trees.specs.Doing.{all_done}
use Rattle.src_trees.specs.Jobs.{models_of_jobs}
use Rattle.src_trees.specs.Lowered.{JobModel}
use Rattle.sym_expr.specs.declared.pool.Node.{Node}
use Rattle.tree_laws.specs.declared.classes.Classes.{Classes}
use Rattle.class_values.specs.declared.facts.Fact.{Fact}
use Rattle.sym_run.specs.declared.known.Known.{Known}
use Rattle.sym_run.specs.declared.walk.Arrival.{Arrival}
use Rattle.sym_run.specs.declared.walk.Walked.{Walked}
use Rattle.sym_run.specs.declared.walk.Walked.TheVariants.{Arrives}
use Rattle.sym_run.specs.Walks.{Walks}
use Rattle.follow.specs.Trails.{all_jobs}
use Rattle.mark_start.specs.declared.hints.Hint.{Hint}
use Rattle.mark_start.specs.declared.run.Run.{Run}
use Rattle.segment.specs.declared.run.Segment.{Segment}
use Rattle.segment.specs.declared.way.End.{End}
use Rattle.segment.specs.declared.way.End.TheVariants.{Lost, Mark}
use Rattle.segment.specs.declared.way.Way.{Way}
use Rattle.segment.specs.declared.way.Way.TheVariants.{Never, Takes, Unknown}
use Rattle.mark_start.specs.Marked.{IsAsHinted}
use Rattle.segment.specs.Runs.{HasAnswer, IsAgreed, PathReads}
use Rattle.mark_start.specs.Runs.{IsAtMark, IsCode, KnowsArrays, Stands}

-- one of the hints has this address and label, and all is as it says
pub record IsAtHint (pool : List Node) (address : ℕ) (label : Option ℕ) (hint : Hint) (s : State) (now : List ℕ) : Type 0 where
  pub here : hint.address ≡ address
  pub labelled : hint.label ≡ label
  pub hinted : IsAsHinted pool hint s now

abbrev pub IsAtOne : List Node → ℕ → Option ℕ → List Hint → State → List ℕ → Type 0
IsAtOne pool address label [] s now = ⊥
IsAtOne pool address label (hint ∷ hints) s now = IsAtHint pool address label hint s now ⊎ IsAtOne pool address label hints s now

-- words that lead past no mark to that of an address, which has the segment's label, and so many of the
-- clocks are left
pub record ComesAt (netlist : Netlist) (words : List ℕ) (segment : Segment) (address left : ℕ) (now : List ℕ) (s : State) : Type 0 where
  pub taken : ℕ
  pub within : taken + left ≡ segment.clocks
  pub last : State
  pub walks : Walks netlist words segment.marks.now s taken last
  pub state : IsState netlist last
  pub here : counter_in netlist last ≡ address
  pub hinted : IsAtOne segment.start.pool.now address segment.label segment.hints.now last now

-- and so they do behind a clock
pub record Comes (netlist : Netlist) (words : List ℕ) (segment : Segment) (address left : ℕ) (now : List ℕ) (s : State) : Type 0 where
  pub after : State
  pub clocked : clock netlist words s ≡ Next after
  pub comes : ComesAt netlist words segment address left now after

-- what is known at the mark that words came to, with so many clocks left, is as a hint says
pub record HasCome (segment : Segment) (facts : List Fact) (vars : Known) (arrival : Arrival) (address left : ℕ) (old new : Classes) : Type 0 where
  pub here : address ≡ arrival.address
  pub rest : left ≡ arrival.left
  pub agrees : IsAgreed (record { facts = facts; machine = arrival.known; vars = vars }) (IsAtOne segment.start.pool.now address segment.label segment.hints.now) old new true

-- so it is of walked words
abbrev pub HasEnded : Segment → List Fact → Known → Walked → ℕ → ℕ → Classes → Classes → Type 0
HasEnded segment facts vars (Arrives arrival) address left old new = HasCome segment facts vars arrival address left old new
HasEnded segment facts vars _ address left old new = ⊥

-- from each state for which what is known stands behind the path
abbrev pub ComesOn : Segment → Classes → Run → ℕ → ℕ → Type 0
ComesOn segment table run address left =
    (netlist : Netlist) (words : List ℕ) (s : State) (now memory : List ℕ) → IsCode netlist words segment.start → IsState netlist s →
    Stands table run memory s now → Comes netlist words segment address left now s

-- from each state for which what is known stands
abbrev pub ComesFrom : Segment → Classes → Run → ℕ → ℕ → Type 0
ComesFrom segment table run address left =
    (netlist : Netlist) (words : List ℕ) (s : State) (cells memory : List ℕ) (later : List JobModel) → IsCode netlist words segment.start → IsState netlist s →
    KnowsArrays segment.start run → PathReads segment cells later → Stands table run memory s cells → all_jobs (models_of_jobs segment.jobs.now) segment.path.now ≡ Some later → Comes netlist words segment address left (all_done later cells) s

-- without a first clock
abbrev pub ComesHere : Segment → Classes → Run → ℕ → ℕ → Type 0
ComesHere segment table run address left =
    (netlist : Netlist) (words : List ℕ) (s : State) (cells memory : List ℕ) (later : List JobModel) → IsCode netlist words segment.start → IsState netlist s →
    KnowsArrays segment.start run → PathReads segment cells later → Stands table run memory s cells → all_jobs (models_of_jobs segment.jobs.now) segment.path.now ≡ Some later → ComesAt netlist words segment address left (all_done later cells) s

-- from each state at the mark
abbrev pub IsBegun : Segment → ℕ → ℕ → Type 0
IsBegun segment address left =
    (netlist : Netlist) (words : List ℕ) (s : State) (cells : List ℕ) (later : List JobModel) → IsCode netlist words segment.start → IsState netlist s →
    IsAtMark segment.start s cells → PathReads segment cells later → all_jobs (models_of_jobs segment.jobs.now) segment.path.now ≡ Some later →
    ComesAt netlist words segment address left (all_done later cells) s

-- where the test has the answer
abbrev pub IsProved : Segment → ℕ → ℕ → Type 0
IsProved segment address left =
    (netlist : Netlist) (words : List ℕ) (s : State) (cells : List ℕ) (later : List JobModel) → IsCode netlist words segment.start → IsState netlist s →
    IsAtMark segment.start s cells → HasAnswer segment cells → PathReads segment cells later → all_jobs (models_of_jobs segment.jobs.now) segment.path.now ≡ Some later →
    Comes netlist words segment address left (all_done later cells) s

-- no state at the mark has the answer
abbrev pub IsDenied : Segment → Type 0
IsDenied segment =
    (netlist : Netlist) (words : List ℕ) (s : State) (cells : List ℕ) → IsCode netlist words segment.start → IsState netlist s →
    IsAtMark segment.start s cells → HasAnswer segment cells → ⊥

-- a way from the mark: where the test has the answer, so many clocks, the mark's own included, lead to
-- an address; or no state has the answer
abbrev pub IsFoundWay : Segment → Way → Type 0
IsFoundWay segment (Takes clocks to) = (left : ℕ) × (clocks ≡ segment.clocks - left + 1) × IsProved segment to left
IsFoundWay segment Never = IsDenied segment
IsFoundWay segment (Unknown why) = Unit {0}

-- a way from the first word: so many clocks lead to an address
abbrev pub IsFoundFirst : Segment → Way → Type 0
IsFoundFirst segment (Takes clocks to) = (left : ℕ) × (clocks ≡ segment.clocks - left) × IsBegun segment to left
IsFoundFirst segment Never = ⊥
IsFoundFirst segment (Unknown why) = Unit {0}

-- where the end of the words is found, this holds of its address and of the clocks that are left
abbrev pub IfFound : End → (ℕ → ℕ → Type 0) → Type 0
IfFound (Mark address left) P = P address left
IfFound (Lost why) P = Unit {0}

-- the way to an end, which takes the clocks that aren't left of the most, and some first ones
abbrev pub IsTaken : ℕ → ℕ → End → Way → Type 0
IsTaken most first end (Unknown why) = Unit {0}
IsTaken most first end Never = ⊥
IsTaken most first (Mark address left) (Takes clocks to) = (to ≡ address) × (clocks ≡ most - left + first)
IsTaken most first (Lost why) (Takes clocks to) = ⊥
