-- Words that lead from a state to another, and past no mark before it.
use Rattle.std.specs.Prelude.{ℕ, zero, suc, ◌+◌, ◌≡◌, ◌==◌, Bool, true, false, List, Some, slice_get, slice_index}
use Rattle.std.specs.List.{list_any}
use Rattle.net_model.specs.declared.hardware.Netlist.{Netlist}
use Rattle.net_model.specs.declared.hardware.Space.TheVariants.{Memory as InMemory, File as InFile}
use Rattle.net_model.specs.declared.states.State.{State}
use Rattle.net_model.specs.Clock.{clock, Next, counter_in}
use Rattle.net_model.specs.Control.{IsSound}
use Rattle.net_model.specs.Nets.{counter_of, place_in}
use Rattle.net_model.specs.Transfers.{IsClean}
use Rattle.net_model.specs.Widths.{IsState}
use Rattle.tree_laws.specs.declared.classes.Classes.{Classes}
use Rattle.sym_expr.specs.declared.pool.Node.{Node}
use Rattle.class_values.specs.declared.facts.Fact.{Fact}
use Rattle.sym_run.specs.declared.known.Known.{Known}
use Rattle.sym_run.specs.declared.walk.Arrival.{Arrival}
use Rattle.sym_run.specs.declared.walk.Coded.{Coded}
use Rattle.sym_run.specs.declared.walk.Image.{Image}
use Rattle.sym_run.specs.declared.walk.Walked.{Walked}
use Rattle.sym_run.specs.declared.walk.Walked.TheVariants.{Arrives as Arrived, Late, Lost}
use Rattle.class_values.specs.Values.{AreFacts}
use Rattle.sym_run.specs.Known.{StandsFor}
use Rattle.sym_run.specs.Moves.{AreMoves, AreWithin}

-- ---- code

-- the expressions of all moves are of a pool of this size
abbrev pub AreAllWithin : ℕ → List Coded → Type 0
AreAllWithin size code = (a : ℕ) (coded : Coded) → slice_get code a ≡ Some coded → AreWithin size coded.moves

-- the word is without clash, and does these moves
pub record IsCodedAt (netlist : Netlist) (pool : List Node) (word : ℕ) (coded : Coded) : Type 0 where
  pub same : word ≡ coded.word
  pub clean : IsClean netlist coded.word
  pub moves : AreMoves netlist coded.word pool coded.moves

-- the code is of these words of the netlist, whose program counter, memory and register file have these
-- numbers
pub record IsCoded (netlist : Netlist) (words : List ℕ) (image : Image) : Type 0 where
  pub sound : IsSound netlist
  pub counter : image.counter ≡ counter_of netlist.codes
  pub memory : image.memory ≡ place_in InMemory netlist.storages
  pub file : image.file ≡ place_in InFile netlist.storages
  pub code : (a : ℕ) (coded : Coded) → slice_get image.code.now a ≡ Some coded → IsCodedAt netlist image.pool.now (slice_index words a) coded

-- ---- clocks

abbrev pub is_mark : List ℕ → ℕ → Bool
is_mark marks address = list_any (λ mark. mark == address) marks

-- so many clocks lead from s to t, and past no mark before t
abbrev pub Walks : Netlist → List ℕ → List ℕ → State → ℕ → State → Type 0
Walks netlist words marks s zero t = s ≡ t
Walks netlist words marks s (suc n) t =
    (u : State) × (is_mark marks (counter_in netlist s) ≡ false) × (clock netlist words s ≡ Next u) × Walks netlist words marks u n t

-- a clock leads to a state for which what is known stands
pub record LeadsTo (netlist : Netlist) (words : List ℕ) (table : Classes) (memory : List ℕ) (next : Known) (s : State) : Type 0 where
  pub after : State
  pub clocked : clock netlist words s ≡ Next after
  pub state : IsState netlist after
  pub stands : StandsFor table memory next after

-- so many of the clocks as aren't left lead to a marked address, and to a state for which what is
-- known there stands
pub record ArrivesAt (netlist : Netlist) (words marks : List ℕ) (table : Classes) (memory : List ℕ) (clocks : ℕ) (arrival : Arrival) (s : State) : Type 0 where
  pub taken : ℕ
  pub last : State
  pub within : taken + arrival.left ≡ clocks
  pub walks : Walks netlist words marks s taken last
  pub state : IsState netlist last
  pub here : counter_in netlist last ≡ arrival.address
  pub marked : is_mark marks arrival.address ≡ true
  pub stands : StandsFor table memory arrival.known last

-- and so they do behind one clock
pub record CrossesTo (netlist : Netlist) (words marks : List ℕ) (table : Classes) (memory : List ℕ) (clocks : ℕ) (arrival : Arrival) (s : State) : Type 0 where
  pub after : State
  pub clocked : clock netlist words s ≡ Next after
  pub arrives : ArrivesAt netlist words marks table memory clocks arrival after

-- ---- from every state for which what is known stands

-- the program counter holds this address
abbrev pub IsNextAddress : Classes → List Fact → Known → ℕ → ℕ → Type 0
IsNextAddress table facts known counter address =
    (memory : List ℕ) (s : State) → AreFacts table memory facts → StandsFor table memory known s →
    slice_index s.regs counter ≡ address

abbrev pub Turns : Classes → Classes → Image → Known → Known → Type 0
Turns old new image known next =
    (netlist : Netlist) (words memory : List ℕ) (s : State) → IsCoded netlist words image → AreFacts old memory image.facts.now →
    StandsFor old memory known s → IsState netlist s → LeadsTo netlist words new memory next s

abbrev pub Arrives : Classes → Classes → Image → Known → ℕ → Arrival → Type 0
Arrives old new image known clocks arrival =
    (netlist : Netlist) (words memory : List ℕ) (s : State) → IsCoded netlist words image → AreFacts old memory image.facts.now →
    StandsFor old memory known s → IsState netlist s → ArrivesAt netlist words image.marks.now new memory clocks arrival s

abbrev pub Crosses : Classes → Classes → Image → Known → ℕ → Arrival → Type 0
Crosses old new image known clocks arrival =
    (netlist : Netlist) (words memory : List ℕ) (s : State) → IsCoded netlist words image → AreFacts old memory image.facts.now →
    StandsFor old memory known s → IsState netlist s → CrossesTo netlist words image.marks.now new memory clocks arrival s

-- where words lead to a mark, this holds of it
abbrev pub IfArrives : Walked → (Arrival → Type 0) → Type 0
IfArrives (Arrived arrival) P = P arrival
IfArrives (Lost address) P = Unit {0}
IfArrives Late P = Unit {0}
