-- What a netlist that is clocked on an image's words shows at the marked addresses. From a state,
-- over so many clocks, those states are seen whose program counter is a marked address, with
-- cycle, label and the store at the places, up to the first at the end mark; it is a clash where a
-- clock before that clashes.
use Rattle.std.specs.Prelude.{ℕ, zero, suc, List, [], ◌∷◌, ◌+◌, ◌≡◌, Option, Some, None}
use Rattle.net_model.specs.declared.hardware.Netlist.{Netlist}
use Rattle.net_model.specs.declared.states.State.{State}
use Rattle.net_model.specs.Widths.{IsState}
use Rattle.net_model.specs.Clock.{clock, counter_in, Outcome, Next, Clash}
use Rattle.net_model.specs.Fixed.{mode_in}
use Rattle.src_model.specs.declared.checkpoint.Checkpoint.{Checkpoint}
use Rattle.src_model.specs.declared.checkpoint.Checkpoint.TheVariants.{At, End}
use Rattle.src_model.specs.Ways.{Passed}
use Rattle.code_model.specs.declared.image.Image.{Image}
use Rattle.code_model.specs.Places.{words_of, label_at, cells_at}

-- the label of the address at which the program counter stands
abbrev pub label_in : Netlist → Image → State → Option Checkpoint
label_in netlist image s = label_at image.marks (counter_in netlist s)

-- the store that the places hold
abbrev pub store_in : Image → State → List ℕ
store_in image s = cells_at image.places s.cells

-- a state that fits the netlist, with the program counter at this address
pub record IsAt (netlist : Netlist) (address : ℕ) (s : State) : Type 0 where
  pub state : IsState netlist s
  pub counter : counter_in netlist s ≡ address

-- one in mode 0; a start state has its program counter at 0
pub record IsCalm (netlist : Netlist) (address : ℕ) (s : State) : Type 0 where
  pub here : IsAt netlist address s
  pub mode : mode_in netlist.special s ≡ 0

-- a state that fits the netlist, in mode 0, wherever the program counter is
pub record IsRestful (netlist : Netlist) (s : State) : Type 0 where
  pub state : IsState netlist s
  pub mode : mode_in netlist.special s ≡ 0

-- a checkpoint with the cycle at which it is seen
pub record TraceEntry : Type 0 where
  pub cycle : ℕ
  pub passed : Passed

-- a trace: what is seen, or that a clock before the end mark clashes
pub data Traced : Type 0 where
  Shows : List TraceEntry → Traced
  Clashes : Traced

abbrev pub before : TraceEntry → Traced → Traced
before entry (Shows entries) = Shows (entry ∷ entries)
before entry Clashes = Clashes

-- what is seen at a state with this label and this store, and then later: nothing past the end mark
abbrev pub with_checkpoint : Option Checkpoint → ℕ → List ℕ → Traced → Traced
with_checkpoint None cycle cells later = later
with_checkpoint (Some (At tree)) cycle cells later =
    before (record { cycle = cycle; passed = record { label = At tree; cells = cells } }) later
with_checkpoint (Some End) cycle cells later =
    Shows (record { cycle = cycle; passed = record { label = End; cells = cells } } ∷ [])

abbrev pub after_clock : (State → Traced) → Outcome → Traced
after_clock later (Next t) = later t
after_clock later (Clash bus) = Clashes

-- what is seen at this state, of this cycle, and at the states after so many clocks, where each state
-- has this store
abbrev pub trace_of : (State → List ℕ) → Netlist → Image → State → ℕ → ℕ → Traced
trace_of store netlist image s cycle zero = with_checkpoint (label_in netlist image s) cycle (store s) (Shows [])
trace_of store netlist image s cycle (suc n) =
    with_checkpoint (label_in netlist image s) cycle (store s)
    (after_clock (λ (t : State). trace_of store netlist image t (cycle + 1) n) (clock netlist (words_of image) s))

-- where it has what the places hold of the data memory
abbrev pub mtrace : Netlist → Image → State → ℕ → ℕ → Traced
mtrace netlist image s cycle n = trace_of (store_in image) netlist image s cycle n
