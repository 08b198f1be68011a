-- When an image is right code: its layout and its trace. It *traces right* where for every start
-- state in mode 0 and every m, the trace over m image lengths isn't a clash and its first m
-- entries are the source's, the first within one image length and each later one within one more
-- of the one before; each state that is reached at a mark is in mode 0; and from each reached
-- state at the end mark on, no clock clashes, the store stays and so does the mode. Of a netlist
-- without a mode register this says nothing of modes, since its mode is always 0. All of it is
-- said over a function that finds the store in a state (`TracesBy`); that of one memory is the
-- store at the places (`TracesRight`).
use Rattle.std.specs.Prelude.{ℕ, List, [], ◌∷◌, ◌+◌, ◌*◌, ◌≡◌, ◌≤◌, length, take, Some}
use Rattle.net_model.specs.declared.hardware.Netlist.{Netlist}
use Rattle.net_model.specs.declared.states.State.{State}
use Rattle.net_model.specs.Nets.{memory_size}
use Rattle.net_model.specs.Clock.{run, Reached}
use Rattle.net_model.specs.Fixed.{mode_in}
use Rattle.src_model.specs.declared.checkpoint.Checkpoint.{Checkpoint}
use Rattle.src_model.specs.declared.checkpoint.Checkpoint.TheVariants.{End}
use Rattle.src_model.specs.Ways.{Passed}
use Rattle.code_model.specs.declared.image.Image.{Image}
use Rattle.code_model.specs.Places.{words_of, places_from, Apart}
use Rattle.code_model.specs.Machine.{TraceEntry, Shows, trace_of, label_in, store_in, IsCalm, IsRestful}

-- ---- layout

-- the temporary cells from address 0, then the variables in order of declaration; all lie in the
-- memory, and none in another
pub record IsLaidOut (netlist : Netlist) (cells : ℕ) (vars : List (List ℕ × ℕ)) (image : Image) : Type 0 where
  pub temps : image.temps ≡ cells
  pub places : image.places ≡ places_from image.temps vars
  pub apart : Apart image.temps image.places (memory_size netlist.storages)

-- ---- trace

-- the checkpoints without their cycles
abbrev pub passed_of : List TraceEntry → List Passed
passed_of [] = []
passed_of (entry ∷ entries) = entry.passed ∷ passed_of entries

-- the first entry comes by the deadline, and each later one at most so many cycles after the one
-- before
abbrev pub IsPaced : ℕ → ℕ → List TraceEntry → Type 0
IsPaced clocks deadline [] = Unit {0}
IsPaced clocks deadline (entry ∷ entries) = (entry.cycle ≤ deadline) × IsPaced clocks (entry.cycle + clocks) entries

-- from this state the machine shows the source's first m checkpoints, each within one image length
-- of the last, and nothing clashes
pub record ShowsBy (store : State → List ℕ) (netlist : Netlist) (image : Image)
    (trace : List ℕ → ℕ → List Passed) (s : State) (m : ℕ) : Type 0 where
  pub entries : List TraceEntry
  pub traced : trace_of store netlist image s 0 (m * length (words_of image)) ≡ Shows entries
  pub passed : take m (passed_of entries) ≡ trace (store s) m
  pub paced : IsPaced (length (words_of image)) (length (words_of image)) entries

-- so many clocks from this state don't clash, leave the store, and end in mode 0
pub record StaysBy (store : State → List ℕ) (netlist : Netlist) (image : Image) (s : State) (n : ℕ) : Type 0 where
  pub last : State
  pub runs : run netlist (words_of image) s n ≡ Reached last
  pub same : store last ≡ store s
  pub mode : mode_in netlist.special last ≡ 0

-- The image's trace is that of a source, whose first m checkpoints from a store are given: from
-- every start state in mode 0, for every m. Each mark is reached in mode 0; and from each state at
-- the end mark on no clock clashes, the store stays and so does the mode.
pub record TracesBy (store : State → List ℕ) (netlist : Netlist) (image : Image)
    (trace : List ℕ → ℕ → List Passed) : Type 0 where
  pub shows : (s : State) → IsCalm netlist 0 s → (m : ℕ) → ShowsBy store netlist image trace s m
  pub calm : (s t : State) → IsCalm netlist 0 s → (k : ℕ) → run netlist (words_of image) s k ≡ Reached t →
      (label : Checkpoint) → label_in netlist image t ≡ Some label → IsRestful netlist t
  pub stays : (s t : State) → IsCalm netlist 0 s → (k : ℕ) → run netlist (words_of image) s k ≡ Reached t →
      label_in netlist image t ≡ Some End → (n : ℕ) → StaysBy store netlist image t n

-- where the store is what the places hold of the data memory
abbrev pub ShowsSource : Netlist → Image → (List ℕ → ℕ → List Passed) → State → ℕ → Type 0
ShowsSource netlist image trace s m = ShowsBy (store_in image) netlist image trace s m

abbrev pub Stays : Netlist → Image → State → ℕ → Type 0
Stays netlist image s n = StaysBy (store_in image) netlist image s n

abbrev pub TracesRight : Netlist → Image → (List ℕ → ℕ → List Passed) → Type 0
TracesRight netlist image trace = TracesBy (store_in image) netlist image trace
