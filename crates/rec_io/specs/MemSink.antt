-- An output in memory, some of whose puts fail.
use Rattle.std.specs.Prelude.{◌≡◌, ◌≢◌, ℕ, false, ◌-◌, ◌≤◌, ◌⊎◌, List, [], Some, length, min, Contains}
use Rattle.rec_io.specs.Causes.{count_after}
use Rattle.rec_io.specs.Sink.{SinkState}
use Rattle.rec_io.specs.declared.mem_sink.MemSink.{MemSink}

-- what the sink has taken
abbrev pub bytes_of : MemSink → List ℕ
bytes_of sink = sink.bytes.items

-- how many bytes one put takes at most
abbrev pub step_of : MemSink → ℕ
step_of sink = sink.step

-- how many bytes all puts take at most
abbrev pub room_of : MemSink → ℕ
room_of sink = sink.room

-- the numbers, from 1, of the puts that are to fail
abbrev pub fails_of : MemSink → List ℕ
fails_of sink = sink.fails.items

-- how many puts there were
abbrev pub puts_of : MemSink → ℕ
puts_of sink = sink.puts

-- the sink tells what it has taken
abbrev pub sink_state : MemSink → SinkState
sink_state sink = record { written = Some (bytes_of sink); faults = sink.faults; failed = sink.failed }

-- a sink before its first put
pub record IsFresh (step room : ℕ) (fails : List ℕ) (sink : MemSink) : Type 0 where
  pub empty : sink_state sink ≡ record { written = Some []; faults = 0; failed = false }
  pub unused : puts_of sink ≡ 0
  pub takes : step_of sink ≡ step
  pub holds : room_of sink ≡ room
  pub listed : fails_of sink ≡ fails

-- the next put of this piece is to fail: its number is listed, or no room is free
abbrev pub IsPutDue : MemSink → List ℕ → Type 0
IsPutDue sink piece =
    (length piece ≢ 0)
    × (Contains (fails_of sink) (count_after (puts_of sink)) ⊎ (room_of sink ≤ length (bytes_of sink)))

-- how much of a piece a put takes that isn't to fail: as much as the step and the free room allow
abbrev pub portion_of : MemSink → List ℕ → ℕ
portion_of sink piece = min (length piece) (min (step_of sink) (room_of sink - length (bytes_of sink)))
