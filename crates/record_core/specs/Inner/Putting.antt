-- What is put of the text that is due.
use Rattle.std.specs.Prelude.{◌≡◌, ◌≢◌, ◌⊎◌, ℕ, List, Result, Vec, Ok, Err, IsOkAnd}
use Rattle.std.specs.declared.alloc.Global.{Global}
use Rattle.rec_io.specs.Shelf.{ShelfState}
use Rattle.rec_io.specs.Sink.{SinkState}
use Rattle.rec_io.specs.declared.sink.WriteFault.{WriteFault}
use Rattle.right_code.specs.Tasks.{Task}
use Rattle.checkpoint_watch.specs.Puts.{Puts}
use Rattle.record_core.specs.Answers.{Answers, GoAnswers, TextAnswers}
use Rattle.record_core.specs.Watching.{IsWatched, LacksMemory}
use Rattle.record_core.specs.declared.words.Command.{Command}
use Rattle.record_core.specs.declared.status.Status.{Status}
use Rattle.record_core.specs.declared.status.Status.TheVariants.{Done, MemText, Memory}
use Rattle.record_core.specs.Inner.Statuses.{alone}
use Rattle.record_core.specs.declared.stop.Stop.{Stop}
use Rattle.record_core.specs.declared.stop.Told.{Told}

-- the checkpoints of a task were put, or a front of them where the output failed
pub record PutsWatched (task : Task) (memory : List ℕ) (clocks : ℕ) (before now : SinkState)
    (put : Result (Unit {0}) WriteFault) : Type 0 where
  pub text : List ℕ
  pub watched : IsWatched memory clocks text task
  pub puts : Puts before now text put

-- the same of the text that `go` answers
pub record PutsGo (line : Status → List ℕ) (net src memory : List ℕ) (clocks : ℕ)
    (before now : SinkState) (put : Result (Unit {0}) WriteFault) : Type 0 where
  pub text : List ℕ
  pub answers : GoAnswers line net src memory clocks Done text
  pub puts : Puts before now text put

-- and of that which a command does
pub record PutsDone (line : Told → Status → List ℕ) (command : Command) (files : List (List ℕ))
    (before now : SinkState) (put : Result (Unit {0}) WriteFault) : Type 0 where
  pub text : List ℕ
  pub answers : TextAnswers line command files Done text
  pub puts : Puts before now text put

-- and of that which the words do
pub record PutsAnswer (words : List (List ℕ)) (earlier later : ShelfState) (before now : SinkState)
    (put : Result (Unit {0}) WriteFault) : Type 0 where
  pub text : List ℕ
  pub answers : Answers words earlier later Done text
  pub puts : Puts before now text put

-- why a task's netlist has no state to start from
abbrev pub IsMemoryStatus : Task → List ℕ → Status → Type 0
IsMemoryStatus task memory (MemText at) = LacksMemory memory at task
IsMemoryStatus task memory Memory = Unit {0}
IsMemoryStatus task memory _ = ⊥

-- ---- what a command puts

-- what was made, or a status with nothing told beside it
abbrev pub MadeAlone : {T : Type 0} → Result T Status → Result T Stop → Type 0
MadeAlone (Ok made) same = same ≡ Ok made
MadeAlone (Err status) same = same ≡ Err (alone status)

-- a text was put, or a front of it where the output failed; and where none was made, nothing was
abbrev pub PutsReport : Result (List ℕ) Stop → SinkState → SinkState →
    Result (Result (Unit {0}) WriteFault) Stop → Type 0
PutsReport (Ok text) before now result = IsOkAnd result (Puts before now text)
PutsReport (Err stop) before now result = (result ≡ Err stop) × (now ≡ before)

-- the same of a text in a vector
abbrev pub PutsMade : Result (Vec ℕ Global) Stop → SinkState → SinkState →
    Result (Result (Unit {0}) WriteFault) Stop → Type 0
PutsMade (Ok text) before now result = IsOkAnd result (Puts before now text.items)
PutsMade (Err stop) before now result = (result ≡ Err stop) × (now ≡ before)

-- nothing was put of the command for the bytes of its files, which is refused so
pub record IsRefused (line : Told → Status → List ℕ) (command : Command) (files : List (List ℕ))
    (before now : SinkState) (stop : Stop) : Type 0 where
  pub still : now ≡ before
  pub other : stop.status ≢ Done
  pub refused : (stop.status ≡ Memory) ⊎ TextAnswers line command files stop.status (line stop.told stop.status)

-- its text was put, or it is refused
abbrev pub CommandEnds : (Told → Status → List ℕ) → Command → List (List ℕ) → SinkState → SinkState →
    Result (Result (Unit {0}) WriteFault) Stop → Type 0
CommandEnds line command files before now (Ok put) = PutsDone line command files before now put
CommandEnds line command files before now (Err stop) = IsRefused line command files before now stop
