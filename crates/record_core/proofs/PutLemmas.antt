-- How a command ends, by what was made for it.
use Rattle.std.proofs.Common.{◌≡◌, ◌≢◌, ◌⊎◌, ℕ, List, Result, Vec, Ok, Err, IfOk, IfErr}
use Rattle.std.specs.declared.alloc.Global.{Global}
use Rattle.rec_io.specs.Sink.{SinkState}
use Rattle.rec_io.specs.declared.sink.WriteFault.{WriteFault}
use Rattle.record_core.specs.Answers.{TextAnswers}
use Rattle.record_core.specs.Inner.Putting.{CommandEnds, MadeAlone, PutsDone, PutsMade, PutsReport}
use Rattle.record_core.specs.Inner.Statuses.{alone}
use Rattle.record_core.specs.declared.words.Command.{Command}
use Rattle.record_core.specs.declared.status.Status.{Status}
use Rattle.record_core.specs.declared.status.Status.TheVariants.{Done, Memory}
use Rattle.record_core.specs.declared.stop.Stop.{Stop}
use Rattle.record_core.specs.declared.stop.Told.{Told}
use Rattle.record_core.specs.declared.stop.Told.TheVariants.{Nothing}

module _ (line : Told → Status → List ℕ) (command : Command) (files : List (List ℕ)) (before now : SinkState) where
  -- what a refusal of the command says, and what one without more does
  abbrev Refused : Stop → Type 0
  Refused stop = (stop.status ≡ Memory) ⊎ TextAnswers line command files stop.status (line stop.told stop.status)

  abbrev RefusedAlone : Status → Type 0
  RefusedAlone status = (status ≡ Memory) ⊎ TextAnswers line command files status (line Nothing status)

  abbrev Ends : Result (Result (Unit {0}) WriteFault) Stop → Type 0
  Ends = CommandEnds line command files before now

  stopped : (stop : Stop) (result : Result (Result (Unit {0}) WriteFault) Stop) → result ≡ Err stop → now ≡ before → Refused stop → stop.status ≢ Done → Ends result
  stopped stop result is still refused other = rw is (record { still = still; other = other; refused = refused })

  -- where what was made answers, so does what was put
  pub ends_made : (made : Result (Vec ℕ Global) Stop) (result : Result (Result (Unit {0}) WriteFault) Stop) → PutsMade made before now result
      → IfOk made (λ text. TextAnswers line command files Done text.items) → IfErr made Refused → IfErr made (λ stop. stop.status ≢ Done) → Ends result
  ends_made (Ok text) (Ok put) puts ok refused other = record { text = text.items; answers = ok; puts = puts }
  ends_made (Ok text) (Err stop) puts ok refused other = absurd puts
  ends_made (Err stop) result puts ok refused other = stopped stop result puts.0 puts.1 refused other

  -- the same of what tells nothing beside its status
  pub ends_alone : (made : Result (Vec ℕ Global) Status) (same : Result (Vec ℕ Global) Stop) (result : Result (Result (Unit {0}) WriteFault) Stop)
      → MadeAlone made same → PutsMade same before now result
      → IfOk made (λ text. TextAnswers line command files Done text.items) → IfErr made RefusedAlone → IfErr made (λ status. status ≢ Done) → Ends result
  ends_alone (Ok text) same result is puts ok refused other = ends_made (Ok text) result (rw is at puts) ok tt tt
  ends_alone (Err status) same result is puts ok refused other = ends_made (Err (alone status)) result (rw is at puts) tt refused other

  -- of a report
  pub ends_reported : (made : Result (List ℕ) Status) (same : Result (List ℕ) Stop) (result : Result (Result (Unit {0}) WriteFault) Stop)
      → MadeAlone made same → PutsReport same before now result
      → IfOk made (λ text. TextAnswers line command files Done text) → IfErr made RefusedAlone → IfErr made (λ status. status ≢ Done) → Ends result
  ends_reported (Ok text) same result is puts ok refused other = reported (rw is at puts)
    where
      reported : PutsReport (Ok text) before now result → Ends result
      reported = reported_of result
        where
          reported_of : (put : Result (Result (Unit {0}) WriteFault) Stop) → PutsReport (Ok text) before now put → Ends put
          reported_of (Ok put) puts = record { text = text; answers = ok; puts = puts }
          reported_of (Err stop) puts = absurd puts
  ends_reported (Err status) same result is puts ok refused other =
      let told : PutsReport (Err (alone status)) before now result = rw is at puts in
      stopped (alone status) result told.0 told.1 refused other

  -- and of what was put as it was made
  pub ends_put : (made : Result (Result (Unit {0}) WriteFault) Status) (result : Result (Result (Unit {0}) WriteFault) Stop) → MadeAlone made result
      → IfOk made (PutsDone line command files before now) → IfErr made RefusedAlone → IfErr made (λ status. status ≢ Done) → IfErr made (λ _. now ≡ before) → Ends result
  ends_put (Ok put) result is done refused other still = rw is done
  ends_put (Err status) result is done refused other still = stopped (alone status) result is still refused other
