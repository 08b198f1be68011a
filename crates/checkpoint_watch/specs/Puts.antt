-- What a call puts into a sink, by one put or by several.
use Rattle.std.specs.Prelude.{◌≡◌, ℕ, true, List, Result, OnOk, OnErr}
use Rattle.rec_io.specs.Causes.{HasCause}
use Rattle.rec_io.specs.Sink.{SinkState}
use Rattle.rec_io.specs.Written.{Takes, TakesPrefix}

-- where the call succeeds, the sink took this text and no put failed; where it doesn't, the sink
-- took a front of the text, and one put failed, behind which nothing more was put
pub record Puts {T E : Type 0} (before now : SinkState) (text : List ℕ) (result : Result T E) : Type 0 where
  pub cause : HasCause before.faults now.faults result
  pub calm : OnOk result (now.faults ≡ before.faults)
  pub failed : OnErr result (now.failed ≡ true)
  pub all : OnOk result (Takes before.written now.written text)
  pub part : OnErr result (TakesPrefix before.written now.written text)
