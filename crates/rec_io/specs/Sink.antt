-- What a sink means. What is known of a sink (its bytes where it tells them, its count, whether
-- the last put failed), and that it took a piece, or a front of one.
use Rattle.std.specs.Prelude.{◌≡◌, ℕ, Bool, true, List, Option}
use Rattle.rec_io.specs.Causes.{count_after}

-- the three meanings of a sink
pub record SinkState : Type 0 where
  -- the bytes taken so far, where the sink tells them
  pub written : Option (List ℕ)
  -- how often a put has failed, up to the end of the count's type
  pub faults : ℕ
  -- whether the last put failed, of those of pieces that aren't empty
  pub failed : Bool

-- one put failed, and behind it there was none
pub record LastPutFailed (before now : SinkState) : Type 0 where
  pub count : now.faults ≡ count_after before.faults
  pub last : now.failed ≡ true
