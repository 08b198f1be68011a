use Rattle.std.proofs.Common.{◌≡◌, length, ◌-◌, ◌≤◌, take}
use Rattle.rec_io.specs.Written.{Takes}
use Rattle.rec_io.proofs.sink.put_all.Given as goal

abbrev pub invariant-loop-done : goal.invariant-loop-done
invariant-loop-done g l = record {
  within : l.done ≤ length l.bytes;
  calm : (g.S.Sink.state l.sink).faults ≡ (g.S.Sink.state l.initial.sink).faults;
  taken : Takes (g.S.Sink.state l.initial.sink).written (g.S.Sink.state l.sink).written (take l.done l.bytes);
}

abbrev pub decreases-loop-done : goal.decreases-loop-done
decreases-loop-done g l = length l.bytes - l.done
