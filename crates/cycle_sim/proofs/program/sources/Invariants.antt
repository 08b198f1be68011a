use Rattle.std.proofs.Common.{length, ◌≡◌, ◌<◌, ℕ}
use Rattle.net_model.specs.Order.{position_of}
use Rattle.cycle_sim.specs.Inner.Decoding.{source_in}
use Rattle.cycle_sim.specs.Inner.Programs.{IsSource}
use Rattle.cycle_sim.proofs.program.sources.Given as goal

abbrev pub invariant-loop-id : goal.invariant-loop-id
invariant-loop-id l = record {
  long : length l.sources ≡ length l.checked.netlist.nets;
  done : (m : ℕ) → position_of l.checked.order m < l.id-index → IsSource l.checked.netlist l.checked.order m (source_in l.sources m);
}
