use Rattle.std.proofs.Common.{length, ◌≡◌, ◌<◌, ℕ, slice_index}
use Rattle.net_model.specs.Value.{value_of}
use Rattle.net_model.specs.Widths.{ValuesFit}
use Rattle.net_model.specs.Order.{position_of}
use Rattle.cycle_sim.proofs.values.evaluate.Given as goal

abbrev pub invariant-loop-id : goal.invariant-loop-id
invariant-loop-id l = record {
  long : length l.values ≡ length l.checked.netlist.nets;
  fit : ValuesFit l.checked.netlist (slice_index l.values);
  done : (m : ℕ) → position_of l.order m < l.id-index → slice_index l.values m ≡ value_of l.checked.netlist l.state l.word m;
}
