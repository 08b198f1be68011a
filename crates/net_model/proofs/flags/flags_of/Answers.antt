use Rattle.std.proofs.Common.{◌≡◌, ◌&&◌, arith, length, length-set, get_or, slice_index}
use Rattle.net_model.specs.Flags.{flag_at, is_local}
use Rattle.net_model.specs.Nets.{gate_nets}
use Rattle.net_model.specs.Symbolic.{all_nets}
use Rattle.net_model.proofs.Told.{turn_told, all_told}
use Rattle.net_model.proofs.flags.flags_of.Goals as goal

pub loop-id-preserved : goal.loop-id-preserved
loop-id-preserved c =
    let long : length c.loop-id.flags ≡ length c.args.netlist.now.nets = c.loop-id.invariant.long in
    let is : c.index-nets-at.result ≡ get_or c.args.netlist.now.nets (slice_index c.args.order.now c.loop-id.id-index) c.index-nets-at.result = rw c.as_slice-nets.ensures at c.index-nets-at.is in
    let told : c.flag_of-flag.result ≡ (is_local c.args.property c.index-nets-at.result.gate && all_nets (flag_at c.loop-id.flags) (gate_nets c.index-nets-at.result.gate)) = rw (c.as_slice.ensures, c.as_slice-in-loop-id.ensures, c.in_ok-named.ensures, ← c.index-nets-at.is) at c.flag_of-flag.ensures in
    record {
      long = rw c.set.ensures (simp length-set long);
      done = rw c.set.ensures (turn_told _ _ _ c.requires _ _ c.loop-id-test.true long c.loop-id.invariant.done _ is _ told);
    }

pub returns-clause-flags : goal.returns-clause-flags
returns-clause-flags c = all_told _ _ _ c.requires c.loop-id.flags c.loop-id.invariant.long (λ m h. c.loop-id.invariant.done m (omega (arith, h, c.loop-id-test.false)))
