use Rattle.net_names.proofs.PortTables.{outputs_next, inputs_next}
use Rattle.net_names.proofs.ports.enter_ports.Goals as goal
use Rattle.net_names.proofs.ports.enter_ports.Goals.{then-port+in_ok-enter, else-port+in_ok-enter-2}

pub loop-i-preserved : goal.loop-i-preserved
loop-i-preserved c =
    elim c.if-port.branch [
      | then-port+in_ok-enter w ↦
          rw (w.inputs-is, w.outputs-is)
          (outputs_next c.args.ports.now c.loop-i.i c.index-ports-i.result c.loop-i-test.true c.index-ports-i.is c.loop-i.inputs c.loop-i.outputs w.enter.new.self
          w.if-port.true w.in_ok-enter.ensures.entered c.loop-i.invariant)
      | else-port+in_ok-enter-2 w ↦
          rw (w.inputs-is, w.outputs-is)
          (inputs_next c.args.ports.now c.loop-i.i c.index-ports-i.result c.loop-i-test.true c.index-ports-i.is c.loop-i.inputs c.loop-i.outputs w.enter-else-port.new.self
          w.if-port.false w.in_ok-enter-2.ensures.entered c.loop-i.invariant)
    ]
