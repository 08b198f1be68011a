use Rattle.std.proofs.Common.{map, ap, arith}
use Rattle.std.proofs.lemmas.Grind.{common_steps}
use Rattle.rec_bits.proofs.Faults.{drop_item}
use Rattle.net_model.specs.NameRules.{port_name}
use Rattle.net_rules.proofs.Scans.{repeating_next}
use Rattle.net_rules.proofs.duplicates.see_ports.Goals as goal

pub loop-port-preserved : goal.loop-port-preserved
loop-port-preserved c =
    let parts = ap (map port_name) (drop_item c.args.ports.now c.loop-port.port-index c.port-item.result c.loop-port-test.true c.port-item.is) in
    rw (c.lesser_offset-found.ensures, c.in_ok-see.ensures.found)
    (repeating_next c.loop-port.seen c.see.new.seen c.loop-port.found _ _ _ c.port-item.result.name parts c.in_ok-see.ensures.seen c.loop-port.invariant)

pub returns : goal.returns
returns c = grind (arith, common_steps)
