use Rattle.std.proofs.Common.{arith, ◌≡◌, ◌≤◌, sym, Some}
use Rattle.net_model.specs.TextNames.{port_named}
use Rattle.net_elab.proofs.Ports.{narrow_width, port_keeps}
use Rattle.net_elab.proofs.site.wire_of.Goals as goal

pub overflow_cast-result : goal.overflow_cast-result
overflow_cast-result c =
    let e : port_named c.args.output c.args.ports.now c.args.name.now ≡ Some c.in_ok-port.port.now = sym (c.in_ok-port.ensures) in
    let k : c.in_ok-port.port.now.width ≤ 64 = narrow_width _ (port_keeps _ _ _ _ c.requires e) in
    omega arith
