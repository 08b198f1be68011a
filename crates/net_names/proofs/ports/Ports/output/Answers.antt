use Rattle.std.proofs.Common.{true, ap, ◌∙◌}
use Rattle.net_model.specs.TextNames.{port_named}
use Rattle.net_names.specs.Places.{item_at}
use Rattle.net_names.proofs.PortTables.{port_found}
use Rattle.net_names.proofs.ports.Ports.output.Goals as goal

pub returns : goal.returns
returns c =
    let ports = c.self.inside.ports.now in
    c.item_at.ensures ∙ ap (item_at ports) c.place.ensures
    ∙ port_found true c.self.inside.outputs ports c.args.name.now c.self.invariant.0.outputs_there
    ∙ ap (λ ps. port_named true ps c.args.name.now) c.self.view_is
