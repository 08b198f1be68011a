use Rattle.std.proofs.Common.{map, false, ap, ◌∙◌}
use Rattle.std.specs.List.{list_all}
use Rattle.net_model.specs.DriverRules.{is_driven}
use Rattle.net_model.specs.Written.{binding_of}
use Rattle.net_rules.specs.Inner.Modules.{is_bound}
use Rattle.net_rules.proofs.Inputs.{driven_inputs}
use Rattle.net_rules.proofs.drivers.are_inputs_driven.Goals as goal

pub returns-in-Some : goal.returns-in-Some
returns-in-Some c =
    let links = map binding_of c.args.links.now in
    c.are_bound.ensures ∙ ap (list_all (is_bound links)) c.inputs.ensures ∙ driven_inputs links c.in-Some.ports.now
    ∙ ap (list_all (is_driven false links)) c.in-Some.ensures
