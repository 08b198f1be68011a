use Rattle.std.proofs.Common.{map, ap, ◌∙◌}
use Rattle.rec_bits.specs.Counts.{capped}
use Rattle.net_model.specs.Numbering.{count_inputs}
use Rattle.net_model.specs.Written.{binding_of}
use Rattle.net_rules.specs.Inner.Counts.{count_linked}
use Rattle.net_rules.proofs.Inputs.{counted_inputs}
use Rattle.net_rules.proofs.count.count_inputs.Goals as goal

pub returns-in-Some : goal.returns-in-Some
returns-in-Some c =
    let links = map binding_of c.args.links.now in
    c.count_linked.ensures
    ∙ ap capped (ap (count_linked links) c.inputs.ensures ∙ counted_inputs links c.in-Some.ports.now ∙ ap (count_inputs links) c.in-Some.ensures)
