use Rattle.std.proofs.Common.{map, slice_get, ap, ◌∙◌}
use Rattle.rec_bits.specs.Counts.{capped}
use Rattle.net_model.specs.Numbering.{count_inputs}
use Rattle.net_model.specs.TextNames.{item_named}
use Rattle.net_model.specs.TextWidths.{ports_of}
use Rattle.net_model.specs.Written.{binding_of, model_of_unit}
use Rattle.net_rules.proofs.Counts.{part_some, part_none}
use Rattle.net_rules.proofs.count.count_part.Goals as goal

pub returns-in-Some : goal.returns-in-Some
returns-in-Some c =
    let ports = ports_of (item_named (map model_of_unit c.args.text.now) c.args.owner.now.name) in
    part_some c.args.text.now c.args.owner.now (map binding_of c.args.links.now) c.count_inputs-inputs.result c.place.result
    (c.count_inputs-inputs.ensures ∙ ap (λ ls. capped (count_inputs (map binding_of ls) ports)) c.in_ok-links.ensures) c.place.ensures
    c.in-Some.outputs.now c.saturating_add.result (c.in-Some.ensures ∙ ap (λ ms. slice_get ms c.place.result) c.requires) c.saturating_add.ensures

pub returns : goal.returns
returns c =
    let ports = ports_of (item_named (map model_of_unit c.args.text.now) c.args.owner.now.name) in
    part_none c.args.text.now c.args.owner.now (map binding_of c.args.links.now) c.count_inputs-inputs.result c.place.result
    (c.count_inputs-inputs.ensures ∙ ap (λ ls. capped (count_inputs (map binding_of ls) ports)) c.in_ok-links.ensures) c.place.ensures
    (c.in-None.ensures ∙ ap (λ ms. slice_get ms c.place.result) c.requires)
