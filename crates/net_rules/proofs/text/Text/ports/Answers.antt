use Rattle.std.proofs.Common.{map, slice_get, ap, ◌∙◌}
use Rattle.net_model.specs.TextWidths.{ports_of}
use Rattle.net_model.specs.TextNames.{item_named}
use Rattle.net_model.specs.Written.{model_of_unit}
use Rattle.net_rules.specs.Inner.Modules.{ports_or_none}
use Rattle.net_rules.proofs.Texts.{ports_found}
use Rattle.net_rules.proofs.text.Text.ports.Goals as goal

pub returns : goal.returns
returns c =
    let items = c.self.inside.names.now in
    ap ports_or_none (c.get.ensures ∙ ap (λ ms. slice_get ms c.place.result) c.self.invariant)
    ∙ ports_found items c.place.result
    ∙ ap (λ n. ports_of (slice_get (map model_of_unit items) n)) c.place.ensures
    ∙ ap (λ is. ports_of (item_named (map model_of_unit is) c.args.name.now)) c.self.view_is
