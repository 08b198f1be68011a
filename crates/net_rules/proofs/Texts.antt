-- The ports of the items of a text.
use Rattle.std.proofs.Common.{◌≡◌, ℕ, List, map, Option, Some, None, option_map, slice_get, refl, sym, ap, ◌∙◌}
use Rattle.std.proofs.lemmas.Option.{slice_get-map}
use Rattle.net_model.specs.declared.units.Unit.{Unit as Item}
use Rattle.net_model.specs.Written.{model_of_unit}
use Rattle.net_model.specs.TextWidths.{ports_of}
use Rattle.net_rules.specs.Inner.Modules.{item_ports, ports_or_none}

of_item : (item : Option Item) → ports_or_none (option_map item_ports item) ≡ ports_of (option_map model_of_unit item)
of_item None = refl
of_item (Some item) = refl

pub ports_found : (items : List Item) (n : ℕ) → ports_or_none (slice_get (map item_ports items) n) ≡ ports_of (slice_get (map model_of_unit items) n)
ports_found items n =
    ap ports_or_none (slice_get-map item_ports items n)
    ∙ of_item (slice_get items n)
    ∙ ap ports_of (sym (slice_get-map model_of_unit items n))
