use Rattle.std.proofs.Common.{◌≡◌, map, drop, false}
use Rattle.std.specs.List.{list_all}
use Rattle.net_model.specs.TextNames.{in_text, item_named}
use Rattle.net_model.specs.TextWidths.{ports_of}
use Rattle.net_model.specs.WidthRules.{binding_feeds}
use Rattle.net_model.specs.Written.{binding_of, model_of_unit}
use Rattle.net_rules.proofs.widths.links_feed.Given as goal

abbrev pub invariant-loop-link : goal.invariant-loop-link
invariant-loop-link l =
    let feeds = binding_feeds false (ports_of (item_named (map model_of_unit l.text) l.owner)) (in_text (map model_of_unit l.text)) in
    list_all feeds (map binding_of (drop l.link-index l.links)) ≡ list_all feeds (map binding_of l.links)
