use Rattle.std.proofs.Common.{◌≡◌, map, drop, false}
use Rattle.rec_bits.specs.Faults.{lesser_offset, least, gather}
use Rattle.net_model.specs.NameRules.{unknown_binding}
use Rattle.net_model.specs.TextNames.{in_text, item_named}
use Rattle.net_model.specs.TextWidths.{ports_of}
use Rattle.net_model.specs.Written.{binding_of, model_of_unit}
use Rattle.net_rules.proofs.unknowns.unknown_in_links.Given as goal

abbrev pub invariant-loop-link : goal.invariant-loop-link
invariant-loop-link l =
    let text = map model_of_unit l.text in
    let unknown_at = unknown_binding false (ports_of (item_named text l.owner.name)) (in_text text) in
    lesser_offset l.found (least (gather unknown_at (map binding_of (drop l.link-index l.links)))) ≡ least (gather unknown_at (map binding_of l.links))
