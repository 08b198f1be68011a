use Rattle.std.proofs.Common.{map, false}
use Rattle.net_model.specs.NameRules.{unknown_binding}
use Rattle.net_model.specs.TextNames.{in_text, item_named}
use Rattle.net_model.specs.TextWidths.{ports_of}
use Rattle.net_model.specs.Written.{binding_of, model_of_unit}
use Rattle.net_rules.proofs.Scans.{gathered_next}
use Rattle.net_rules.proofs.unknowns.unknown_in_links.Goals as goal

pub loop-link-preserved : goal.loop-link-preserved
loop-link-preserved c =
    let text = map model_of_unit c.args.text.now in
    rw (c.lesser_offset-found.ensures, c.unknown_link.ensures)
    (gathered_next (unknown_binding false (ports_of (item_named text c.args.owner.now.name)) (in_text text)) binding_of c.args.links.now c.loop-link.link-index c.link-item.result c.loop-link.found _ c.loop-link-test.true c.link-item.is c.loop-link.invariant)
