use Rattle.std.proofs.Common.{◌+◌, map, drop, sym, ap, ◌∙◌, if◌then◌else◌}
use Rattle.net_model.specs.TextNames.{place_named}
use Rattle.rec_bits.specs.Faults.{same_name}
use Rattle.net_model.specs.Written.{model_of_unit}
use Rattle.net_names.proofs.Tables.{places_next, seen_from}
use Rattle.net_names.proofs.names.Names.new.Goals as goal

pub loop-i-preserved : goal.loop-i-preserved
loop-i-preserved c =
    let items = c.args.units.now.items in
    let entry = model_of_unit c.unit-item.result in
    let parts = seen_from model_of_unit items c.as_slice-unit-items.result.now c.loop-i.i c.unit-item.result c.as_slice-unit-items.ensures c.loop-i-test.true c.unit-item.is in
    places_next c.loop-i.table c.enter.new.self c.name_of.result.now.name c.loop-i.i
    (place_named (drop c.loop-i.i (map model_of_unit items))) (place_named (drop (c.loop-i.i + 1) (map model_of_unit items))) (place_named (map model_of_unit items))
    c.in_ok-enter.ensures.entered
    (λ name. ap (λ es. place_named es name) parts ∙ ap (λ own. if same_name own name then 0 else place_named (drop (c.loop-i.i + 1) (map model_of_unit items)) name + 1) (sym (ap (λ o. o.name) c.name_of.ensures)))
    c.loop-i.invariant
