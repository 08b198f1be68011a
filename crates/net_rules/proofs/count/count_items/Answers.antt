use Rattle.std.proofs.Common.{List, map, refl, ap, ◌∙◌}
use Rattle.rec_bits.specs.Counts.{capped}
use Rattle.net_model.specs.Numbering.{count_items}
use Rattle.net_model.specs.Written.{model_of_unit}
use Rattle.net_rules.proofs.Counts.{counted_last}
use Rattle.net_rules.proofs.count.count_items.Goals as goal

pub returns : goal.returns
returns c =
    counted_last (λ (us : List _). count_items (map model_of_unit c.args.text.now) (map model_of_unit us)) c.args.units.now _ _ _ refl c.loop-unit-test.false c.loop-unit.invariant
    ∙ ap (λ us. capped (count_items (map model_of_unit us) (map model_of_unit c.args.units.now))) c.requires
