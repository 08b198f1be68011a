use Rattle.std.proofs.Common.{◌∙◌, ◌<◌, ◌^◌, map, sym, subst}
use Rattle.std.proofs.lemmas.List.{length-map}
use Rattle.net_model.specs.Written.{model_of_unit}
use Rattle.net_model.proofs.KeptTexts.{elaborable_of, few_in_edition}
use Rattle.net_front.proofs.flat.flatten_by.Goals as goal

pub elaborate-requires-clause-keeps : goal.elaborate-requires-clause-keeps
elaborate-requires-clause-keeps c =
    let items = c.args.units.now.items in
    elaborable_of c.args.units.now.edition (map model_of_unit items) (sym c.in_ok-fault.ensures ∙ c.in_default.is) (subst (λ n. n < 2 ^ 32) (sym (length-map items model_of_unit)) c.requires.few)

pub elaborate-requires-clause-few : goal.elaborate-requires-clause-few
elaborate-requires-clause-few c = few_in_edition c.args.units.now.edition (map model_of_unit c.args.units.now.items) (sym c.in_ok-fault.ensures ∙ c.in_default.is)
