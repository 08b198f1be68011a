use Rattle.std.proofs.Common.{map, sym, ◌∙◌}
use Rattle.net_model.specs.Written.{model_of_unit}
use Rattle.net_rules.proofs.Faults.{unknown_first, misfit_first, undriven_first, limit_first, if_ok_map}
use Rattle.net_rules.proofs.fault.fault_behind_names.Goals as goal

pub returns-in-Some : goal.returns-in-Some
returns-in-Some c = unknown_first c.args.edition (map model_of_unit c.args.items.now) c.requires.names c.in-Some.at c.in-Some.ensures

pub returns-in-Some-first_misfit : goal.returns-in-Some-first_misfit
returns-in-Some-first_misfit c =
    misfit_first c.args.edition (map model_of_unit c.args.items.now) c.requires.names c.in_default.ensures c.in-Some-first_misfit.at c.in-Some-first_misfit.ensures

pub returns-in-Some-2 : goal.returns-in-Some-2
returns-in-Some-2 c =
    undriven_first c.args.edition (map model_of_unit c.args.items.now) c.requires.names c.in_default.ensures c.in_default-first_misfit.ensures
    c.in-Some-2.at (sym c.in-Some-2.is ∙ c.in_ok-at.ensures)

pub returns : goal.returns
returns c =
    if_ok_map c.first_limit.result
    (λ fault h. limit_first c.args.edition (map model_of_unit c.args.items.now) c.requires.names c.in_default.ensures c.in_default-first_misfit.ensures
    (sym c.in_default-2.is ∙ c.in_ok-at.ensures) fault h)
    c.first_limit.ensures
