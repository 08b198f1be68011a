use Rattle.std.proofs.Common.{rules}
use Rattle.net_model.specs.Written.{model_of_units}
use Rattle.net_front.proofs.FrontLaws.{checked_of, rule_refusal}
use Rattle.net_front.proofs.taken.checked.Goals as goal

pub returns-clause-found : goal.returns-clause-found
returns-clause-found c =
    checked_of (model_of_units c.args.units.now) c.in_ok-netlist.netlist c.in_ok-checked.checked c.requires.alone c.in_ok-netlist.ensures.found c.in_ok-checked.ensures.found

pub returns-in_err-checked-clause-refused : goal.returns-in_err-checked-clause-refused
returns-in_err-checked-clause-refused c =
    let refused = rule_refusal (model_of_units c.args.units.now) c.requires.alone c.in_ok-netlist.netlist c.in_ok-netlist.ensures.found c.in_err-checked.field-0.0 c.in_err-checked.ensures.found in
    search rules
