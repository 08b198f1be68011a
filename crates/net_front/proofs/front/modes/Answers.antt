use Rattle.std.proofs.Common.{rules}
use Rattle.net_model.specs.Written.{model_of_units}
use Rattle.net_front.proofs.FrontLaws.{seen_of, seen_refusal}
use Rattle.net_front.proofs.front.modes.Goals as goal

pub returns-clause-found : goal.returns-clause-found
returns-clause-found c = seen_of (model_of_units c.args.units.now) c.in_ok-netlist.netlist c.in_ok-modes.modes c.in_ok-netlist.ensures.found c.in_ok-modes.ensures

pub returns-in_err-modes-clause-refused : goal.returns-in_err-modes-clause-refused
returns-in_err-modes-clause-refused c =
    let refused = seen_refusal (model_of_units c.args.units.now) c.in_ok-netlist.netlist c.in_err-modes.field-0.0 c.in_ok-netlist.ensures.found c.in_err-modes.ensures in
    search rules
