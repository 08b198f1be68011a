use Rattle.std.proofs.lemmas.Result.{err_from_is_err_and}
use Rattle.net_front.specs.Taken.{HasNoBank, unbanked_role}
use Rattle.net_front.proofs.TakenLaws.{has_bank}
use Rattle.net_model.specs.Written.{model_of_units}
use Rattle.isa_extract.proofs.Extracting.{isas_of_text, routes_refused, viewed_modes}
use Rattle.isa_extract.proofs.RoutedTaken.{of_front, of_routes}
use Rattle.isa_extract.proofs.netlists.read_viewed.Goals as goal

pub returns-clause-netlist : goal.returns-clause-netlist
returns-clause-netlist c =
    viewed_modes c.args.bytes.now (model_of_units c.in_ok-modes.field-0-0) c.in_ok-modes.ensures.found c.in_ok-modes.ensures.banked
    c.in_ok-modes.modes c.in_ok-modes.ensures.modes c.in_ok-isas.ensures.kept

pub returns-clause-isas : goal.returns-clause-isas
returns-clause-isas c =
    isas_of_text c.args.bytes.now (model_of_units c.in_ok-modes.field-0-0) c.in_ok-modes.ensures.found c.in_ok-modes.modes c.in_ok-modes.ensures.modes
    c.in_ok-isas.isas c.in_ok-isas.ensures.extracted

pub returns-in_err-modes-clause-refused : goal.returns-in_err-modes-clause-refused
returns-in_err-modes-clause-refused c =
    let refused = of_front HasNoBank unbanked_role c.args.bytes.now c.in_err-modes.field-0.0 c.in_err-modes.ensures.refused in
    let p = err_from_is_err_and c.from_residual.result c.from_residual.ensures.1 in
    rw (p.1, p.2) refused

pub returns-in_err-isas-clause-refused : goal.returns-in_err-isas-clause-refused
returns-in_err-isas-clause-refused c =
    let entries = model_of_units c.in_ok-modes.field-0-0 in
    let refused = of_routes HasNoBank unbanked_role c.args.bytes.now entries c.in_ok-modes.ensures.found
    (has_bank entries.edition c.in_ok-modes.ensures.banked) c.in_err-isas.field-0.0
    (routes_refused entries c.in_ok-modes.modes c.in_ok-modes.ensures.modes c.in_err-isas.field-0.0 c.in_err-isas.ensures.refused) in
    let p = err_from_is_err_and c.from_residual-in_err-isas.result c.from_residual-in_err-isas.ensures.1 in
    rw (p.1, p.2) refused
