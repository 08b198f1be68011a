use Rattle.std.proofs.Common.{arith, rules}
use Rattle.net_model.specs.Written.{model_of_units}
use Rattle.net_front.proofs.FrontLaws.{few_items, file_of, refusal_of}
use Rattle.net_front.specs.Taken.{IsLater, added_role}
use Rattle.net_front.proofs.TakenLaws.{not_later, refusal_of_none, taken_refusal, untaken_refusal}
use Rattle.net_front.proofs.taken.read_net.Goals as goal

pub modes-requires : goal.modes-requires
modes-requires c = few_items c.args.bytes.now c.in_ok-units.units c.in_ok-units.ensures.found c.requires

pub modes-requires-2 : goal.modes-requires-2
modes-requires-2 c = few_items c.args.bytes.now c.in_ok-units.units c.in_ok-units.ensures.found c.requires

pub returns-then-units-newest-clause-refused : goal.returns-then-units-newest-clause-refused
returns-then-units-newest-clause-refused c =
    untaken_refusal (IsLater c.args.newest) added_role c.args.bytes.now (model_of_units c.in_ok-units.units) c.in_ok-units.ensures.found c.if-units-newest.true
    c.modes.result c.newer_refusal.result c.modes.ensures.found c.modes.ensures.refused
    (rw c.added_role-role.ensures at c.newer_refusal.ensures.kept) (rw c.added_role-role.ensures at c.newer_refusal.ensures.refused)

pub returns-clause-found : goal.returns-clause-found
returns-clause-found c = file_of c.args.bytes.now (model_of_units c.in_ok-units.units) c.in_ok-modes.modes c.in_ok-units.ensures.found c.in_ok-modes.ensures.found

pub returns-in_err-modes-clause-refused : goal.returns-in_err-modes-clause-refused
returns-in_err-modes-clause-refused c =
    let older = c.if-units-newest.false in
    let refused = taken_refusal (IsLater c.args.newest) added_role c.args.bytes.now (model_of_units c.in_ok-units.units) c.in_ok-units.ensures.found (not_later c.args.newest c.in_ok-units.units.edition (omega (arith, older))) c.in_err-modes.field-0.0
    (refusal_of c.args.bytes.now (model_of_units c.in_ok-units.units) c.in_err-modes.field-0.0 c.in_ok-units.ensures.found c.in_err-modes.ensures.refused) in
    search rules

pub returns-in_err-units-clause-refused : goal.returns-in_err-units-clause-refused
returns-in_err-units-clause-refused c =
    let refused = refusal_of_none (IsLater c.args.newest) added_role c.args.bytes.now c.in_err-units.field-0.0 c.in_err-units.ensures.refused in
    search rules
