use Rattle.std.proofs.Common.{sym, ◌∙◌, rules}
use Rattle.net_model.specs.Written.{model_of_units}
use Rattle.net_front.proofs.FrontLaws.{few_items, file_of, refusal_of}
use Rattle.net_front.specs.Taken.{HasNoBank, unbanked_role}
use Rattle.net_front.proofs.TakenLaws.{has_bank, refusal_of_none, taken_refusal, untaken_refusal}
use Rattle.net_front.proofs.taken.read_banked.Goals as goal

pub modes-requires : goal.modes-requires
modes-requires c = few_items c.args.bytes.now c.in_ok-units.units c.in_ok-units.ensures.found c.requires

pub modes-requires-2 : goal.modes-requires-2
modes-requires-2 c = few_items c.args.bytes.now c.in_ok-units.units c.in_ok-units.ensures.found c.requires

pub returns-then-not-is_banked-clause-refused : goal.returns-then-not-is_banked-clause-refused
returns-then-not-is_banked-clause-refused c =
    untaken_refusal HasNoBank unbanked_role c.args.bytes.now (model_of_units c.in_ok-units.units) c.in_ok-units.ensures.found
    (sym c.is_banked.ensures ∙ c.if-not-is_banked.true)
    c.modes.result c.newer_refusal.result c.modes.ensures.found c.modes.ensures.refused
    (rw c.unbanked_role-role.ensures at c.newer_refusal.ensures.kept) (rw c.unbanked_role-role.ensures at c.newer_refusal.ensures.refused)

pub returns-clause-found : goal.returns-clause-found
returns-clause-found c = file_of c.args.bytes.now (model_of_units c.in_ok-units.units) c.in_ok-modes.modes c.in_ok-units.ensures.found c.in_ok-modes.ensures.found

pub returns-in_err-modes-clause-refused : goal.returns-in_err-modes-clause-refused
returns-in_err-modes-clause-refused c =
    let refused = taken_refusal HasNoBank unbanked_role c.args.bytes.now (model_of_units c.in_ok-units.units) c.in_ok-units.ensures.found
    (has_bank c.in_ok-units.units.edition (sym c.is_banked.ensures ∙ c.if-not-is_banked.false)) c.in_err-modes.field-0.0
    (refusal_of c.args.bytes.now (model_of_units c.in_ok-units.units) c.in_err-modes.field-0.0 c.in_ok-units.ensures.found c.in_err-modes.ensures.refused) in
    search rules

pub returns-in_err-units-clause-refused : goal.returns-in_err-units-clause-refused
returns-in_err-units-clause-refused c =
    let refused = refusal_of_none HasNoBank unbanked_role c.args.bytes.now c.in_err-units.field-0.0 c.in_err-units.ensures.refused in
    search rules
