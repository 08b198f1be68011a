use Rattle.std.proofs.Common.{sym}
use Rattle.std.proofs.lemmas.Result.{err_from_is_err_and}
use Rattle.std.proofs.lemmas.Bool.{eqb-false, eqb-true}
use Rattle.grammar.proofs.Whole.{fault_of_fails, fault_of_rest, text_of_reads, only_text, no_text}
use Rattle.net_model.specs.Grammar.{IsText}
use Rattle.net_model.specs.Written.{model_of_units}
use Rattle.net_parser.specs.Inner.Steps.{after_items}
use Rattle.net_parser.proofs.whole.text.Goals as goal

pub returns-in_err-units-clause-only : goal.returns-in_err-units-clause-only
returns-in_err-units-clause-only c entries spelled =
    let p = err_from_is_err_and c.from_residual.result c.from_residual.ensures.1 in
    rw (p.1, p.2) (no_text IsText after_items c.args.ts.now c.in_err-units.field-0.0 c.in_err-units.ensures entries spelled)

pub returns-in_err-units-clause-fault : goal.returns-in_err-units-clause-fault
returns-in_err-units-clause-fault c =
    let p = err_from_is_err_and c.from_residual.result c.from_residual.ensures.1 in
    rw (p.1, p.2) (fault_of_fails IsText after_items c.args.ts.now c.in_err-units.field-0.0 c.in_err-units.ensures)

pub returns-then-is_empty-clause-found : goal.returns-then-is_empty-clause-found
returns-then-is_empty-clause-found c = text_of_reads IsText after_items c.args.ts.now c.in_ok-units.rest.now (model_of_units c.in_ok-units.units) c.in_ok-units.ensures (eqb-true _ 0 (sym c.if-is_empty.ensures))

pub returns-then-is_empty-clause-only : goal.returns-then-is_empty-clause-only
returns-then-is_empty-clause-only c entries spelled = sym (only_text IsText after_items c.args.ts.now c.in_ok-units.rest.now (model_of_units c.in_ok-units.units) c.in_ok-units.ensures entries spelled).0

pub returns-else-is_empty-clause-only : goal.returns-else-is_empty-clause-only
returns-else-is_empty-clause-only c entries spelled =
    let z = (only_text IsText after_items c.args.ts.now c.in_ok-units.rest.now (model_of_units c.in_ok-units.units) c.in_ok-units.ensures entries spelled).1 in
    absurd (eqb-false _ 0 (sym c.if-is_empty.ensures) z)

pub returns-else-is_empty-clause-fault : goal.returns-else-is_empty-clause-fault
returns-else-is_empty-clause-fault c = fault_of_rest IsText after_items c.args.ts.now c.in_ok-units.rest.now (model_of_units c.in_ok-units.units) c.in_ok-units.ensures (eqb-false _ 0 (sym c.if-is_empty.ensures))
