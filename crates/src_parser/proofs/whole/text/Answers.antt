use Rattle.std.proofs.Common.{sym}
use Rattle.std.proofs.lemmas.Result.{err_from_is_err_and}
use Rattle.std.proofs.lemmas.Bool.{eqb-false, eqb-true}
use Rattle.grammar.proofs.Whole.{fault_of_fails, fault_of_rest, text_of_reads, only_text, no_text}
use Rattle.src_model.specs.Grammar.{IsProgram}
use Rattle.src_model.specs.Written.{model_of_program}
use Rattle.src_parser.specs.Inner.Steps.{after_text}
use Rattle.src_parser.proofs.whole.text.Goals as goal

pub returns-in_err-program-clause-only : goal.returns-in_err-program-clause-only
returns-in_err-program-clause-only c entries spelled =
    let p = err_from_is_err_and c.from_residual.result c.from_residual.ensures.1 in
    rw (p.1, p.2) (no_text IsProgram after_text c.args.ts.now c.in_err-program.field-0.0 c.in_err-program.ensures entries spelled)

pub returns-in_err-program-clause-fault : goal.returns-in_err-program-clause-fault
returns-in_err-program-clause-fault c =
    let p = err_from_is_err_and c.from_residual.result c.from_residual.ensures.1 in
    rw (p.1, p.2) (fault_of_fails IsProgram after_text c.args.ts.now c.in_err-program.field-0.0 c.in_err-program.ensures)

pub returns-then-is_empty-clause-found : goal.returns-then-is_empty-clause-found
returns-then-is_empty-clause-found c = text_of_reads IsProgram after_text c.args.ts.now c.in_ok-program.rest.now (model_of_program c.in_ok-program.program) c.in_ok-program.ensures (eqb-true _ 0 (sym c.if-is_empty.ensures))

pub returns-then-is_empty-clause-only : goal.returns-then-is_empty-clause-only
returns-then-is_empty-clause-only c entries spelled = sym (only_text IsProgram after_text c.args.ts.now c.in_ok-program.rest.now (model_of_program c.in_ok-program.program) c.in_ok-program.ensures entries spelled).0

pub returns-else-is_empty-clause-only : goal.returns-else-is_empty-clause-only
returns-else-is_empty-clause-only c entries spelled =
    let z = (only_text IsProgram after_text c.args.ts.now c.in_ok-program.rest.now (model_of_program c.in_ok-program.program) c.in_ok-program.ensures entries spelled).1 in
    absurd (eqb-false _ 0 (sym c.if-is_empty.ensures) z)

pub returns-else-is_empty-clause-fault : goal.returns-else-is_empty-clause-fault
returns-else-is_empty-clause-fault c = fault_of_rest IsProgram after_text c.args.ts.now c.in_ok-program.rest.now (model_of_program c.in_ok-program.program) c.in_ok-program.ensures (eqb-false _ 0 (sym c.if-is_empty.ensures))
