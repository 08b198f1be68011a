use Rattle.std.proofs.lemmas.Result.{err_from_is_err_and}
use Rattle.src_model.specs.Written.{model_of_program}
use Rattle.dual_command.proofs.DualLemmas.{told_of_part}
use Rattle.dual_command.proofs.compiler.program_in_parts.Goals as goal

pub returns-in_err-typed-clause-refused : goal.returns-in_err-typed-clause-refused
returns-in_err-typed-clause-refused c =
    let p = err_from_is_err_and c.from_residual.result c.from_residual.ensures.1 in
    rw (p.1, p.2) c.in_err-typed.ensures.refused

pub returns-in_err-in_bank-clause-refused : goal.returns-in_err-in_bank-clause-refused
returns-in_err-in_bank-clause-refused c =
    let p = err_from_is_err_and c.from_residual-in_err-in_bank.result c.from_residual-in_err-in_bank.ensures.1 in
    rw (p.1, p.2)
    (told_of_part c.args.source.now c.args.named.now c.args.width (model_of_program c.in_ok-typed.typed.program) c.in_ok-typed.ensures.found _ c.in_err-in_bank.ensures.refused)
