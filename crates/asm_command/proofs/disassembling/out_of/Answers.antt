use Rattle.std.proofs.lemmas.Result.{err_from_is_err_and}
use Rattle.asm_command.proofs.disassembling.out_of.Goals as goal

pub shown_of-requires-clause-image : goal.shown_of-requires-clause-image
shown_of-requires-clause-image c = c.in_ok-image.ensures.found.is.fits

pub returns-in_err-image-clause-refused : goal.returns-in_err-image-clause-refused
returns-in_err-image-clause-refused c =
    let p = err_from_is_err_and c.from_residual.result c.from_residual.ensures.1 in
    rw (p.1, p.2) c.in_err-image.ensures.refused

pub returns-in_err-text-clause-refused : goal.returns-in_err-text-clause-refused
returns-in_err-text-clause-refused c =
    let p = err_from_is_err_and c.from_residual-in_err-text.result c.from_residual-in_err-text.ensures.1 in
    rw (p.1, p.2) tt

pub returns-clause-out : goal.returns-clause-out
returns-clause-out c = record { image = c.in_ok-image.image; read = c.in_ok-image.ensures.found; shown = c.in_ok-text.ensures }
