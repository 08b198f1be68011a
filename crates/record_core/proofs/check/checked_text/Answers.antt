use Rattle.std.proofs.lemmas.Result.{err_from_is_err_and}
use Rattle.record_core.proofs.CheckLemmas.{answers_checked, answers_fault}
use Rattle.record_core.proofs.check.checked_text.Goals as goal

pub returns-clause-ok : goal.returns-clause-ok
returns-clause-ok c = λ line. answers_checked line c.args.net.now c.args.src.now c.args.image.now c.in_ok-text.text.items c.in_ok-text.ensures.checked

pub returns-in_err-text-clause-refused : goal.returns-in_err-text-clause-refused
returns-in_err-text-clause-refused c = λ line.
    let p = err_from_is_err_and c.from_residual.result c.from_residual.ensures.1 in
    rw (p.1, p.2) (answers_fault line c.args.net.now c.args.src.now c.args.image.now c.in_err-text.field-0.0 c.in_err-text.ensures.refused)
