use Rattle.std.proofs.lemmas.Result.{err_from_is_err_and}
use Rattle.record_core.proofs.TuneLemmas.{answers_tuned, tune_fault}
use Rattle.record_core.proofs.tune.tuned_text.Goals as goal

pub returns-clause-ok : goal.returns-clause-ok
returns-clause-ok c = λ line. answers_tuned line c.args.net.now c.args.src.now c.in_ok-text.text.items c.in_ok-text.ensures.right

pub returns-in_err-text-clause-refused : goal.returns-in_err-text-clause-refused
returns-in_err-text-clause-refused c = λ line.
    let p = err_from_is_err_and c.from_residual.result c.from_residual.ensures.1 in
    rw (p.1, p.2) (tune_fault line c.args.net.now c.args.src.now c.in_err-text.field-0.0 c.in_err-text.ensures.refused)
