use Rattle.std.proofs.lemmas.Result.{IfOk-from_err}
use Rattle.std.proofs.Common.{◌≡◌, ◌==◌, ◌∙◌, length, sym, ap}
use Rattle.std.proofs.Math.Nat.{mod-eq_of_lt}
use Rattle.ctl_bdd.specs.Bits.{bools, number_at}
use Rattle.ctl_bdd.proofs.Sets.{bools_long}
use Rattle.ctl_bdd.proofs.Numbers.{number_alike}
use Rattle.ctl_bdd.proofs.bits.equals.Goals as goal

pub returns-clause-words : goal.returns-clause-words
returns-clause-words c word =
    let long : length (bools c.args.book.now c.args.bits.now word) ≡ length (bools c.args.book.now c.in_ok-wanted.wanted word) =
    bools_long c.args.book.now c.args.bits.now word ∙ sym (bools_long c.args.book.now c.in_ok-wanted.wanted word ∙ c.in_ok-wanted.ensures.long) in
    rw c.as_slice.ensures at c.in_ok-set.ensures.words word
    ∙ number_alike _ _ long
    ∙ ap (λ n. number_at c.args.book.now c.args.bits.now word == n) (c.in_ok-wanted.ensures.number word ∙ mod-eq_of_lt c.requires.key)

pub returns-in_err-set-clause-within : goal.returns-in_err-set-clause-within
returns-in_err-set-clause-within c = IfOk-from_err c.from_residual-in_err-set.result _ c.from_residual-in_err-set.ensures.0

pub returns-in_err-set-clause-words : goal.returns-in_err-set-clause-words
returns-in_err-set-clause-words c = IfOk-from_err c.from_residual-in_err-set.result _ c.from_residual-in_err-set.ensures.0

pub returns-in_err-wanted-clause-within : goal.returns-in_err-wanted-clause-within
returns-in_err-wanted-clause-within c = IfOk-from_err c.from_residual.result _ c.from_residual.ensures.0

pub returns-in_err-wanted-clause-words : goal.returns-in_err-wanted-clause-words
returns-in_err-wanted-clause-words c = IfOk-from_err c.from_residual.result _ c.from_residual.ensures.0
