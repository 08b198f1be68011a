use Rattle.std.proofs.lemmas.Result.{IfOk-from_err}
use Rattle.std.proofs.Common.{◌≡◌, ◌∙◌, length, sym, ap}
use Rattle.rec_bits.specs.Operators.{bit_of}
use Rattle.ctl_bdd.specs.Bits.{bools, bits_value}
use Rattle.ctl_bdd.proofs.Sets.{bools_long}
use Rattle.ctl_bdd.proofs.Numbers.{number_and, number_or, number_xor, number_alike, number_one}
use Rattle.ctl_bdd.proofs.gates.operator_bits.Goals as goal

pub returns-in_ok-out-in-And-clause-number : goal.returns-in_ok-out-in-And-clause-number
returns-in_ok-out-in-And-clause-number c word =
    let long : length (bools c.args.book.now c.args.a.now word) ≡ length (bools c.args.book.now c.args.b.now word) =
    bools_long c.args.book.now c.args.a.now word ∙ c.requires.long ∙ sym (bools_long c.args.book.now c.args.b.now word) in
    rw c.in-And.is (ap bits_value (c.in_ok-out-in-And.ensures.words word) ∙ number_and _ _ long)

pub returns-in_ok-out-in-Or-clause-number : goal.returns-in_ok-out-in-Or-clause-number
returns-in_ok-out-in-Or-clause-number c word =
    let long : length (bools c.args.book.now c.args.a.now word) ≡ length (bools c.args.book.now c.args.b.now word) =
    bools_long c.args.book.now c.args.a.now word ∙ c.requires.long ∙ sym (bools_long c.args.book.now c.args.b.now word) in
    rw c.in-Or.is (ap bits_value (c.in_ok-out-in-Or.ensures.words word) ∙ number_or _ _ long)

pub returns-in_ok-out-in-Xor-clause-number : goal.returns-in_ok-out-in-Xor-clause-number
returns-in_ok-out-in-Xor-clause-number c word =
    let long : length (bools c.args.book.now c.args.a.now word) ≡ length (bools c.args.book.now c.args.b.now word) =
    bools_long c.args.book.now c.args.a.now word ∙ c.requires.long ∙ sym (bools_long c.args.book.now c.args.b.now word) in
    rw c.in-Xor.is (ap bits_value (c.in_ok-out-in-Xor.ensures.words word) ∙ number_xor _ _ long)

pub returns-in_ok-out-in-Eq-clause-number : goal.returns-in_ok-out-in-Eq-clause-number
returns-in_ok-out-in-Eq-clause-number c word =
    let long : length (bools c.args.book.now c.args.a.now word) ≡ length (bools c.args.book.now c.args.b.now word) =
    bools_long c.args.book.now c.args.a.now word ∙ c.requires.long ∙ sym (bools_long c.args.book.now c.args.b.now word) in
    rw (c.in-Eq.is, c.in_ok-out-in-Eq.ensures) (number_one c.equal_set.new.book c.in_ok-set-in-Eq.set word ∙ ap bit_of (c.in_ok-set-in-Eq.ensures.words word ∙ number_alike _ _ long))

pub returns-in_err-out-in-And-clause-sets : goal.returns-in_err-out-in-And-clause-sets
returns-in_err-out-in-And-clause-sets c = IfOk-from_err c.from_residual.result _ c.from_residual.ensures.0

pub returns-in_err-out-in-And-clause-long : goal.returns-in_err-out-in-And-clause-long
returns-in_err-out-in-And-clause-long c = IfOk-from_err c.from_residual.result _ c.from_residual.ensures.0

pub returns-in_err-out-in-And-clause-number : goal.returns-in_err-out-in-And-clause-number
returns-in_err-out-in-And-clause-number c = IfOk-from_err c.from_residual.result _ c.from_residual.ensures.0

pub returns-in_err-out-in-Eq-clause-sets : goal.returns-in_err-out-in-Eq-clause-sets
returns-in_err-out-in-Eq-clause-sets c = IfOk-from_err c.from_residual-in_err-out-in-Eq.result _ c.from_residual-in_err-out-in-Eq.ensures.0

pub returns-in_err-out-in-Eq-clause-long : goal.returns-in_err-out-in-Eq-clause-long
returns-in_err-out-in-Eq-clause-long c = IfOk-from_err c.from_residual-in_err-out-in-Eq.result _ c.from_residual-in_err-out-in-Eq.ensures.0

pub returns-in_err-out-in-Eq-clause-number : goal.returns-in_err-out-in-Eq-clause-number
returns-in_err-out-in-Eq-clause-number c = IfOk-from_err c.from_residual-in_err-out-in-Eq.result _ c.from_residual-in_err-out-in-Eq.ensures.0

pub returns-in_err-out-in-Or-clause-sets : goal.returns-in_err-out-in-Or-clause-sets
returns-in_err-out-in-Or-clause-sets c = IfOk-from_err c.from_residual-in_err-out-in-Or.result _ c.from_residual-in_err-out-in-Or.ensures.0

pub returns-in_err-out-in-Or-clause-long : goal.returns-in_err-out-in-Or-clause-long
returns-in_err-out-in-Or-clause-long c = IfOk-from_err c.from_residual-in_err-out-in-Or.result _ c.from_residual-in_err-out-in-Or.ensures.0

pub returns-in_err-out-in-Or-clause-number : goal.returns-in_err-out-in-Or-clause-number
returns-in_err-out-in-Or-clause-number c = IfOk-from_err c.from_residual-in_err-out-in-Or.result _ c.from_residual-in_err-out-in-Or.ensures.0

pub returns-in_err-out-in-Xor-clause-sets : goal.returns-in_err-out-in-Xor-clause-sets
returns-in_err-out-in-Xor-clause-sets c = IfOk-from_err c.from_residual-in_err-out-in-Xor.result _ c.from_residual-in_err-out-in-Xor.ensures.0

pub returns-in_err-out-in-Xor-clause-long : goal.returns-in_err-out-in-Xor-clause-long
returns-in_err-out-in-Xor-clause-long c = IfOk-from_err c.from_residual-in_err-out-in-Xor.result _ c.from_residual-in_err-out-in-Xor.ensures.0

pub returns-in_err-out-in-Xor-clause-number : goal.returns-in_err-out-in-Xor-clause-number
returns-in_err-out-in-Xor-clause-number c = IfOk-from_err c.from_residual-in_err-out-in-Xor.result _ c.from_residual-in_err-out-in-Xor.ensures.0

pub returns-in_err-set-in-Eq-clause-sets : goal.returns-in_err-set-in-Eq-clause-sets
returns-in_err-set-in-Eq-clause-sets c = IfOk-from_err c.from_residual-in_err-set-in-Eq.result _ c.from_residual-in_err-set-in-Eq.ensures.0

pub returns-in_err-set-in-Eq-clause-long : goal.returns-in_err-set-in-Eq-clause-long
returns-in_err-set-in-Eq-clause-long c = IfOk-from_err c.from_residual-in_err-set-in-Eq.result _ c.from_residual-in_err-set-in-Eq.ensures.0

pub returns-in_err-set-in-Eq-clause-number : goal.returns-in_err-set-in-Eq-clause-number
returns-in_err-set-in-Eq-clause-number c = IfOk-from_err c.from_residual-in_err-set-in-Eq.result _ c.from_residual-in_err-set-in-Eq.ensures.0
