use Rattle.std.proofs.lemmas.Result.{IfOk-from_err}
use Rattle.std.proofs.Common.{◌∙◌, cond, ap}
use Rattle.rec_bits.proofs.Equality.{number_turned}
use Rattle.ctl_bdd.specs.Bits.{bits_value, number_at}
use Rattle.ctl_bdd.proofs.Sets.{sets_later, number_later}
use Rattle.ctl_bdd.proofs.Numbers.{number_choice}
use Rattle.bit_bdd.proofs.CallerLemmas.{extends_trans}
use Rattle.ctl_bdd.proofs.gates.row_bits.Goals as goal

pub returns-in_err-out-clause-grows : goal.returns-in_err-out-clause-grows
returns-in_err-out-clause-grows c = extends_trans c.args.book.now c.equals.new.book c.choice_bits.new.book c.in_ok-test.ensures.grows c.in_err-out.ensures.grows

pub returns-clause-grows : goal.returns-clause-grows
returns-clause-grows c = extends_trans c.args.book.now c.equals.new.book c.choice_bits.new.book c.in_ok-test.ensures.grows c.in_ok-out.ensures.grows

pub choice_bits-requires-clause-on : goal.choice_bits-requires-clause-on
choice_bits-requires-clause-on c = sets_later c.args.book.now c.equals.new.book c.in_ok-test.ensures.grows c.args.on.now c.requires.on

pub choice_bits-requires-clause-off : goal.choice_bits-requires-clause-off
choice_bits-requires-clause-off c = sets_later c.args.book.now c.equals.new.book c.in_ok-test.ensures.grows c.args.off.now c.requires.off

pub returns-clause-number : goal.returns-clause-number
returns-clause-number c word =
    let on = number_later c.args.book.now c.equals.new.book c.in_ok-test.ensures.grows c.args.on.now c.requires.on word in
    let off = number_later c.args.book.now c.equals.new.book c.in_ok-test.ensures.grows c.args.off.now c.requires.off word in
    let test = c.in_ok-test.ensures.words word ∙ number_turned (number_at c.args.book.now c.args.sel.now word) c.args.key in
    ap bits_value (c.in_ok-out.ensures.words word)
    ∙ number_choice _ _ _
    ∙ (λ j. cond (test j) (on j) (off j))

pub returns-in_err-out-clause-sets : goal.returns-in_err-out-clause-sets
returns-in_err-out-clause-sets c = IfOk-from_err c.from_residual-in_err-out.result _ c.from_residual-in_err-out.ensures.0

pub returns-in_err-out-clause-long : goal.returns-in_err-out-clause-long
returns-in_err-out-clause-long c = IfOk-from_err c.from_residual-in_err-out.result _ c.from_residual-in_err-out.ensures.0

pub returns-in_err-out-clause-number : goal.returns-in_err-out-clause-number
returns-in_err-out-clause-number c = IfOk-from_err c.from_residual-in_err-out.result _ c.from_residual-in_err-out.ensures.0

pub returns-in_err-test-clause-sets : goal.returns-in_err-test-clause-sets
returns-in_err-test-clause-sets c = IfOk-from_err c.from_residual.result _ c.from_residual.ensures.0

pub returns-in_err-test-clause-long : goal.returns-in_err-test-clause-long
returns-in_err-test-clause-long c = IfOk-from_err c.from_residual.result _ c.from_residual.ensures.0

pub returns-in_err-test-clause-number : goal.returns-in_err-test-clause-number
returns-in_err-test-clause-number c = IfOk-from_err c.from_residual.result _ c.from_residual.ensures.0
