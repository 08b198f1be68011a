use Rattle.std.proofs.lemmas.Result.{IfOk-from_err}
use Rattle.std.proofs.Common.{◌==◌, ◌∙◌, ap, arith}
use Rattle.std.proofs.lemmas.List.{length_push}
use Rattle.std.proofs.lemmas.Nat.Bits.{shr_and_one}
use Rattle.ctl_bdd.proofs.Sets.{sets_push}
use Rattle.ctl_bdd.proofs.Numbers.{number_more}
use Rattle.ctl_bdd.proofs.bits.constant_bits.Goals as goal

pub loop-bit-preserved : goal.loop-bit-preserved
loop-bit-preserved c = record {
  sets = rw c.in_ok-push.ensures.pushed (sets_push c.args.book.now c.loop-bit.out c.constant_set-set.result c.loop-bit.invariant.sets c.constant_set-set.ensures.within);
  long = rw c.in_ok-push.ensures.pushed (simp length_push (omega (arith, c.loop-bit.invariant.long)));
  number = λ word.
      rw c.in_ok-push.ensures.pushed
      (number_more c.args.book.now c.loop-bit.out c.constant_set-set.result word c.args.value c.loop-bit.bit c.loop-bit.invariant.long
      (c.constant_set-set.ensures.words word ∙ ap (λ n. n == 1) (shr_and_one c.args.value c.loop-bit.bit)) (c.loop-bit.invariant.number word));
}

pub returns-in_err-push-clause-sets : goal.returns-in_err-push-clause-sets
returns-in_err-push-clause-sets c = IfOk-from_err c.from_residual.result _ c.from_residual.ensures.0

pub returns-in_err-push-clause-long : goal.returns-in_err-push-clause-long
returns-in_err-push-clause-long c = IfOk-from_err c.from_residual.result _ c.from_residual.ensures.0

pub returns-in_err-push-clause-number : goal.returns-in_err-push-clause-number
returns-in_err-push-clause-number c = IfOk-from_err c.from_residual.result _ c.from_residual.ensures.0
