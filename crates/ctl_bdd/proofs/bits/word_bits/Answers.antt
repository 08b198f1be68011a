use Rattle.std.proofs.lemmas.Result.{IfOk-from_err}
use Rattle.std.proofs.Common.{◌∙◌, arith}
use Rattle.std.proofs.lemmas.List.{length_push}
use Rattle.bit_bdd.proofs.CallerLemmas.{extends_trans}
use Rattle.ctl_bdd.proofs.Sets.{sets_later, number_later, sets_push}
use Rattle.ctl_bdd.proofs.Numbers.{number_more}
use Rattle.ctl_bdd.proofs.bits.word_bits.Goals as goal

pub loop-bit-preserved : goal.loop-bit-preserved
loop-bit-preserved c = record {
  grows = extends_trans c.args.book.now c.loop-bit.book c.bit.new.self c.loop-bit.invariant.grows c.in_ok-set.ensures.grows;
  sets = rw c.in_ok-push.ensures.pushed (sets_push c.bit.new.self c.loop-bit.out c.in_ok-set.set (sets_later c.loop-bit.book c.bit.new.self c.in_ok-set.ensures.grows c.loop-bit.out c.loop-bit.invariant.sets) c.in_ok-set.ensures.within);
  long = rw c.in_ok-push.ensures.pushed (simp length_push (omega (arith, c.loop-bit.invariant.long)));
  number = λ word.
      rw c.in_ok-push.ensures.pushed
      (number_more c.bit.new.self c.loop-bit.out c.in_ok-set.set word word c.loop-bit.bit c.loop-bit.invariant.long
      (c.in_ok-set.ensures.words word)
      (number_later c.loop-bit.book c.bit.new.self c.in_ok-set.ensures.grows c.loop-bit.out c.loop-bit.invariant.sets word ∙ c.loop-bit.invariant.number word));
}

pub returns-in_err-push-clause-sets : goal.returns-in_err-push-clause-sets
returns-in_err-push-clause-sets c = IfOk-from_err c.from_residual-in_err-push.result _ c.from_residual-in_err-push.ensures.0

pub returns-in_err-push-clause-long : goal.returns-in_err-push-clause-long
returns-in_err-push-clause-long c = IfOk-from_err c.from_residual-in_err-push.result _ c.from_residual-in_err-push.ensures.0

pub returns-in_err-push-clause-number : goal.returns-in_err-push-clause-number
returns-in_err-push-clause-number c = IfOk-from_err c.from_residual-in_err-push.result _ c.from_residual-in_err-push.ensures.0

pub returns-in_err-set-clause-sets : goal.returns-in_err-set-clause-sets
returns-in_err-set-clause-sets c = IfOk-from_err c.from_residual.result _ c.from_residual.ensures.0

pub returns-in_err-set-clause-long : goal.returns-in_err-set-clause-long
returns-in_err-set-clause-long c = IfOk-from_err c.from_residual.result _ c.from_residual.ensures.0

pub returns-in_err-set-clause-number : goal.returns-in_err-set-clause-number
returns-in_err-set-clause-number c = IfOk-from_err c.from_residual.result _ c.from_residual.ensures.0
