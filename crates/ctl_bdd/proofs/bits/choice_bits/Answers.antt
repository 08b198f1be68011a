use Rattle.std.proofs.lemmas.Result.{IfOk-from_err}
use Rattle.std.proofs.Common.{◌++◌, ◌∷◌, [], ◌<◌, cond, length, sym, ◌∙◌, arith}
use Rattle.std.proofs.lemmas.List.{length_push}
use Rattle.bit_bdd.specs.Diagrams.{has_word}
use Rattle.bit_bdd.proofs.CallerLemmas.{same_words, extends_trans, still_within}
use Rattle.ctl_bdd.specs.Inner.Bits.{choice_of}
use Rattle.ctl_bdd.proofs.Sets.{sets_later, bools_later, set_in, sets_push, bools_push, bools_more}
use Rattle.ctl_bdd.proofs.Bools.{choice_push}
use Rattle.ctl_bdd.proofs.bits.choice_bits.Goals as goal

pub ite-requires-clause-c : goal.ite-requires-clause-c
ite-requires-clause-c c = still_within c.args.book.now c.loop-i.book c.loop-i.invariant.grows c.args.test c.requires.test

pub returns-in_err-set-clause-grows : goal.returns-in_err-set-clause-grows
returns-in_err-set-clause-grows c = extends_trans c.args.book.now c.loop-i.book c.ite.new.self c.loop-i.invariant.grows c.in_err-set.ensures.grows

pub returns-in_err-push-clause-grows : goal.returns-in_err-push-clause-grows
returns-in_err-push-clause-grows c = extends_trans c.args.book.now c.loop-i.book c.ite.new.self c.loop-i.invariant.grows c.in_ok-set.ensures.grows

pub ite-requires-clause-a : goal.ite-requires-clause-a
ite-requires-clause-a c =
    omega (arith, set_in c.args.book.now c.args.on.now c.loop-i.i c.loop-i-test.true c.requires.on, c.loop-i.invariant.grows.longer)

pub ite-requires-clause-b : goal.ite-requires-clause-b
ite-requires-clause-b c =
    let lt : c.loop-i.i < length c.args.off.now = omega (arith, c.loop-i-test.true, c.requires.long) in
    omega (arith, set_in c.args.book.now c.args.off.now c.loop-i.i lt c.requires.off, c.loop-i.invariant.grows.longer)

pub loop-i-preserved : goal.loop-i-preserved
loop-i-preserved c =
    let lt : c.loop-i.i < length c.args.off.now = omega (arith, c.loop-i-test.true, c.requires.long) in
    let in_on = set_in c.args.book.now c.args.on.now c.loop-i.i c.loop-i-test.true c.requires.on in
    let in_off = set_in c.args.book.now c.args.off.now c.loop-i.i lt c.requires.off in
    record {
      grows = extends_trans c.args.book.now c.loop-i.book c.ite.new.self c.loop-i.invariant.grows c.in_ok-set.ensures.grows;
      sets = rw c.in_ok-push.ensures.pushed (sets_push c.ite.new.self c.loop-i.out c.in_ok-set.set (sets_later c.loop-i.book c.ite.new.self c.in_ok-set.ensures.grows c.loop-i.out c.loop-i.invariant.sets) c.in_ok-set.ensures.within);
      long = rw c.in_ok-push.ensures.pushed (simp length_push (omega (arith, c.loop-i.invariant.long)));
      words = λ word.
          let old = bools_later c.loop-i.book c.ite.new.self c.in_ok-set.ensures.grows c.loop-i.out c.loop-i.invariant.sets word ∙ c.loop-i.invariant.words word in
          let d = same_words c.args.book.now c.loop-i.book c.loop-i.invariant.grows c.args.test c.requires.test word in
          let e = same_words c.args.book.now c.loop-i.book c.loop-i.invariant.grows _ in_on word in
          let f = same_words c.args.book.now c.loop-i.book c.loop-i.invariant.grows _ in_off word in
          let new = c.in_ok-set.ensures.words word ∙ (λ j. cond (d j) (e j) (f j)) in
          let p = bools_more c.args.book.now c.args.on.now c.loop-i.i word c.loop-i-test.true in
          let q = bools_more c.args.book.now c.args.off.now c.loop-i.i word lt in
          rw c.in_ok-push.ensures.pushed
          (bools_push c.ite.new.self c.loop-i.out c.in_ok-set.set word ∙ (λ j. old j ++ new j ∷ [])
          ∙ choice_push (has_word c.args.book.now c.args.test word) _ _ _ _
          ∙ sym (λ j. choice_of (has_word c.args.book.now c.args.test word) (p j) (q j)));
    }

pub returns-in_err-push-clause-sets : goal.returns-in_err-push-clause-sets
returns-in_err-push-clause-sets c = IfOk-from_err c.from_residual-in_err-push.result _ c.from_residual-in_err-push.ensures.0

pub returns-in_err-push-clause-long : goal.returns-in_err-push-clause-long
returns-in_err-push-clause-long c = IfOk-from_err c.from_residual-in_err-push.result _ c.from_residual-in_err-push.ensures.0

pub returns-in_err-push-clause-words : goal.returns-in_err-push-clause-words
returns-in_err-push-clause-words c = IfOk-from_err c.from_residual-in_err-push.result _ c.from_residual-in_err-push.ensures.0

pub returns-in_err-set-clause-sets : goal.returns-in_err-set-clause-sets
returns-in_err-set-clause-sets c = IfOk-from_err c.from_residual.result _ c.from_residual.ensures.0

pub returns-in_err-set-clause-long : goal.returns-in_err-set-clause-long
returns-in_err-set-clause-long c = IfOk-from_err c.from_residual.result _ c.from_residual.ensures.0

pub returns-in_err-set-clause-words : goal.returns-in_err-set-clause-words
returns-in_err-set-clause-words c = IfOk-from_err c.from_residual.result _ c.from_residual.ensures.0
