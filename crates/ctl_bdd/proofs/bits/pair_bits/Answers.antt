use Rattle.std.proofs.lemmas.Result.{IfOk-from_err}
use Rattle.std.proofs.Common.{◌≡◌, ◌++◌, ◌∷◌, [], ◌<◌, length, take, sym, ◌∙◌, arith}
use Rattle.std.proofs.lemmas.List.{length_push}
use Rattle.bit_bdd.proofs.CallerLemmas.{same_words, extends_trans}
use Rattle.ctl_bdd.specs.Bits.{bools}
use Rattle.ctl_bdd.specs.Inner.Bits.{pair_of, pairs_of}
use Rattle.ctl_bdd.proofs.Sets.{sets_later, bools_later, set_in, sets_push, bools_push, bools_more, bools_taken}
use Rattle.ctl_bdd.proofs.Bools.{pairs_push}
use Rattle.ctl_bdd.proofs.bits.pair_bits.Goals as goal

pub returns-in_err-set-clause-grows : goal.returns-in_err-set-clause-grows
returns-in_err-set-clause-grows c = extends_trans c.args.book.now c.loop-i.book c.pair_set.new.book c.loop-i.invariant.grows c.in_err-set.ensures.grows

pub returns-in_err-push-clause-grows : goal.returns-in_err-push-clause-grows
returns-in_err-push-clause-grows c = extends_trans c.args.book.now c.loop-i.book c.pair_set.new.book c.loop-i.invariant.grows c.in_ok-set.ensures.grows

pub pair_set-requires-clause-a : goal.pair_set-requires-clause-a
pair_set-requires-clause-a c =
    omega (arith, set_in c.args.book.now c.args.a.now c.loop-i.i c.loop-i-test.true c.requires.a, c.loop-i.invariant.grows.longer)

pub pair_set-requires-clause-b : goal.pair_set-requires-clause-b
pair_set-requires-clause-b c =
    let lt : c.loop-i.i < length c.args.b.now = omega (arith, c.loop-i-test.true, c.requires.long) in
    omega (arith, set_in c.args.book.now c.args.b.now c.loop-i.i lt c.requires.b, c.loop-i.invariant.grows.longer)

pub loop-i-preserved : goal.loop-i-preserved
loop-i-preserved c =
    let lt : c.loop-i.i < length c.args.b.now = omega (arith, c.loop-i-test.true, c.requires.long) in
    let in_a = set_in c.args.book.now c.args.a.now c.loop-i.i c.loop-i-test.true c.requires.a in
    let in_b = set_in c.args.book.now c.args.b.now c.loop-i.i lt c.requires.b in
    record {
      grows = extends_trans c.args.book.now c.loop-i.book c.pair_set.new.book c.loop-i.invariant.grows c.in_ok-set.ensures.grows;
      sets = rw c.in_ok-push.ensures.pushed (sets_push c.pair_set.new.book c.loop-i.out c.in_ok-set.set (sets_later c.loop-i.book c.pair_set.new.book c.in_ok-set.ensures.grows c.loop-i.out c.loop-i.invariant.sets) c.in_ok-set.ensures.within);
      long = rw c.in_ok-push.ensures.pushed (simp length_push (omega (arith, c.loop-i.invariant.long)));
      words = λ word.
          let old = bools_later c.loop-i.book c.pair_set.new.book c.in_ok-set.ensures.grows c.loop-i.out c.loop-i.invariant.sets word ∙ c.loop-i.invariant.words word in
          let e = same_words c.args.book.now c.loop-i.book c.loop-i.invariant.grows _ in_a word in
          let f = same_words c.args.book.now c.loop-i.book c.loop-i.invariant.grows _ in_b word in
          let new = c.in_ok-set.ensures.words word ∙ (λ j. pair_of c.args.pairing (e j) (f j)) in
          let p = bools_more c.args.book.now c.args.a.now c.loop-i.i word c.loop-i-test.true in
          let q = bools_more c.args.book.now c.args.b.now c.loop-i.i word lt in
          let long : length (bools c.args.book.now (take c.loop-i.i c.args.a.now) word) ≡ length (bools c.args.book.now (take c.loop-i.i c.args.b.now) word) =
          bools_taken c.args.book.now c.args.a.now c.loop-i.i word (omega arith) ∙ sym (bools_taken c.args.book.now c.args.b.now c.loop-i.i word (omega arith)) in
          rw c.in_ok-push.ensures.pushed
          (bools_push c.pair_set.new.book c.loop-i.out c.in_ok-set.set word ∙ (λ j. old j ++ new j ∷ [])
          ∙ sym ((λ j. pairs_of c.args.pairing (p j) (q j)) ∙ pairs_push c.args.pairing _ _ _ _ long));
    }

pub returns-in_err-push-clause-sets : goal.returns-in_err-push-clause-sets
returns-in_err-push-clause-sets c = IfOk-from_err c.from_residual-in_err-push.result _ c.from_residual-in_err-push.ensures.0

pub returns-in_err-push-clause-long : goal.returns-in_err-push-clause-long
returns-in_err-push-clause-long c = IfOk-from_err c.from_residual-in_err-push.result _ c.from_residual-in_err-push.ensures.0

pub returns-in_err-push-clause-words : goal.returns-in_err-push-clause-words
returns-in_err-push-clause-words c = IfOk-from_err c.from_residual-in_err-push.result _ c.from_residual-in_err-push.ensures.0

pub returns-in_err-set-clause-sets : goal.returns-in_err-set-clause-sets
returns-in_err-set-clause-sets c = IfOk-from_err c.from_residual.result _ c.from_residual.ensures.0

pub returns-in_err-set-clause-long : goal.returns-in_err-set-clause-long
returns-in_err-set-clause-long c = IfOk-from_err c.from_residual.result _ c.from_residual.ensures.0

pub returns-in_err-set-clause-words : goal.returns-in_err-set-clause-words
returns-in_err-set-clause-words c = IfOk-from_err c.from_residual.result _ c.from_residual.ensures.0
