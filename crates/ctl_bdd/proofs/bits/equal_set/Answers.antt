use Rattle.std.proofs.lemmas.Result.{IfOk-from_err}
use Rattle.std.proofs.Common.{◌≡◌, ◌<◌, ◌&&◌, length, take, sym, ◌∙◌, arith}
use Rattle.bit_bdd.proofs.CallerLemmas.{same_words, extends_trans}
use Rattle.ctl_bdd.specs.Bits.{bools}
use Rattle.ctl_bdd.specs.Inner.Bits.{alike, all_alike}
use Rattle.ctl_bdd.proofs.Sets.{set_in, bools_more, bools_taken}
use Rattle.ctl_bdd.proofs.Bools.{alike_push}
use Rattle.ctl_bdd.proofs.bits.equal_set.Goals as goal

pub alike_set-requires-clause-a : goal.alike_set-requires-clause-a
alike_set-requires-clause-a c =
    omega (arith, set_in c.args.book.now c.args.a.now c.loop-i.i c.loop-i-test.true c.requires.a, c.loop-i.invariant.grows.longer)

pub alike_set-requires-clause-b : goal.alike_set-requires-clause-b
alike_set-requires-clause-b c =
    let lt : c.loop-i.i < length c.args.b.now = omega (arith, c.loop-i-test.true, c.requires.long) in
    omega (arith, set_in c.args.book.now c.args.b.now c.loop-i.i lt c.requires.b, c.loop-i.invariant.grows.longer)

pub loop-i-preserved : goal.loop-i-preserved
loop-i-preserved c =
    let lt : c.loop-i.i < length c.args.b.now = omega (arith, c.loop-i-test.true, c.requires.long) in
    let in_a = set_in c.args.book.now c.args.a.now c.loop-i.i c.loop-i-test.true c.requires.a in
    let in_b = set_in c.args.book.now c.args.b.now c.loop-i.i lt c.requires.b in
    record {
      grows = extends_trans c.args.book.now c.loop-i.book c.alike_set.new.book c.loop-i.invariant.grows c.in_ok-same.ensures.grows;
      within = c.in_ok-same.ensures.within;
      words = λ word.
          let d = c.loop-i.invariant.words word in
          let e = same_words c.args.book.now c.loop-i.book c.loop-i.invariant.grows _ in_a word in
          let f = same_words c.args.book.now c.loop-i.book c.loop-i.invariant.grows _ in_b word in
          let p = bools_more c.args.book.now c.args.a.now c.loop-i.i word c.loop-i-test.true in
          let q = bools_more c.args.book.now c.args.b.now c.loop-i.i word lt in
          let long : length (bools c.args.book.now (take c.loop-i.i c.args.a.now) word) ≡ length (bools c.args.book.now (take c.loop-i.i c.args.b.now) word) =
          bools_taken c.args.book.now c.args.a.now c.loop-i.i word (omega arith) ∙ sym (bools_taken c.args.book.now c.args.b.now c.loop-i.i word (omega arith)) in
          c.in_ok-same.ensures.words word ∙ (λ j. d j && alike (e j) (f j))
          ∙ sym ((λ j. all_alike (p j) (q j)) ∙ alike_push _ _ _ _ long);
    }

pub returns-in_err-same-clause-within : goal.returns-in_err-same-clause-within
returns-in_err-same-clause-within c = IfOk-from_err c.from_residual.result _ c.from_residual.ensures.0

pub returns-in_err-same-clause-words : goal.returns-in_err-same-clause-words
returns-in_err-same-clause-words c = IfOk-from_err c.from_residual.result _ c.from_residual.ensures.0
