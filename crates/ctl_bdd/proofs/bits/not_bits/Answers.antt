use Rattle.std.proofs.lemmas.Result.{IfOk-from_err}
use Rattle.std.proofs.Common.{◌++◌, ◌∷◌, [], not, map, sym, ap, ◌∙◌, arith}
use Rattle.std.proofs.lemmas.List.{map-append, length_push}
use Rattle.bit_bdd.proofs.CallerLemmas.{same_words, extends_trans}
use Rattle.ctl_bdd.proofs.Sets.{sets_later, bools_later, set_in, sets_push, bools_push, bools_more}
use Rattle.ctl_bdd.proofs.bits.not_bits.Goals as goal

pub not-requires : goal.not-requires
not-requires c =
    omega (arith, set_in c.args.book.now c.args.sets.now c.loop-set.set-index c.loop-set-test.true c.requires, c.loop-set.invariant.grows.longer)

pub loop-set-preserved : goal.loop-set-preserved
loop-set-preserved c =
    let within = set_in c.args.book.now c.args.sets.now c.loop-set.set-index c.loop-set-test.true c.requires in
    record {
      grows = extends_trans c.args.book.now c.loop-set.book c.not.new.self c.loop-set.invariant.grows c.in_ok-turned.ensures.grows;
      sets = rw c.in_ok-push.ensures.pushed (sets_push c.not.new.self c.loop-set.out c.in_ok-turned.turned (sets_later c.loop-set.book c.not.new.self c.in_ok-turned.ensures.grows c.loop-set.out c.loop-set.invariant.sets) c.in_ok-turned.ensures.within);
      long = rw c.in_ok-push.ensures.pushed (simp length_push (omega (arith, c.loop-set.invariant.long)));
      words = λ word.
          let old = bools_later c.loop-set.book c.not.new.self c.in_ok-turned.ensures.grows c.loop-set.out c.loop-set.invariant.sets word ∙ c.loop-set.invariant.words word in
          let e = same_words c.args.book.now c.loop-set.book c.loop-set.invariant.grows _ within word in
          let new = c.in_ok-turned.ensures.words word ∙ ap not e in
          rw c.in_ok-push.ensures.pushed
          (bools_push c.not.new.self c.loop-set.out c.in_ok-turned.turned word ∙ (λ j. old j ++ new j ∷ [])
          ∙ sym (ap (map not) (bools_more c.args.book.now c.args.sets.now c.loop-set.set-index word c.loop-set-test.true) ∙ map-append not _ _));
    }

pub returns-in_err-push-clause-sets : goal.returns-in_err-push-clause-sets
returns-in_err-push-clause-sets c = IfOk-from_err c.from_residual-in_err-push.result _ c.from_residual-in_err-push.ensures.0

pub returns-in_err-push-clause-long : goal.returns-in_err-push-clause-long
returns-in_err-push-clause-long c = IfOk-from_err c.from_residual-in_err-push.result _ c.from_residual-in_err-push.ensures.0

pub returns-in_err-push-clause-words : goal.returns-in_err-push-clause-words
returns-in_err-push-clause-words c = IfOk-from_err c.from_residual-in_err-push.result _ c.from_residual-in_err-push.ensures.0

pub returns-in_err-turned-clause-sets : goal.returns-in_err-turned-clause-sets
returns-in_err-turned-clause-sets c = IfOk-from_err c.from_residual.result _ c.from_residual.ensures.0

pub returns-in_err-turned-clause-long : goal.returns-in_err-turned-clause-long
returns-in_err-turned-clause-long c = IfOk-from_err c.from_residual.result _ c.from_residual.ensures.0

pub returns-in_err-turned-clause-words : goal.returns-in_err-turned-clause-words
returns-in_err-turned-clause-words c = IfOk-from_err c.from_residual.result _ c.from_residual.ensures.0
