use Rattle.std.proofs.lemmas.Result.{IfOk-from_err}
use Rattle.std.proofs.Common.{◌==◌, ap, ◌∙◌}
use Rattle.std.specs.List.{slice_index_or}
use Rattle.rec_bits.proofs.Equality.{number_turned}
use Rattle.bit_bdd.proofs.CallerLemmas.{extends_trans}
use Rattle.ctl_bdd.specs.Bits.{number_at}
use Rattle.ctl_bdd.proofs.Sets.{sets_later, number_later}
use Rattle.route_trace.proofs.Deciding.{tests_later, tests_push, rows_later, rows_push}
use Rattle.route_trace.proofs.decide.row_tests.Goals as goal

pub equals-requires-clause-bits : goal.equals-requires-clause-bits
equals-requires-clause-bits c = sets_later c.args.book.now c.loop-row.book c.loop-row.invariant.book c.args.bits.now c.requires.bits

pub loop-row-preserved : goal.loop-row-preserved
loop-row-preserved c =
    let row = slice_index_or c.args.rows.now c.loop-row.row-index (0, 0) in
    rw c.in_ok-push.ensures.pushed
    (record {
      book = extends_trans c.args.book.now c.loop-row.book c.equals.new.book c.loop-row.invariant.book c.in_ok-set.ensures.grows;
      sets = tests_push c.equals.new.book c.loop-row.tests _ row.1 (tests_later c.loop-row.book c.equals.new.book c.in_ok-set.ensures.grows c.loop-row.tests c.loop-row.invariant.sets) c.in_ok-set.ensures.within;
      tests = λ word. rows_push c.equals.new.book word (number_at c.args.book.now c.args.bits.now word) _ c.loop-row.tests c.args.rows.now c.loop-row.row-index c.loop-row-test.true
          (rows_later c.loop-row.book c.equals.new.book c.in_ok-set.ensures.grows word (number_at c.args.book.now c.args.bits.now word) c.loop-row.tests _ c.loop-row.invariant.sets (c.loop-row.invariant.tests word))
          (c.in_ok-set.ensures.words word ∙ ap (λ n. n == row.0) (number_later c.args.book.now c.loop-row.book c.loop-row.invariant.book c.args.bits.now c.requires.bits word) ∙ number_turned _ row.0);
    })

pub returns-in_err-push-clause-sets : goal.returns-in_err-push-clause-sets
returns-in_err-push-clause-sets c = IfOk-from_err c.from_residual-in_err-push.result _ c.from_residual-in_err-push.ensures.0

pub returns-in_err-push-clause-tests : goal.returns-in_err-push-clause-tests
returns-in_err-push-clause-tests c = IfOk-from_err c.from_residual-in_err-push.result _ c.from_residual-in_err-push.ensures.0

pub returns-in_err-set-clause-sets : goal.returns-in_err-set-clause-sets
returns-in_err-set-clause-sets c = IfOk-from_err c.from_residual.result _ c.from_residual.ensures.0

pub returns-in_err-set-clause-tests : goal.returns-in_err-set-clause-tests
returns-in_err-set-clause-tests c = IfOk-from_err c.from_residual.result _ c.from_residual.ensures.0
