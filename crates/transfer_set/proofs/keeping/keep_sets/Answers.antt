use Rattle.std.proofs.lemmas.Result.{IfOk-from_err}
use Rattle.bit_bdd.proofs.CallerLemmas.{extends_trans}
use Rattle.transfer_set.proofs.Collecting.{held_entries_later}
use Rattle.transfer_set.proofs.KeptWords.{left_push}
use Rattle.transfer_set.proofs.keeping.keep_sets.Goals as goal

pub keep_set-requires-clause-words : goal.keep_set-requires-clause-words
keep_set-requires-clause-words c = held_entries_later c.args.book.now c.loop-storage.book c.loop-storage.invariant.grows c.args.entries.now c.requires.words

pub loop-storage-preserved : goal.loop-storage-preserved
loop-storage-preserved c =
    let before = c.loop-storage.invariant.grows in
    let after = c.in_ok-set.ensures.grows in
    record {
      grows = extends_trans c.args.book.now c.loop-storage.book c.keep_set.new.book before after;
      left = rw c.in_ok-push.ensures.pushed
          (left_push c.args.book.now c.loop-storage.book c.keep_set.new.book before after c.args.legal c.requires.legal c.args.entries.now c.requires.words
          c.loop-storage.storage c.loop-storage.sets c.in_ok-set.set c.loop-storage.invariant.left c.in_ok-set.ensures.within c.in_ok-set.ensures.words);
    }

pub returns-in_err-push-clause-left : goal.returns-in_err-push-clause-left
returns-in_err-push-clause-left c = IfOk-from_err c.from_residual-in_err-push.result _ c.from_residual-in_err-push.ensures.0

pub returns-in_err-set-clause-left : goal.returns-in_err-set-clause-left
returns-in_err-set-clause-left c = IfOk-from_err c.from_residual.result _ c.from_residual.ensures.0
