use Rattle.std.proofs.lemmas.Result.{IfOk-from_err}
use Rattle.std.proofs.Common.{◌≡◌, Some, None, slice_get}
use Rattle.std.specs.List.{slice_index_or}
use Rattle.std.proofs.lemmas.Option.{slice_get-get_or}
use Rattle.bit_bdd.specs.Diagrams.{has_word}
use Rattle.bit_bdd.proofs.CallerLemmas.{same_words, extends_trans}
use Rattle.transfer_set.specs.declared.entries.Entry.{Entry}
use Rattle.transfer_set.proofs.KeptWords.{entry_at}
use Rattle.transfer_set.proofs.Stepped.{steps_more}
use Rattle.transfer_set.proofs.stepping.step_set.Goals as goal

pub loop-entry-preserved : goal.loop-entry-preserved
loop-entry-preserved c =
    let none : Entry = record { storage = 0; addr = None; value = 0; set = 0 } in
    let entry : Entry = slice_index_or c.args.entries.now c.loop-entry.entry-index none in
    let at : slice_get c.args.entries.now c.loop-entry.entry-index ≡ Some entry = slice_get-get_or c.args.entries.now c.loop-entry.entry-index none c.loop-entry-test.true in
    let set = entry_at c.args.book.now c.args.entries.now c.loop-entry.entry-index entry at c.requires.words in
    let grows = c.loop-entry.invariant.grows in
    record {
      grows = extends_trans c.args.book.now c.loop-entry.book c.with_step.new.book grows c.in_ok-words.ensures.grows;
      within = c.in_ok-words.ensures.within;
      words = λ word.
          steps_more c.args.book.now c.args.pool.now c.args.counter word c.args.entries.now c.loop-entry.entry-index entry at
          (has_word c.loop-entry.book c.loop-entry.words word) (has_word c.with_step.new.book c.in_ok-words.words word) (has_word c.loop-entry.book entry.set word)
          (c.loop-entry.invariant.words word) (same_words c.args.book.now c.loop-entry.book grows entry.set set.within word) (c.in_ok-words.ensures.words word);
    }

pub returns-in_err-words-clause-within : goal.returns-in_err-words-clause-within
returns-in_err-words-clause-within c = IfOk-from_err c.from_residual.result _ c.from_residual.ensures.0

pub returns-in_err-words-clause-words : goal.returns-in_err-words-clause-words
returns-in_err-words-clause-words c = IfOk-from_err c.from_residual.result _ c.from_residual.ensures.0
