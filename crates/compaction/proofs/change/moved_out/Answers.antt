use Rattle.std.proofs.lemmas.Result.{IfOk-from_err}
use Rattle.bit_bdd.proofs.CallerLemmas.{extends_trans}
use Rattle.compaction.proofs.change.moved_out.Goals as goal

pub returns-in_err-second_word-clause-grows : goal.returns-in_err-second_word-clause-grows
returns-in_err-second_word-clause-grows c = extends_trans c.args.book.now c.word_in.new.book c.word_in-2.new.book c.word_in.ensures.grows c.word_in-2.ensures.grows

pub returns-in_default-2-clause-grows : goal.returns-in_default-2-clause-grows
returns-in_default-2-clause-grows c = extends_trans c.args.book.now c.word_in.new.book c.word_in-2.new.book c.word_in.ensures.grows c.word_in-2.ensures.grows

pub returns-clause-grows : goal.returns-clause-grows
returns-clause-grows c = extends_trans c.args.book.now c.word_in.new.book c.word_in-2.new.book c.word_in.ensures.grows c.word_in-2.ensures.grows

pub returns-in_err-second_word-clause-moved : goal.returns-in_err-second_word-clause-moved
returns-in_err-second_word-clause-moved c = IfOk-from_err c.from_residual-in_err-second_word.result _ c.from_residual-in_err-second_word.ensures.0

pub returns-in_err-first_word-clause-moved : goal.returns-in_err-first_word-clause-moved
returns-in_err-first_word-clause-moved c = IfOk-from_err c.from_residual-in_err-first_word.result _ c.from_residual-in_err-first_word.ensures.0

pub returns-in_err-is_free-clause-moved : goal.returns-in_err-is_free-clause-moved
returns-in_err-is_free-clause-moved c = IfOk-from_err c.from_residual.result _ c.from_residual.ensures.0

pub returns-in_err-more-clause-moved : goal.returns-in_err-more-clause-moved
returns-in_err-more-clause-moved c = IfOk-from_err c.from_residual-in_err-more.result _ c.from_residual-in_err-more.ensures.0

pub returns-in_err-rest-clause-moved : goal.returns-in_err-rest-clause-moved
returns-in_err-rest-clause-moved c = IfOk-from_err c.from_residual-in_err-rest.result _ c.from_residual-in_err-rest.ensures.0
