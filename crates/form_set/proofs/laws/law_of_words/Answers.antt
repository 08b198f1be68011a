use Rattle.form_set.proofs.FormLaws.{counter_clobber, own_clobber, plain_words}
use Rattle.form_set.proofs.laws.law_of_words.Goals as goal

pub returns-clause-words : goal.returns-clause-words
returns-clause-words c = plain_words

pub returns-clause-own : goal.returns-clause-own
returns-clause-own c = own_clobber

pub returns-clause-counter : goal.returns-clause-counter
returns-clause-counter c = counter_clobber
