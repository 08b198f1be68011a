use Rattle.right_code.proofs.Right.{jump_words_of}
use Rattle.right_code.proofs.words.law_of_jump_words.Goals as goal

pub returns : goal.returns
returns c = λ task checked isas plans planned parts layout branch k step e. jump_words_of task checked isas plans planned parts layout branch k step e
