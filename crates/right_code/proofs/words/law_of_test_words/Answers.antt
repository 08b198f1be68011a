use Rattle.right_code.proofs.Right.{test_words_of}
use Rattle.right_code.proofs.words.law_of_test_words.Goals as goal

pub returns : goal.returns
returns c = λ task checked isas plans planned number job own at there e live less. test_words_of task checked isas plans planned number job own at there e live less
