use Rattle.right_code.proofs.Right.{cut_words_of}
use Rattle.right_code.proofs.words.law_of_block_words.Goals as goal

pub returns : goal.returns
returns c = λ task checked isas plans planned at n k cut e live less. cut_words_of task checked isas plans planned at n k cut e live less
