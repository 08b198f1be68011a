use Rattle.test_command.proofs.Right.{right_test}
use Rattle.test_command.proofs.laws.law_of_words.Goals as goal

pub returns : goal.returns
returns c = right_test
