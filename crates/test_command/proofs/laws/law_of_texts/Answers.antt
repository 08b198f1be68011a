use Rattle.test_command.proofs.TestLaws.{one_text}
use Rattle.test_command.proofs.laws.law_of_texts.Goals as goal

pub returns : goal.returns
returns c = one_text
