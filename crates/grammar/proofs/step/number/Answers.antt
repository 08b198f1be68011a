use Rattle.grammar.proofs.Steps.{token_reads}
use Rattle.grammar.proofs.Passing.{token_ended, token_missed}
use Rattle.grammar.proofs.Tokens.{there_number}
use Rattle.grammar.proofs.step.number.Goals as goal

pub returns-in_default : goal.returns-in_default
returns-in_default g c = token_ended there_number c.in_default.ensures

pub returns-in-Number : goal.returns-in-Number
returns-in-Number g c = token_reads c.in-Some.ensures c.in-Number.is (λ w h. cc)

pub returns-in_default-word : goal.returns-in_default-word
returns-in_default-word g c = token_missed there_number c.in-Some.ensures c.in_default-word.not-Number
