use Rattle.grammar.proofs.Steps.{token_reads}
use Rattle.grammar.proofs.Passing.{token_ended, token_missed}
use Rattle.net_parser.proofs.Heads.{there_edition_number}
use Rattle.net_parser.proofs.whole.edition_number.Goals as goal

pub returns-in_default : goal.returns-in_default
returns-in_default c = token_ended there_edition_number c.in_default.ensures

pub returns-in-Some-number_of : goal.returns-in-Some-number_of
returns-in-Some-number_of c = token_reads c.in-Some.ensures c.in-Some-number_of.ensures (λ w h. let a = h.0 in let b = c.in-Some-number_of.ensures.0 in cc)

pub returns-in-None : goal.returns-in-None
returns-in-None c = token_missed there_edition_number c.in-Some.ensures (λ w h. c.in-None.ensures w h.0 h.1)
