use Rattle.std.proofs.Common.{◌≡◌, true, refl}
use Rattle.grammar.proofs.Steps.{token_reads}
use Rattle.grammar.proofs.Passing.{token_ended, token_missed}
use Rattle.grammar.proofs.Tokens.{there_sign}
use Rattle.grammar.proofs.step.expect.Goals as goal

pub returns-in_default : goal.returns-in_default
returns-in_default g c = token_ended there_sign c.in_default.ensures

pub returns-then-is_symbol : goal.returns-then-is_symbol
returns-then-is_symbol g c = token_reads c.in-Some.ensures (c.is_symbol.ensures.0 c.if-is_symbol.true) (λ w h. refl)

pub returns-else-is_symbol : goal.returns-else-is_symbol
returns-else-is_symbol g c = token_missed there_sign c.in-Some.ensures (λ w h. let e : c.is_symbol.result ≡ true = c.is_symbol.ensures.1 h in absurd cc)
