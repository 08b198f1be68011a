use Rattle.std.proofs.Common.{true, false}
use Rattle.grammar.proofs.Steps.{token_reads}
use Rattle.grammar.proofs.Passing.{token_ended, token_missed}
use Rattle.net_parser.proofs.ItemParts.{there_direction, direction_one, no_direction, not_true}
use Rattle.net_parser.proofs.parts.direction.Goals as goal

pub returns-in_default : goal.returns-in_default
returns-in_default c = token_ended there_direction c.in_default.ensures

pub returns-then-is_symbol : goal.returns-then-is_symbol
returns-then-is_symbol c = token_reads c.in-Some.ensures (c.is_symbol.ensures.0 c.if-is_symbol.true) (λ w h. direction_one c.in-Some.t.now true w (c.is_symbol.ensures.0 c.if-is_symbol.true) h)

pub returns-then-is_symbol-2 : goal.returns-then-is_symbol-2
returns-then-is_symbol-2 c = token_reads c.in-Some.ensures (c.is_symbol-2.ensures.0 c.if-is_symbol-2.true) (λ w h. direction_one c.in-Some.t.now false w (c.is_symbol-2.ensures.0 c.if-is_symbol-2.true) h)

pub returns : goal.returns
returns c = token_missed there_direction c.in-Some.ensures (λ w h. no_direction c.in-Some.t.now (not_true c.is_symbol.ensures c.if-is_symbol.false) (not_true c.is_symbol-2.ensures c.if-is_symbol-2.false) w h)
