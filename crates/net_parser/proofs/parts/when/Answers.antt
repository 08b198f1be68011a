use Rattle.std.proofs.Common.{ap}
use Rattle.std.proofs.lemmas.Result.{err_from_is_err_and}
use Rattle.grammar.proofs.Passing.{maybe_none, maybe_reads, maybe_fails}
use Rattle.grammar.proofs.Tokens.{not_there, begun}
use Rattle.net_parser.specs.Inner.Steps.{when_word}
use Rattle.net_parser.proofs.ItemParts.{when_narrow}
use Rattle.net_parser.proofs.parts.when.Goals as goal

pub returns-in_err-enable : goal.returns-in_err-enable
returns-in_err-enable c =
    let p = err_from_is_err_and c.from_residual.result c.from_residual.ensures.1 in
    rw (p.1, p.2) (let b = c.begins_with.ensures.0 c.if-begins_with.true in maybe_fails b.parts (ap when_word b.is) when_narrow c.in_err-enable.ensures)

pub returns-in_ok-enable : goal.returns-in_ok-enable
returns-in_ok-enable c = let b = c.begins_with.ensures.0 c.if-begins_with.true in maybe_reads b.parts (ap when_word b.is) when_narrow c.in_ok-enable.ensures

pub returns-else-begins_with : goal.returns-else-begins_with
returns-else-begins_with c = maybe_none begun (not_there c.begins_with.ensures c.if-begins_with.false)
