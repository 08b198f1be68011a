use Rattle.std.proofs.Common.{ap}
use Rattle.std.proofs.lemmas.Result.{err_from_is_err_and}
use Rattle.grammar.proofs.Steps.{never_stops}
use Rattle.grammar.proofs.Passing.{maybe_none, maybe_reads, maybe_fails}
use Rattle.src_parser.specs.Inner.Steps.{bracket_word}
use Rattle.grammar.proofs.Tokens.{begun, not_there}
use Rattle.src_parser.proofs.declaration.length.Goals as goal

pub returns-in_err-len : goal.returns-in_err-len
returns-in_err-len c =
    let p = err_from_is_err_and c.from_residual.result c.from_residual.ensures.1 in
    rw (p.1, p.2) (let b = c.begins_with.ensures.0 c.if-begins_with.true in maybe_fails b.parts (ap bracket_word b.is) (λ k st. never_stops k) c.in_err-len.ensures)

pub returns-in_ok-len : goal.returns-in_ok-len
returns-in_ok-len c = let b = c.begins_with.ensures.0 c.if-begins_with.true in maybe_reads b.parts (ap bracket_word b.is) (λ k st. never_stops k) c.in_ok-len.ensures

pub returns-else-begins_with : goal.returns-else-begins_with
returns-else-begins_with c = maybe_none begun (not_there c.begins_with.ensures c.if-begins_with.false)
