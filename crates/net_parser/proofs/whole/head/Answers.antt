use Rattle.std.proofs.Common.{ap}
use Rattle.std.proofs.lemmas.Result.{err_from_is_err_and}
use Rattle.grammar.proofs.Steps.{never_stops}
use Rattle.grammar.proofs.Passing.{maybe_none, maybe_reads, maybe_fails}
use Rattle.grammar.proofs.Tokens.{not_there, begun}
use Rattle.net_parser.specs.Inner.Steps.{version_word}
use Rattle.net_parser.proofs.whole.head.Goals as goal

pub returns-in_err-edition : goal.returns-in_err-edition
returns-in_err-edition c =
    let p = err_from_is_err_and c.from_residual.result c.from_residual.ensures.1 in
    rw (p.1, p.2) (let b = c.begins_with.ensures.0 c.if-begins_with.true in maybe_fails b.parts (ap version_word b.is) (λ k st. never_stops k) c.in_err-edition.ensures)

pub returns-in_ok-edition : goal.returns-in_ok-edition
returns-in_ok-edition c = let b = c.begins_with.ensures.0 c.if-begins_with.true in maybe_reads b.parts (ap version_word b.is) (λ k st. never_stops k) c.in_ok-edition.ensures

pub returns-else-begins_with : goal.returns-else-begins_with
returns-else-begins_with c = maybe_none begun (not_there c.begins_with.ensures c.if-begins_with.false)
