use Rattle.std.proofs.lemmas.Result.{err_from_is_err_and}
use Rattle.grammar.proofs.Passing.{fails_too, maybe_none, maybe_reads, maybe_fails, returned, returned_reads}
use Rattle.net_parser.proofs.ItemParts.{starts_bindings, named_link, not_so}
use Rattle.net_parser.proofs.parts.links.Goals as goal

pub returns-in_err-links : goal.returns-in_err-links
returns-in_err-links c =
    let p = err_from_is_err_and c.from_residual.result c.from_residual.ensures.1 in
    rw (p.1, p.2) (let b = c.begins_name.ensures.0 c.if-begins_name.true in fails_too returned (maybe_fails b.parts (named_link b.token.word b.is) (λ k st. st) c.in_err-links.ensures))

pub returns-in_ok-links : goal.returns-in_ok-links
returns-in_ok-links c = let b = c.begins_name.ensures.0 c.if-begins_name.true in returned_reads (maybe_reads b.parts (named_link b.token.word b.is) (λ k st. st) c.in_ok-links.ensures)

pub returns-else-begins_name : goal.returns-else-begins_name
returns-else-begins_name c = rw c.new.ensures (returned_reads (maybe_none starts_bindings (not_so c.begins_name.ensures c.if-begins_name.false)))
