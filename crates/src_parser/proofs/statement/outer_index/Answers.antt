use Rattle.std.proofs.Common.{◌≡◌, suc, ◌-◌, ◌≤◌, arith}
use Rattle.std.proofs.lemmas.Result.{err_from_is_err_and}
use Rattle.grammar.proofs.Passing.{fails_too, reads_too}
use Rattle.src_parser.proofs.Statements.{outer_within, no_outer}
use Rattle.src_parser.proofs.statement.outer_index.Goals as goal

pub returns-in_err-a : goal.returns-in_err-a
returns-in_err-a c =
    let p = err_from_is_err_and c.from_residual.result c.from_residual.ensures.1 in
    let o = c.opens_bracket.ensures.0 c.if-opens_bracket.true in
    let one : 1 ≤ c.args.levels = o.level in
    let s : c.args.levels ≡ suc (c.args.levels - 1) = omega arith in
    rw (p.1, p.2) (fails_too (outer_within c.args.levels (c.args.levels - 1) s o.begins) c.in_err-a.ensures)

pub returns-in_ok-a-2 : goal.returns-in_ok-a-2
returns-in_ok-a-2 c =
    let o = c.opens_bracket.ensures.0 c.if-opens_bracket.true in
    let one : 1 ≤ c.args.levels = o.level in
    let s : c.args.levels ≡ suc (c.args.levels - 1) = omega arith in
    rw c.in_ok-a-2.ensures.ok (reads_too (outer_within c.args.levels (c.args.levels - 1) s o.begins) c.in_ok-a.ensures)

pub returns-else-opens_bracket : goal.returns-else-opens_bracket
returns-else-opens_bracket c = no_outer c.args.levels (λ o. (let e = c.opens_bracket.ensures.1 o in absurd cc))
