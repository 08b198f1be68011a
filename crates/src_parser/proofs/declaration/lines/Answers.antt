use Rattle.std.proofs.Common.{[], ◌++◌, ap}
use Rattle.std.proofs.lemmas.Result.{err_from_is_err_and}
use Rattle.grammar.specs.Reading.{head}
use Rattle.grammar.proofs.Passing.{fails_too, same_leads}
use Rattle.grammar.proofs.Repeats.{many_ends, many_leads, many_fails}
use Rattle.grammar.proofs.Tokens.{not_there}
use Rattle.src_parser.proofs.Declarations.{lined, lines_on, lines_end}
use Rattle.src_parser.proofs.declaration.lines.Goals as goal

pub lines-init : goal.lines-init
lines-init c = rw c.new-vars.ensures.items same_leads

pub returns-in_err-line : goal.returns-in_err-line
returns-in_err-line c =
    let p = err_from_is_err_and c.from_residual.result c.from_residual.ensures.1 in
    rw (p.1, p.2) (let b = c.begins_with.ensures.0 c.lines-test.true in fails_too c.lines.invariant (many_fails lined [] (λ line vars. line ++ vars) (ap head b.parts) b.is c.in_err-line.ensures))

pub lines-preserved : goal.lines-preserved
lines-preserved c = let b = c.begins_with.ensures.0 c.lines-test.true in lines_on c.lines.vars.items c.in_ok-line.line.items c.in_ok-append.ensures.items (many_leads lined [] (λ line vars. line ++ vars) (ap head b.parts) b.is c.in_ok-line.ensures) c.lines.invariant

pub returns : goal.returns
returns c = lines_end c.lines.invariant (many_ends lined [] (λ line vars. line ++ vars) (not_there c.begins_with.ensures c.lines-test.false))
