use Rattle.std.proofs.Common.{sym, ap, ◌∙◌}
use Rattle.grammar.proofs.Steps.{token_reads}
use Rattle.grammar.proofs.Passing.{token_ended, token_missed}
use Rattle.src_parser.specs.Inner.Steps.{cmp_of}
use Rattle.src_parser.proofs.Statements.{there_cmp, is_cmp}
use Rattle.src_parser.proofs.statement.cmp.Goals as goal

pub returns-in_default : goal.returns-in_default
returns-in_default c = token_ended there_cmp c.in_default.ensures

pub returns-in_default-cmp_of : goal.returns-in_default-cmp_of
returns-in_default-cmp_of c = token_missed there_cmp c.in-Some.ensures (λ w h. let e = sym (ap cmp_of h) ∙ sym c.cmp_of.ensures ∙ c.in_default-cmp_of.is in absurd cc)

pub returns : goal.returns
returns c =
    let is = is_cmp _ _ (sym c.cmp_of.ensures ∙ c.in-Some-cmp_of.is) in
    token_reads c.in-Some.ensures is (λ w h. cc)
