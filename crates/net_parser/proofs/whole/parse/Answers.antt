use Rattle.std.proofs.Common.{◌≡◌, sym, ap, subst, ◌∙◌}
use Rattle.grammar.specs.declared.stop.ParseStop.TheVariants.{At, Memory}
use Rattle.net_model.specs.Grammar.{IsText}
use Rattle.net_model.specs.Editions.{edited}
use Rattle.net_parser.specs.Words.{net_words}
use Rattle.net_parser.proofs.whole.parse.Goals as goal

pub returns-in-Ok-clause-only : goal.returns-in-Ok-clause-only
returns-in-Ok-clause-only c entries spelled =
    let same = c.as_slice-2.ensures.value ∙ c.in_ok-ts.ensures ∙ ap edited c.in_ok-lexed.ensures ∙ ap (net_words c.args.bytes.now) c.as_slice.ensures in
    c.in-Ok.ensures.only entries (subst (λ ts. IsText ts entries) (sym same) spelled)

pub returns-in-Err-At-clause-only : goal.returns-in-Err-At-clause-only
returns-in-Err-At-clause-only c entries spelled =
    let same = c.as_slice-2.ensures.value ∙ c.in_ok-ts.ensures ∙ ap edited c.in_ok-lexed.ensures ∙ ap (net_words c.args.bytes.now) c.as_slice.ensures in
    let e : c.in-Err-At.field-0 ≡ Memory = c.in-Err-At.ensures.only entries (subst (λ ts. IsText ts entries) (sym same) spelled) in
    let f : At c.in-Err-At.left ≡ Memory = sym c.in-Err-At.field-0-is ∙ e in
    absurd cc
