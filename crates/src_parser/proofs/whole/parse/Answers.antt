use Rattle.std.proofs.Common.{◌≡◌, refl, sym, ap, subst, ◌∙◌}
use Rattle.std.proofs.lemmas.Result.{err_from_is_err_and}
use Rattle.grammar.specs.declared.stop.ParseStop.TheVariants.{At, Memory}
use Rattle.src_model.specs.Grammar.{IsProgram}
use Rattle.src_model.specs.Written.{model_of_program}
use Rattle.src_parser.specs.Words.{src_words}
use Rattle.src_parser.proofs.whole.parse.Goals as goal

pub returns-in_err-ts : goal.returns-in_err-ts
returns-in_err-ts c =
    let p = err_from_is_err_and c.from_residual.result c.from_residual.ensures.1 in
    rw (p.1, p.2) (record { found = tt; only = λ entries spelled. refl; fault = tt })

pub returns-in-Ok : goal.returns-in-Ok
returns-in-Ok c =
    let same = c.as_slice-2.ensures.value ∙ c.in_ok-ts.ensures ∙ ap (src_words c.args.bytes.now) c.as_slice.ensures in
    record {
      found = subst (λ ts. IsProgram ts (model_of_program c.in-Ok.program)) same c.in-Ok.ensures.found;
      only = λ entries spelled. c.in-Ok.ensures.only entries (subst (λ ts. IsProgram ts entries) (sym same) spelled);
      fault = tt;
    }

pub returns-in-Err-At-clause-only : goal.returns-in-Err-At-clause-only
returns-in-Err-At-clause-only c entries spelled =
    let same = c.as_slice-2.ensures.value ∙ c.in_ok-ts.ensures ∙ ap (src_words c.args.bytes.now) c.as_slice.ensures in
    let e : c.in-Err-At.field-0 ≡ Memory = c.in-Err-At.ensures.only entries (subst (λ ts. IsProgram ts entries) (sym same) spelled) in
    let f : At c.in-Err-At.left ≡ Memory = sym c.in-Err-At.field-0-is ∙ e in
    absurd cc
