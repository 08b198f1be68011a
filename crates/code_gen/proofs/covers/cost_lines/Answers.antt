use Rattle.std.proofs.lemmas.Result.{IfOk-from_err}
use Rattle.std.proofs.Common.{◌+◌, ◌++◌, ◌∙◌, ℕ, List, ap, arith, drop, get_or, subst, sym}
use Rattle.std.specs.List.{AllByRecursion}
use Rattle.std.proofs.lemmas.List.{drop_more}
use Rattle.code_model.specs.ImageFits.{CostFits}
use Rattle.right_code.specs.Covered.{numbered}
use Rattle.code_gen.proofs.Listing.{all_more, numbered_more}
use Rattle.code_gen.proofs.covers.cost_lines.Goals as goal

pub loop-number-preserved : goal.loop-number-preserved
loop-number-preserved c =
    let costs = c.args.costs.now in
    let number = c.loop-number.number in
    let cost = get_or costs number 0 in
    let rest = drop (number + 1) costs in
    let pushed = c.in_ok-push.ensures.pushed in
    record {
      lines =
          ap (λ (lines : List (ℕ × ℕ)). lines ++ numbered (number + 1) rest) pushed
          ∙ numbered_more c.loop-number.lines number cost (drop number costs) rest (drop_more costs number 0 c.loop-number-test.true)
          ∙ c.loop-number.invariant.lines;
      fits =
          subst (AllByRecursion CostFits) (sym pushed)
          (all_more CostFits c.loop-number.lines (number, cost) c.loop-number.invariant.fits (record { tree = omega arith; cost = omega (arith, c.type_inv.costs number) }));
    }

pub returns-in_err-push-clause-fits : goal.returns-in_err-push-clause-fits
returns-in_err-push-clause-fits c = IfOk-from_err c.from_residual.result _ c.from_residual.ensures.0

pub returns-in_err-push-clause-lines : goal.returns-in_err-push-clause-lines
returns-in_err-push-clause-lines c = IfOk-from_err c.from_residual.result _ c.from_residual.ensures.0
