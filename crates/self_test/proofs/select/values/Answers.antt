use Rattle.std.proofs.Common.{◌+◌, ◌<◌, ◌++◌, List, drop, length, ap, sym, ◌∙◌, append_assoc, arith}
use Rattle.net_model.specs.Exprs.{ExprModel}
use Rattle.form_model.specs.Forms.{models_of_forms}
use Rattle.transfer_set.specs.Rows.{row_patterns}
use Rattle.self_test.specs.Candidates.{values_from}
use Rattle.self_test.specs.Inner.Values.{exprs_at}
use Rattle.self_test.proofs.Lists.{rows_step}
use Rattle.self_test.proofs.select.values.Goals as goal

pub loop-number-preserved : goal.loop-number-preserved
loop-number-preserved c =
    let nt = c.args.checked.now.netlist in
    let forms = models_of_forms c.args.forms.now in
    let pool = c.args.pool.now in
    let rows = c.args.patterns.now.rows in
    let i = c.loop-number.number in
    let lt : i < length rows = omega (arith, c.loop-number-test.true, c.len-number-end.ensures) in
    record {
      known = c.in_ok-push_value.ensures.known;
      so_far =
          c.loop-number.invariant.so_far
          ∙ ap (λ (ts : List ExprModel). exprs_at pool c.loop-number.values ++ ts) (rows_step nt forms pool rows i i lt)
          ∙ sym (append_assoc (exprs_at pool c.loop-number.values) _ _)
          ∙ ap (λ (ts : List ExprModel). ts ++ values_from nt forms (i + 1) (drop (i + 1) (row_patterns pool rows))) (sym c.in_ok-push_value.ensures.added);
    }
