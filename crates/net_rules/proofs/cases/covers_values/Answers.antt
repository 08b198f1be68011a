use Rattle.std.proofs.Common.{◌&&◌, ◌||◌, ◌++◌, sym, ap, ◌∙◌}
use Rattle.net_model.specs.DriverRules.{are_new, are_all, is_rest, case_numbers}
use Rattle.net_model.specs.Written.{case_rest_of, other_of}
use Rattle.net_rules.proofs.Rows.{seen_rows}
use Rattle.net_rules.proofs.RowNumbers.{numbers_stop, numbers_next, numbers_so_far}
use Rattle.net_rules.proofs.cases.covers_values.Goals as goal

pub returns-then-not-branch : goal.returns-then-not-branch
returns-then-not-branch c =
    let rows = seen_rows c.args.rows.now in
    let other = case_rest_of (other_of c.args.other.now) in
    let old = ap (are_new c.loop-row.seen) (sym c.as_slice.ensures.value) ∙ sym c.in_ok-add_all.ensures.new ∙ c.if-not-branch.true in
    let none = numbers_stop c.args.rows.now c.loop-row.row-index c.row-item.result c.loop-row-test.true c.row-item.is c.loop-row.seen _ old c.loop-row.invariant.new in
    sym (ap (λ b. b && (is_rest other || are_all c.args.selector (case_numbers rows))) none)

pub loop-row-preserved : goal.loop-row-preserved
loop-row-preserved c =
    let is = c.in_ok-add_all.ensures.all c.if-not-branch.false ∙ ap (λ ns. c.loop-row.seen ++ ns) c.as_slice.ensures.value in
    let fresh = ap (are_new c.loop-row.seen) (sym c.as_slice.ensures.value) ∙ sym c.in_ok-add_all.ensures.new ∙ c.if-not-branch.false in
    record {
      new = rw is (numbers_next c.args.rows.now c.loop-row.row-index c.row-item.result c.loop-row-test.true c.row-item.is c.loop-row.seen _ fresh c.loop-row.invariant.new);
      all = rw is (numbers_so_far c.args.rows.now c.loop-row.row-index c.row-item.result c.loop-row-test.true c.row-item.is c.loop-row.seen _ c.loop-row.invariant.all);
    }
