use Rattle.class_values.proofs.Made.{if_known}
use Rattle.class_values.proofs.Numbering.{told_itself, told_over}
use Rattle.class_values.proofs.numbers.+told_by.Goals as goal

pub returns-then-are_same : goal.returns-then-are_same
returns-then-are_same t c = told_itself c.args.table.now c.args.fact c.args.class (c.are_same.ensures c.if-are_same.true)

pub returns-in_ok-operand-in-Un-Not-default : goal.returns-in_ok-operand-in-Un-Not-default
returns-in_ok-operand-in-Un-Not-default t c =
    let operand = c.in_ok-operand-in-Un-Not-default.operand in
    if_known c.told_by.result _ _ (λ n h. told_over c.args.table.now c.args.fact operand c.args.class n c.in_ok-operand-in-Un-Not-default.ensures h) c.told_by.ensures
