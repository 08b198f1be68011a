use Rattle.std.proofs.Common.{sym, ◌∙◌}
use Rattle.class_values.proofs.LowBits.{binary_makes}
use Rattle.class_values.proofs.low.binary_of.Goals as goal

pub returns-then-are_same-clause-makes : goal.returns-then-are_same-clause-makes
returns-then-are_same-clause-makes c =
    let binary = c.in_ok-binary.binary in
    let left = c.in_ok-left.ensures in
    let right = c.in_ok-right.ensures in
    let own = c.in_ok-own.ensures in
    binary_makes c.args.table.now binary.op binary.first binary.last c.args.class c.in_ok-found.found (c.acts_on_low.ensures c.if-not-acts_on_low.false) left.0 right.0 own.0
    (sym right.1 ∙ c.if-right-own.true ∙ sym c.if-left-own.true ∙ left.1) (sym own.1 ∙ sym c.if-left-own.true ∙ left.1) (c.are_same.ensures c.if-are_same.true) c.in_ok-found.ensures.stands
