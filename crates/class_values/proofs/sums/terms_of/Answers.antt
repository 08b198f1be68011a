use Rattle.std.proofs.Common.{sym, ◌∙◌}
use Rattle.class_values.proofs.Summing.{terms_make}
use Rattle.class_values.proofs.sums.terms_of.Goals as goal

pub returns-then-are_same-clause-makes : goal.returns-then-are_same-clause-makes
returns-then-are_same-clause-makes c =
    let terms = c.in_ok-terms.terms in
    let left = c.in_ok-left.ensures in
    let right = c.in_ok-right.ensures in
    let own = c.in_ok-own.ensures in
    terms_make c.args.table.now terms.first terms.last c.args.class c.in_ok-found.found left.0 right.0 own.0
    (sym right.1 ∙ c.if-right-own.true ∙ sym c.if-left-own.true ∙ left.1) (sym own.1 ∙ sym c.if-left-own.true ∙ left.1) (c.are_same.ensures c.if-are_same.true) c.in_ok-found.ensures.stands
