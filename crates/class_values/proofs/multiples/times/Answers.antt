use Rattle.std.proofs.Common.{sym, subst, arith, ◌∙◌}
use Rattle.rec_bits.specs.declared.operator.Op2.TheVariants.{Mul}
use Rattle.class_values.specs.Values.{IsNumber}
use Rattle.class_values.specs.Inner.Sums.{MakesBy}
use Rattle.class_values.proofs.Made.{if_found, some_of}
use Rattle.class_values.proofs.Multiplying.{once_is, times_negative, times_nothing}
use Rattle.class_values.proofs.Summing.{listed_by}
use Rattle.class_values.proofs.multiples.times.Goals as goal

pub returns-then-by-eq0-clause-is : goal.returns-then-by-eq0-clause-is
returns-then-by-eq0-clause-is c =
    let t1 = c.number.new.table in
    let g = c.number.ensures.grows in
    let w = c.args.by.width in
    let own = c.in-Some.ensures in
    let there = own.0 in
    if_found c.number.result _ _
    (λ k is. subst (λ n. MakesBy t1 Mul c.args.of w n k) (sym c.if-by-eq0.true)
    (times_nothing t1 c.args.of w k (let longer = g.longer in omega (arith, there, longer)) (g.widths c.args.of there ∙ sym own.1 ∙ c.if-width-by.false) is))
    c.number.ensures.is

pub returns-then-by-eq1-clause-is : goal.returns-then-by-eq1-clause-is
returns-then-by-eq1-clause-is c =
    let own = c.in-Some.ensures in
    let w = c.args.by.width in
    subst (λ n. MakesBy c.args.table.now Mul c.args.of w n c.args.of) (sym c.if-by-eq1.true)
    (once_is c.args.table.now c.args.of w own.0 (sym own.1 ∙ c.if-width-by.false) c.requires.width).makes

pub returns-then-by-mask-clause-is : goal.returns-then-by-mask-clause-is
returns-then-by-mask-clause-is c =
    let t1 = c.listed_unary.new.table in
    let g = c.listed_unary.ensures.grows in
    let own = c.in-Some.ensures in
    if_found c.listed_unary.result _ _
    (λ k h. times_negative t1 c.args.of c.args.by.width c.args.by.number k h (g.widths c.args.of own.0 ∙ sym own.1 ∙ c.if-width-by.false) c.requires.width (c.if-by-mask.true ∙ c.mask.ensures))
    c.listed_unary.ensures.is

pub returns-clause-is : goal.returns-clause-is
returns-clause-is c =
    let t1 = c.number-2.new.table in
    let w = c.args.by.width in
    let n = c.args.by.number in
    let last = c.in-Some-2.last in
    let is = some_of (IsNumber t1 w n) c.in_ok-last.field-0 last c.in-Some-2.is c.in_ok-last.ensures.is in
    if_found c.listed.result _ _ (λ k h. listed_by t1 c.listed.new.table c.listed.ensures.grows Mul c.args.of w n last k is h) c.listed.ensures.is
