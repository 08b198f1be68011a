use Rattle.class_values.specs.Inner.Sums.{HasLow}
use Rattle.class_values.proofs.Keeping.{grows_on}
use Rattle.class_values.proofs.Made.{if_found, some_of}
use Rattle.class_values.proofs.LowBits.{binary_low, low_kept, shared_low, unary_low}
use Rattle.class_values.proofs.Summing.{makes_kept, makes_of_kept}
use Rattle.class_values.proofs.low.+low_within.Goals as goal

pub returns-in-Some-narrower-clause-is : goal.returns-in-Some-narrower-clause-is
returns-in-Some-narrower-clause-is t c =
    if_found c.low_within.result _ _
    (λ k h. shared_low c.args.table.now c.low_within.new.table c.low_within.ensures.grows c.args.a c.args.hi c.in-Some-narrower.inner k c.in-Some-narrower.ensures h)
    c.low_within.ensures.is

pub returns-in-Some-sign_narrower-clause-is : goal.returns-in-Some-sign_narrower-clause-is
returns-in-Some-sign_narrower-clause-is t c =
    let inner = c.in-Some-sign_narrower.inner in
    let t1 = c.low_within-in-Some-sign_narrower.new.table in
    if_found c.low_within-in-Some-sign_narrower.result _ _
    (λ k h. shared_low c.args.table.now t1 c.low_within-in-Some-sign_narrower.ensures.grows c.args.a c.args.hi inner k c.in-Some-sign_narrower.ensures h)
    c.low_within-in-Some-sign_narrower.ensures.is

pub returns-in-Some-unary_of-clause-is : goal.returns-in-Some-unary_of-clause-is
returns-in-Some-unary_of-clause-is t c =
    let t0 = c.args.table.now in
    let t1 = c.low_within-in-Some-unary_of.new.table in
    let t2 = c.unary_in_form.new.table in
    let g1 = c.in_ok-low.ensures.grows in
    let g2 = c.unary_in_form.ensures.grows in
    let op = c.in-Some-unary_of.unary.op in
    let p = c.in-Some-unary_of.unary.of in
    let x = c.in-Some-2.low in
    let hi = c.args.hi in
    let low = some_of (HasLow t1 p hi) c.in_ok-low.field-0 x c.in-Some-2.is c.in_ok-low.ensures.is in
    let made = makes_of_kept t0 t2 (grows_on t0 t1 t2 g1 g2) op p c.args.a c.in-Some-unary_of.ensures in
    if_found c.unary_in_form.result _ _ (λ k s. unary_low t2 op c.args.a p x hi k made (low_kept t1 t2 g2 p hi x low) s) c.unary_in_form.ensures.is

pub returns-clause-is : goal.returns-clause-is
returns-clause-is t c =
    let t0 = c.args.table.now in
    let t1 = c.low_within-2.new.table in
    let t2 = c.low_within-3.new.table in
    let t3 = c.binary_in_form.new.table in
    let g1 = c.in_ok-first.ensures.grows in
    let g2 = c.in_ok-last.ensures.grows in
    let g3 = c.binary_in_form.ensures.grows in
    let from = grows_on t1 t2 t3 g2 g3 in
    let op = c.in-Some-binary_of.binary.op in
    let p = c.in-Some-binary_of.binary.first in
    let q = c.in-Some-binary_of.binary.last in
    let x = c.in-Some-3.first in
    let y = c.in-Some-4.last in
    let hi = c.args.hi in
    let left = some_of (HasLow t1 p hi) c.in_ok-first.field-0 x c.in-Some-3.is c.in_ok-first.ensures.is in
    let right = some_of (HasLow t2 q hi) c.in_ok-last.field-0 y c.in-Some-4.is c.in_ok-last.ensures.is in
    let made = makes_kept t0 t3 (grows_on t0 t1 t3 g1 from) op p q c.args.a c.in-Some-binary_of.ensures.makes in
    if_found c.binary_in_form.result _ _
    (λ k s. binary_low t3 op c.args.a p q x y hi k c.in-Some-binary_of.ensures.low made (low_kept t1 t3 from p hi x left) (low_kept t2 t3 g3 q hi y right) s)
    c.binary_in_form.ensures.is
