use Rattle.rec_bits.specs.declared.operator.Op2.TheVariants.{Add}
use Rattle.class_values.specs.Inner.Sums.{Makes}
use Rattle.class_values.proofs.Keeping.{grows_on}
use Rattle.class_values.proofs.Made.{if_found, some_of}
use Rattle.class_values.proofs.Summing.{inserted, makes_kept}
use Rattle.class_values.proofs.sums.+placed.Goals as goal

pub returns-clause-is : goal.returns-clause-is
returns-clause-is t c =
    let t0 = c.args.table.now in
    let t1 = c.placed.new.table in
    let t2 = c.listed-2.new.table in
    let g = c.listed-2.ensures.grows in
    let p = c.in-Some.terms.first in
    let l = c.in-Some.terms.last in
    let r = c.in-Some-2.first in
    let first = some_of (Makes t1 Add p c.args.b) c.in_ok-first.field-0 r c.in-Some-2.is c.in_ok-first.ensures.is in
    let terms = makes_kept t0 t2 (grows_on t0 t1 t2 c.in_ok-first.ensures.grows g) Add p l c.args.a c.in-Some.ensures.makes in
    if_found c.listed-2.result _ _ (λ k h. inserted t2 c.args.a c.args.b p l r k terms (makes_kept t1 t2 g Add p c.args.b r first) h) c.listed-2.ensures.is
