use Rattle.rec_bits.specs.declared.operator.Op2.TheVariants.{Add}
use Rattle.class_values.specs.Inner.Sums.{Makes}
use Rattle.class_values.proofs.Keeping.{grows_on}
use Rattle.class_values.proofs.Made.{if_found, some_of}
use Rattle.class_values.proofs.Summing.{grouped, makes_kept}
use Rattle.class_values.proofs.sums.+sum.Goals as goal

pub returns-clause-is : goal.returns-clause-is
returns-clause-is t c =
    let t0 = c.args.table.now in
    let t1 = c.sum.new.table in
    let t2 = c.term-2.new.table in
    let g = c.term-2.ensures.grows in
    let p = c.in-Some.terms.first in
    let q = c.in-Some.terms.last in
    let r = c.in-Some-2.first in
    let first = some_of (Makes t1 Add c.args.a p) c.in_ok-first.field-0 r c.in-Some-2.is c.in_ok-first.ensures.is in
    let terms = makes_kept t0 t2 (grows_on t0 t1 t2 c.in_ok-first.ensures.grows g) Add p q c.args.b c.in-Some.ensures.makes in
    if_found c.term-2.result _ _ (λ k h. grouped t2 c.args.a c.args.b p q r k terms (makes_kept t1 t2 g Add c.args.a p r first) h) c.term-2.ensures.is
