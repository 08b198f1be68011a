use Rattle.rec_bits.specs.declared.operator.Op2.TheVariants.{Add, Mul}
use Rattle.class_values.specs.Inner.Sums.{MakesBy}
use Rattle.class_values.proofs.Keeping.{grows_on}
use Rattle.class_values.proofs.Made.{if_found, some_of}
use Rattle.class_values.proofs.Multiplying.{terms_times}
use Rattle.class_values.proofs.Summing.{makes_by_kept, makes_kept}
use Rattle.class_values.proofs.products.+scaled.Goals as goal

pub returns-clause-is : goal.returns-clause-is
returns-clause-is t c =
    let t0 = c.args.table.now in
    let t1 = c.scaled.new.table in
    let t2 = c.scaled-2.new.table in
    let t3 = c.sum.new.table in
    let g2 = c.in_ok-last.ensures.grows in
    let g3 = c.sum.ensures.grows in
    let from = grows_on t1 t2 t3 g2 g3 in
    let w = c.args.by.width in
    let n = c.args.by.number in
    let p = c.in-Some-terms_of.terms.first in
    let l = c.in-Some-terms_of.terms.last in
    let x = c.in-Some-2.first in
    let y = c.in-Some-3.last in
    let first = some_of (MakesBy t1 Mul p w n) c.in_ok-first.field-0 x c.in-Some-2.is c.in_ok-first.ensures.is in
    let last = some_of (MakesBy t2 Mul l w n) c.in_ok-last.field-0 y c.in-Some-3.is c.in_ok-last.ensures.is in
    let terms = makes_kept t0 t3 (grows_on t0 t1 t3 c.in_ok-first.ensures.grows from) Add p l c.args.a c.in-Some-terms_of.ensures.makes in
    if_found c.sum.result _ _
    (λ k s. terms_times t3 c.args.a p l w n x y k terms (makes_by_kept t1 t3 from Mul p w n x first) (makes_by_kept t2 t3 g3 Mul l w n y last) s)
    c.sum.ensures.is
