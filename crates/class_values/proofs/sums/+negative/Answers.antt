use Rattle.rec_bits.specs.declared.operator.Op2.TheVariants.{Add}
use Rattle.rec_bits.specs.declared.operator.Op1.TheVariants.{Neg}
use Rattle.class_values.specs.Inner.Sums.{MakesOf}
use Rattle.class_values.proofs.Keeping.{grows_on}
use Rattle.class_values.proofs.Made.{if_found, some_of}
use Rattle.class_values.proofs.Summing.{makes_kept, makes_of_kept, terms_negative}
use Rattle.class_values.proofs.sums.+negative.Goals as goal

pub returns-clause-is : goal.returns-clause-is
returns-clause-is t c =
    let t0 = c.args.table.now in
    let t1 = c.negative.new.table in
    let t2 = c.negative-2.new.table in
    let t3 = c.sum.new.table in
    let g2 = c.in_ok-last.ensures.grows in
    let g3 = c.sum.ensures.grows in
    let from = grows_on t1 t2 t3 g2 g3 in
    let p = c.in-Some-terms_of.terms.first in
    let l = c.in-Some-terms_of.terms.last in
    let x = c.in-Some-2.first in
    let y = c.in-Some-3.last in
    let first = some_of (MakesOf t1 Neg p) c.in_ok-first.field-0 x c.in-Some-2.is c.in_ok-first.ensures.is in
    let last = some_of (MakesOf t2 Neg l) c.in_ok-last.field-0 y c.in-Some-3.is c.in_ok-last.ensures.is in
    let terms = makes_kept t0 t3 (grows_on t0 t1 t3 c.in_ok-first.ensures.grows from) Add p l c.args.a c.in-Some-terms_of.ensures.makes in
    if_found c.sum.result _ _
    (λ k s. terms_negative t3 c.args.a p l x y k terms (makes_of_kept t1 t3 from Neg p x first) (makes_of_kept t2 t3 g3 Neg l y last) s)
    c.sum.ensures.is
