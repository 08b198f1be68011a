use Rattle.rec_bits.specs.declared.operator.Op2.TheVariants.{Add}
use Rattle.class_values.specs.Inner.Sums.{Makes}
use Rattle.class_values.proofs.Keeping.{grows_on}
use Rattle.class_values.proofs.Made.{if_found, some_of}
use Rattle.class_values.proofs.Summing.{inserted, makes_kept, regrouped}
use Rattle.class_values.proofs.sums.+joined.Goals as goal

pub returns-in-Some-2-clause-is : goal.returns-in-Some-2-clause-is
returns-in-Some-2-clause-is t c =
    let t1 = c.merged.new.table in
    let t2 = c.merged-2.new.table in
    let t3 = c.followed.new.table in
    let g = c.followed.ensures.grows in
    let p = c.in-Some-terms_of.terms.first in
    let l = c.in-Some-terms_of.terms.last in
    let r = c.in-Some-2.both in
    let both = some_of (Makes t2 Add l c.args.b) c.in_ok-both-2.field-0 r c.in-Some-2.is c.in_ok-both-2.ensures.is in
    let terms = makes_kept t1 t3 (grows_on t1 t2 t3 c.in_ok-both-2.ensures.grows g) Add p l c.args.a c.in-Some-terms_of.ensures.makes in
    if_found c.followed.result _ _ (λ k h. regrouped t3 c.args.a c.args.b p l r k terms (makes_kept t2 t3 g Add l c.args.b r both) h) c.followed.ensures.is

pub returns-clause-is : goal.returns-clause-is
returns-clause-is t c =
    let t1 = c.merged.new.table in
    let t2 = c.merged-2.new.table in
    let t3 = c.joined.new.table in
    let t4 = c.ended.new.table in
    let g = c.ended.ensures.grows in
    let p = c.in-Some-terms_of.terms.first in
    let l = c.in-Some-terms_of.terms.last in
    let r = c.in-Some-3.first in
    let first = some_of (Makes t3 Add p c.args.b) c.in_ok-first.field-0 r c.in-Some-3.is c.in_ok-first.ensures.is in
    let from = grows_on t1 t2 t4 c.in_ok-both-2.ensures.grows (grows_on t2 t3 t4 c.in_ok-first.ensures.grows g) in
    let terms = makes_kept t1 t4 from Add p l c.args.a c.in-Some-terms_of.ensures.makes in
    if_found c.ended.result _ _ (λ k h. inserted t4 c.args.a c.args.b p l r k terms (makes_kept t3 t4 g Add p c.args.b r first) h) c.ended.ensures.is
