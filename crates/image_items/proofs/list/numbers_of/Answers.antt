use Rattle.std.proofs.Common.{◌∷◌, length, length-append, sym, ap, arith}
use Rattle.text_lines.proofs.Parts.{parts_are}
use Rattle.image_items.specs.Reading.{fields_of}
use Rattle.image_items.proofs.Lists.{begins, goes_on, stops, last_stops, last_ends}
use Rattle.image_items.proofs.list.numbers_of.Goals as goal

pub loop-field-init : goal.loop-field-init
loop-field-init c = rw c.new-numbers.ensures (begins (fields_of 44 c.args.text.now))

pub returns-in_default-number_from : goal.returns-in_default-number_from
returns-in_default-number_from c = stops c.loop-field.numbers c.loop-field.rest.now c.in-Some.field.now c.in-Some.more.now c.loop-field.from _ c.loop-field.invariant (sym (rw c.in-Some.is at c.cut.ensures)) (sym (rw c.in_default-number_from.is at c.number_from.ensures))

pub loop-field-smaller : goal.loop-field-smaller
loop-field-smaller c =
    let e = parts_are 44 c.loop-field.rest.now c.in-Some.field.now c.in-Some.more.now (sym (rw c.in-Some.is at c.cut.ensures)) in
    omega (arith, ap length e, length-append c.in-Some.field.now (44 ∷ c.in-Some.more.now))

pub loop-field-preserved : goal.loop-field-preserved
loop-field-preserved c = rw (c.in_ok-push.ensures.pushed, c.from-from.ensures) (goes_on c.loop-field.numbers c.loop-field.rest.now c.in-Some.field.now c.in-Some.more.now c.loop-field.from c.in-Some-number_from.number _ c.loop-field.invariant (sym (rw c.in-Some.is at c.cut.ensures)) (sym (rw c.in-Some-number_from.is at c.number_from.ensures)))

pub returns-in_default-number_from-2 : goal.returns-in_default-number_from-2
returns-in_default-number_from-2 c = last_stops c.loop-field.numbers c.loop-field.rest.now c.loop-field.from _ c.loop-field.invariant (sym (rw c.in_default.is at c.cut.ensures)) (sym (rw c.in_default-number_from-2.is at c.number_from-2.ensures))

pub returns : goal.returns
returns c = rw c.in_ok-push-2.ensures.pushed (last_ends c.loop-field.numbers c.loop-field.rest.now c.loop-field.from c.in-Some-number_from-2.number _ c.loop-field.invariant (sym (rw c.in_default.is at c.cut.ensures)) (sym (rw c.in-Some-number_from-2.is at c.number_from-2.ensures)))
