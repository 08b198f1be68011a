use Rattle.std.proofs.Common.{◌≡◌, ◌+◌, ◌^◌, arith, refl}
use Rattle.std.proofs.lemmas.Nat.{pow_pos}
use Rattle.rec_bits.specs.declared.operator.Op2.TheVariants.{Mul}
use Rattle.class_values.specs.Values.{IsNumber}
use Rattle.class_values.specs.Inner.Limbs.{IsLimbIn}
use Rattle.class_values.specs.Inner.Sums.{Makes}
use Rattle.class_values.proofs.Keeping.{grows_on}
use Rattle.class_values.proofs.Made.{if_found, moved_number, some_of}
use Rattle.class_values.proofs.Summing.{makes_kept}
use Rattle.class_values.proofs.Symbolic.{limb_kept, number_kept, wide_made}
use Rattle.class_values.proofs.symbols.wide.Goals as goal

pub returns-clause-is : goal.returns-clause-is
returns-clause-is c =
    let t1 = c.widened.new.table in
    let t2 = c.widened-2.new.table in
    let t3 = c.number.new.table in
    let t4 = c.ordered.new.table in
    let t5 = c.sum.new.table in
    let cell = c.args.cell in
    let w = c.args.width in
    let at = c.args.address in
    let low = c.in-Some.low in
    let high = c.in-Some-2.high in
    let unit = c.in-Some-3.unit in
    let raised = c.in-Some-4.raised in
    let g5 = c.sum.ensures.grows in
    let g4 = grows_on t3 t4 t5 c.in_ok-raised.ensures.grows g5 in
    let g3 = grows_on t2 t3 t5 c.in_ok-unit.ensures.grows g4 in
    let g2 = grows_on t1 t2 t5 c.in_ok-high.ensures.grows g3 in
    let first = some_of (IsLimbIn t1 at w) c.in_ok-low.field-0 low c.in-Some.is c.in_ok-low.ensures.is in
    let second = some_of (IsLimbIn t2 (at + 1) w) c.in_ok-high.field-0 high c.in-Some-2.is c.in_ok-high.ensures.is in
    let n = c.mask.result + 1 in
    let whole : n ≡ 2 ^ cell = (let e = c.mask.ensures in omega (arith, e, pow_pos cell)) in
    let third = moved_number t3 w w n (2 ^ cell) unit refl whole (some_of (IsNumber t3 w n) c.in_ok-unit.field-0 unit c.in-Some-3.is c.in_ok-unit.ensures.is) in
    let fourth = some_of (Makes t4 Mul high unit) c.in_ok-raised.field-0 raised c.in-Some-4.is c.in_ok-raised.ensures.is in
    if_found c.sum.result _ _
    (λ k s. wide_made t5 cell at w low high unit raised k c.requires.within (limb_kept t1 t5 g2 at w low first) (limb_kept t2 t5 g3 (at + 1) w high second) (number_kept t3 t5 g4 w (2 ^ cell) unit third)
    (makes_kept t4 t5 g5 Mul high unit raised fourth) s) c.sum.ensures.is
