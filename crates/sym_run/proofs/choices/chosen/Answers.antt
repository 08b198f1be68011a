use Rattle.rec_bits.specs.declared.operator.Op2.TheVariants.{Sub, Mul}
use Rattle.class_values.specs.Operators.{IsBin, IsZext}
use Rattle.class_values.proofs.Made.{if_found, some_of}
use Rattle.sym_run.proofs.Choosing.{chosen_made}
use Rattle.sym_run.proofs.choices.chosen.Goals as goal

pub returns-clause-is : goal.returns-clause-is
returns-clause-is c =
    let t0 = c.args.table.now in
    let t1 = c.zero_extended.new.table in
    let t2 = c.binary.new.table in
    let t3 = c.binary-2.new.table in
    let facts = c.args.facts.now in
    let factor = c.in-Some.factor in
    let change = c.in-Some-2.change in
    let part = c.in-Some-3.part in
    let z = some_of (IsZext t0 t1 facts c.args.bit c.args.width) c.in_ok-factor.field-0 factor c.in-Some.is c.in_ok-factor.ensures.is in
    let d = some_of (IsBin t1 t2 facts Sub c.args.value c.args.old) c.in_ok-change.field-0 change c.in-Some-2.is c.in_ok-change.ensures.is in
    let m = some_of (IsBin t2 t3 facts Mul factor change) c.in_ok-part.field-0 part c.in-Some-3.is c.in_ok-part.ensures.is in
    if_found c.binary-3.result _ _ (λ k s. chosen_made t0 t1 t2 t3 c.binary-3.new.table c.in_ok-factor.ensures.grows c.in_ok-change.ensures.grows c.in_ok-part.ensures.grows c.binary-3.ensures.grows facts c.args.bit c.args.width c.args.value c.args.old factor change part k z d m s) c.binary-3.ensures.is
