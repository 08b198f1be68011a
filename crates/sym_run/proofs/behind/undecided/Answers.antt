use Rattle.rec_bits.specs.declared.operator.Op2.TheVariants.{Eq}
use Rattle.class_values.specs.Operators.{IsBin}
use Rattle.class_values.proofs.Made.{if_found, some_of}
use Rattle.sym_run.proofs.Passing.{passed_either}
use Rattle.sym_run.proofs.behind.undecided.Goals as goal

pub returns-clause-is : goal.returns-clause-is
returns-clause-is c =
    let t0 = c.args.table.now in
    let t1 = c.binary.new.table in
    let facts = c.args.facts.now in
    let bit = c.in-Some-2.bit in
    let same = some_of (IsBin t0 t1 facts Eq c.args.put.address c.args.spot.at) c.in_ok-bit.field-0 bit c.in-Some-2.is c.in_ok-bit.ensures.is in
    if_found c.chosen.result _ _ (λ k s. passed_either facts c.args.elements.now c.args.put c.args.spot.at c.args.spot.width c.args.old t0 t1 c.chosen.new.table c.in_ok-bit.ensures.grows c.in-Some.value bit k c.in-Some.ensures same s) c.chosen.ensures.is
