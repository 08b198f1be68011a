use Rattle.tree_laws.specs.Classes.{width_in}
use Rattle.class_values.specs.Operators.{IsMade}
use Rattle.class_values.proofs.Made.{if_found, some_of}
use Rattle.class_values.proofs.Summing.{bin_of}
use Rattle.class_values.proofs.values.settled_binary.Goals as goal

pub returns-clause-is : goal.returns-clause-is
returns-clause-is c =
    let t0 = c.args.table.now in
    let t1 = c.settled.new.table in
    let t2 = c.settled-2.new.table in
    let t3 = c.binary_in_form.new.table in
    let facts = c.args.facts.now in
    let a = c.args.a in
    let b = c.args.b in
    let left = c.in-Some.left in
    let right = c.in-Some-2.right in
    let first = some_of (IsMade t0 t1 facts a (width_in t0 a) (λ x. x)) c.in_ok-left.field-0 left c.in-Some.is c.in_ok-left.ensures.is in
    let second = some_of (IsMade t1 t2 facts b (width_in t1 b) (λ x. x)) c.in_ok-right.field-0 right c.in-Some-2.is c.in_ok-right.ensures.is in
    if_found c.binary_in_form.result _ _
    (λ k h. bin_of t0 t1 t2 t3 c.in_ok-left.ensures.grows c.in_ok-right.ensures.grows c.binary_in_form.ensures.grows facts c.args.op a b left right k first second h)
    c.binary_in_form.ensures.is
