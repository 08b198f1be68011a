use Rattle.std.proofs.Common.{ℕ, ◌+◌, ◌-◌, refl}
use Rattle.rec_bits.specs.Operators.{slice_of}
use Rattle.class_values.proofs.Made.{folded, if_found, moved_number}
use Rattle.class_values.proofs.values.sliced.Goals as goal

pub returns-then-hi-le63-clause-is : goal.returns-then-hi-le63-clause-is
returns-then-hi-le63-clause-is c =
    let s = c.in-Some.ensures in
    let t = c.args.table.now in
    let w : ℕ = c.args.hi + 1 - c.args.lo in
    if_found c.number.result _ _
    (λ k is. folded t c.number.new.table c.number.ensures.grows c.args.facts.now c.args.a w c.in-Some.x.number k (λ x. slice_of x c.args.hi c.args.lo) s.number
    (moved_number c.number.new.table w w c.slice.result (slice_of c.in-Some.x.number c.args.hi c.args.lo) k refl c.slice.ensures is))
    c.number.ensures.is

pub returns-in-None-clause-is : goal.returns-in-None-clause-is
returns-in-None-clause-is c = c.part.ensures.is c.args.facts.now
