use Rattle.std.proofs.Common.{◌≡◌, ◌-◌, ◌∙◌, sym, arith}
use Rattle.src_eval.proofs.CountLemmas.{none_ahead, end_ahead}
use Rattle.src_eval.proofs.machine.Machine.count.Goals as goal

pub returns-in-End : goal.returns-in-End
returns-in-End c =
    let left = c.args.limit - c.loop-passed.passed in
    let one = end_ahead c.loop-passed.self c.advance.new.self c.advance.result c.advance.ensures.passes c.in-End.is (left - 1) left (omega arith) in
    omega (arith, one, c.loop-passed.invariant.left)

pub returns : goal.returns
returns c =
    let none : c.args.limit - c.loop-passed.passed ≡ 0 = omega arith in
    sym (c.loop-passed.invariant.left ∙ (rw none (omega (arith, none_ahead c.loop-passed.self))))
