use Rattle.std.proofs.Common.{arith, length, sym}
use Rattle.right_code.proofs.Fitting.{stops}
use Rattle.code_gen.proofs.Stepping.{block_here}
use Rattle.code_gen.proofs.steps.block_length.Goals as goal

pub returns-then-not-continues-clause-block : goal.returns-then-not-continues-clause-block
returns-then-not-continues-clause-block c =
    block_here c.args.flow.now c.args.at c.loop-place.place (omega (arith, c.loop-place.auto.place)) c.requires.begins c.requires.assigns c.loop-place.invariant (sym c.if-not-continues.ensures)

pub returns-clause-block : goal.returns-clause-block
returns-clause-block c =
    block_here c.args.flow.now c.args.at (length c.args.flow.now) c.requires.within c.requires.begins c.requires.assigns
    (λ k more less. c.loop-place.invariant k more (omega arith))
    (stops c.args.flow.now (length c.args.flow.now) (omega arith))
