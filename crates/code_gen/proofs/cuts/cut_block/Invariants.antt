use Rattle.std.proofs.Common.{◌+◌, ◌-◌, ◌≤◌}
use Rattle.code_gen.specs.Inner.Coded.{AddsCuts, no_block}
use Rattle.code_gen.specs.Inner.Planning.{AreReady}
use Rattle.code_gen.proofs.cuts.cut_block.Given as goal

abbrev pub invariant-loop-place : goal.invariant-loop-place
invariant-loop-place l = record {
  ready : AreReady l.program.modes l.books;
  within : l.place ≤ l.at + l.count;
  cuts : AddsCuts l.program.modes l.program l.at l.place (l.at + l.count) no_block l.block;
}

abbrev pub decreases-loop-place : goal.decreases-loop-place
decreases-loop-place l = l.at + l.count - l.place
