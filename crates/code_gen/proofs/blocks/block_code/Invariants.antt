use Rattle.std.specs.List.{AllByRecursion}
use Rattle.code_gen.specs.Blocks.{IsOnce}
use Rattle.code_gen.specs.Inner.Coded.{AreCodedTo}
use Rattle.code_gen.specs.Inner.Planning.{AreReady}
use Rattle.code_gen.proofs.blocks.block_code.Given as goal

abbrev pub invariant-loop-at : goal.invariant-loop-at
invariant-loop-at l = record {
  ready : AreReady l.program.modes l.books;
  once : AllByRecursion IsOnce l.code.blocks.items;
  code : AreCodedTo l.program.modes l.program l.at l.code.blocks.items l.code.branches.items;
}
