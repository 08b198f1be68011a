use Rattle.std.proofs.Common.{◌+◌, ◌*◌, length}
use Rattle.src_model.specs.Written.{model_of_stmt}
use Rattle.src_model.specs.Sizes.{statements}
use Rattle.src_eval.proofs.BuildLemmas.{trees_of}
use Rattle.src_eval.proofs.BlockLemmas.{Going}
use Rattle.src_eval.proofs.build.+build.Given as goal

abbrev pub decreases-build : goal.decreases-build
decreases-build l = 2 * statements (model_of_stmt l.statement.now)

abbrev pub decreases-build_block : goal.decreases-build_block
decreases-build_block l = 2 * trees_of l.block.now + 1

abbrev pub invariant-build_block-loop-statement : goal.invariant-build_block-loop-statement
invariant-build_block-loop-statement l = Going l.scope.word l.scope.table l.fn.steps l.steps l.block l.left l.next

abbrev pub decreases-build_block-loop-statement : goal.decreases-build_block-loop-statement
decreases-build_block-loop-statement l = length l.left
