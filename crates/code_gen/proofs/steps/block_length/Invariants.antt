use Rattle.std.proofs.Common.{◌≡◌, ◌<◌, ℕ, true}
use Rattle.src_trees.specs.Blocks.{continues}
use Rattle.code_gen.proofs.steps.block_length.Given as goal

abbrev pub invariant-loop-place : goal.invariant-loop-place
invariant-loop-place l = (k : ℕ) → l.at < k → k < l.place → continues l.flow k ≡ true
