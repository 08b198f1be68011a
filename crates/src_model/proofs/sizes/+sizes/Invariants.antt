use Rattle.std.proofs.Common.{◌≡◌, ◌≤◌, ◌^◌, ◌-◌, drop}
use Rattle.src_model.specs.Sizes.{together}
use Rattle.src_model.proofs.Measures.{list_measured}
use Rattle.src_model.proofs.sizes.+sizes.Given as goal

-- the sizes so far, with those of the statements left, are those of all
abbrev pub invariant-block_sizes-loop-statement : goal.invariant-block_sizes-loop-statement
invariant-block_sizes-loop-statement l = record {
  all : together l.sizes (list_measured l.word (drop l.statement-index l.block)) ≡ list_measured l.word l.block;
  few : l.sizes.statements ≤ 2 ^ 64 - 1;
}
