use Rattle.std.proofs.Common.{◌≡◌, take}
use Rattle.code_gen.proofs.Making.{sizes}
use Rattle.code_gen.proofs.image.sizes_of.Given as goal

abbrev pub invariant-loop-block : goal.invariant-loop-block
invariant-loop-block l = l.sizes ≡ sizes (take l.block-index l.blocks)
