use Rattle.self_test.proofs.Memories.{word_bits}
use Rattle.self_test.proofs.trees.literal.Goals as goal

pub mask-ones-requires-clause-low : goal.mask-ones-requires-clause-low
mask-ones-requires-clause-low c =
    rw (c.word_width.ensures, c.netlist-netlist.ensures.value) (word_bits _ _ c.netlist-netlist.ensures.kept).0

pub mask-ones-requires-clause-high : goal.mask-ones-requires-clause-high
mask-ones-requires-clause-high c =
    rw (c.word_width.ensures, c.netlist-netlist.ensures.value) (word_bits _ _ c.netlist-netlist.ensures.kept).1
