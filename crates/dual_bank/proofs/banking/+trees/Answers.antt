use Rattle.std.proofs.Common.{arith}
use Rattle.dual_bank.proofs.Sums.{index_below}
use Rattle.dual_bank.proofs.banking.+trees.Goals as goal

pub banked_address-banked_tree-requires : goal.banked_address-banked_tree-requires
banked_address-banked_tree-requires t c =
    let below = index_below _ _ _ _ c.in-Some.ensures.some in
    (omega (arith, below), (c.requires.some, c.requires.most))
