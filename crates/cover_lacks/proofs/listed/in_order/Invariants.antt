use Rattle.tree_sharing.specs.Sharing.{exprs_at}
use Rattle.cover_lacks.specs.Inner.Listed.{ListedBelow}
use Rattle.cover_lacks.proofs.listed.in_order.Given as goal

abbrev pub invariant-loop-n : goal.invariant-loop-n
invariant-loop-n l = ListedBelow (exprs_at l.nodes) l.flags l.n (exprs_at l.list.items)
