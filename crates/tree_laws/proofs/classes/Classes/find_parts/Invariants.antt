use Rattle.std.proofs.Common.{slice_index, take}
use Rattle.tree_laws.specs.Classes.{AllStand, tree_at}
use Rattle.tree_laws.specs.Rules.{part_exprs}
use Rattle.tree_laws.proofs.classes.Classes.find_parts.Given as goal

abbrev pub invariant-loop-part : goal.invariant-loop-part
invariant-loop-part l =
    AllStand l.self (part_exprs (tree_at l.self l.choice.classes.items) (slice_index l.choice.numbers.items) (take l.part-index l.parts)) l.classes.items
