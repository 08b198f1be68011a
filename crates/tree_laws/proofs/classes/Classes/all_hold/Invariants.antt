use Rattle.std.proofs.Common.{slice_index, take}
use Rattle.std.specs.List.{AllByRecursion}
use Rattle.tree_laws.specs.Classes.{tree_at}
use Rattle.tree_laws.specs.Rules.{Holds}
use Rattle.tree_laws.proofs.classes.Classes.all_hold.Given as goal

abbrev pub invariant-loop-condition : goal.invariant-loop-condition
invariant-loop-condition l =
    AllByRecursion (Holds (tree_at l.self l.choice.classes.items) (slice_index l.choice.numbers.items)) (take l.condition-index l.conditions)
