use Rattle.std.proofs.Common.{◌≡◌, ◌++◌, take}
use Rattle.std.specs.List.{flat_map}
use Rattle.code_model.specs.ImageText.{cost_line}
use Rattle.image_text.proofs.writing.put_costs.Given as goal

abbrev pub invariant-loop-cost : goal.invariant-loop-cost
invariant-loop-cost l = l.out.items ≡ l.initial.out.items ++ flat_map cost_line (take l.cost-index l.costs)
