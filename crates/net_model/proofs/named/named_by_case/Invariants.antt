use Rattle.std.proofs.Common.{◌≡◌, ◌++◌, ◌∷◌, drop}
use Rattle.net_model.specs.Nets.{row_nets}
use Rattle.net_model.proofs.named.named_by_case.Given as goal

abbrev pub invariant-loop-row : goal.invariant-loop-row
invariant-loop-row l = l.named ++ row_nets (drop l.row-index l.rows) l.rest ≡ l.sel ∷ row_nets l.rows l.rest
