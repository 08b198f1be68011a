use Rattle.std.proofs.Common.{◌≡◌, ◌-◌, ◌^◌, vec_len}
use Rattle.least_costs.specs.Rows.{Keeps, Lower, IsRoomy, weight_of}
use Rattle.least_costs.proofs.rows.close.Given as goal

abbrev pub invariant-loop : goal.invariant-loop
invariant-loop l = record {
  len : vec_len l.row ≡ 18;
  sound : Keeps l.chains l.initial.row.items l.row.items;
  lower : Lower l.initial.row.items l.row.items;
  room : IsRoomy (2 ^ 64 - 2) l.row.items;
}

abbrev pub decreases-loop : goal.decreases-loop
decreases-loop l = weight_of l.row.items
