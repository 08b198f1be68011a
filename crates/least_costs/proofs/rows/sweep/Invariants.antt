use Rattle.std.proofs.Common.{◌≡◌, ◌-◌, ◌^◌, vec_len}
use Rattle.least_costs.specs.Rows.{IsRoomy, Swept}
use Rattle.least_costs.proofs.rows.sweep.Given as goal

abbrev pub invariant-loop-m : goal.invariant-loop-m
invariant-loop-m l = record {
  len : vec_len l.row ≡ 18;
  swept : Swept l.chains l.m-index l.changed l.initial.row.items l.row.items;
  room : IsRoomy (2 ^ 64 - 2) l.row.items;
}
