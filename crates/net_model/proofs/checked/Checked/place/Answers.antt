use Rattle.std.proofs.Common.{◌≤◌, arith, length}
use Rattle.net_model.proofs.KeptRules.{few_storages}
use Rattle.net_model.proofs.checked.Checked.place.Goals as goal

pub first_place-requires : goal.first_place-requires
first_place-requires c =
    let few : length c.self.inside.netlist.storages ≤ 15 = few_storages _ _ c.self.invariant in
    rw c.as_slice.ensures (omega arith)
