use Rattle.compaction.specs.Machines.{known_operation}
use Rattle.compaction.proofs.Appended.{first_of_two, second_of_two, shares_destination-append}
use Rattle.compaction.proofs.depends.shares_either.Goals as goal

pub returns-then-shares_destination : goal.returns-then-shares_destination
returns-then-shares_destination c =
    let m = known_operation c.args.known.now in
    first_of_two _ _ _ _ (shares_destination-append m (m c.args.step) c.args.first.now c.args.second.now) c.shares_destination.ensures c.if-shares_destination.true

pub returns-else-shares_destination : goal.returns-else-shares_destination
returns-else-shares_destination c =
    let m = known_operation c.args.known.now in
    second_of_two _ _ _ _ _ (shares_destination-append m (m c.args.step) c.args.first.now c.args.second.now) c.shares_destination.ensures c.if-shares_destination.false
    c.shares_destination-else-shares_destination.ensures
