use Rattle.std.proofs.Common.{rules}
use Rattle.sym_run.proofs.moves.one_more.Goals as goal

pub returns : goal.returns
returns c =
    let a = c.is_of_array.ensures c.if-not-is_of_array.false in
    record { array = a; more = search rules }
