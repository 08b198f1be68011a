use Rattle.std.proofs.Common.{◌<◌, arith, length, refl, rules}
use Rattle.std.proofs.lemmas.Grind.{common_steps}
use Rattle.std.proofs.lemmas.Option.{slice_get_read}
use Rattle.least_costs.proofs.PartLemmas.{low_at}
use Rattle.least_costs.proofs.parts.rest_of.Goals as goal

pub returns-clause-register : goal.returns-clause-register
returns-clause-register c = grind (arith, common_steps)

pub rest_of_one-requires : goal.rest_of_one-requires
rest_of_one-requires c =
    let some : 0 < length c.args.parts.now = search rules in
    record { low = low_at c.args.parts.now 0 c.index-parts-0.result c.requires.low (slice_get_read _ _ _ _ refl some c.index-parts-0.is) }
