use Rattle.std.proofs.Common.{arith}
use Rattle.std.proofs.lemmas.Grind.{common_steps}
use Rattle.record_core.proofs.FetchLemmas.{place_from-found}
use Rattle.record_core.specs.Words.{texts_of}
use Rattle.record_core.proofs.fetch.place_of.Goals as goal

pub unreachable-requires : goal.unreachable-requires
unreachable-requires c = place_from-found 0 (texts_of c.args.names.now) c.args.index (grind (arith, common_steps)) (grind (arith, common_steps))
