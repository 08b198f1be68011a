use Rattle.std.proofs.Common.{◌+◌, ◌*◌}
use Rattle.segment.proofs.rounds.Source.+copy.Given as goal

abbrev pub decreases-copied : goal.decreases-copied
decreases-copied l = 2 * l.levels

abbrev pub decreases-relisted : goal.decreases-relisted
decreases-relisted l = 2 * l.levels + 1
