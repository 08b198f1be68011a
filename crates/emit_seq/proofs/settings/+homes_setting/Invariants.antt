use Rattle.std.proofs.Common.{length}
use Rattle.emit_seq.proofs.settings.+homes_setting.Given as goal

abbrev pub decreases-homes_setting : goal.decreases-homes_setting
decreases-homes_setting l = length l.parts.now
