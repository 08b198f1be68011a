use Rattle.std.proofs.Common.{length}
use Rattle.emit_seq.proofs.cuts.+put_woven.Given as goal

abbrev pub decreases-put_woven : goal.decreases-put_woven
decreases-put_woven l = length l.parts.now
