use Rattle.std.proofs.Common.{length, map}
use Rattle.view_lines.specs.Remarks.{model_of_remark}
use Rattle.viewed_text.proofs.Going.{Going}
use Rattle.viewed_text.proofs.behind.remarks_behind.Given as goal

abbrev pub invariant-loop-line : goal.invariant-loop-line
invariant-loop-line l = Going l.storages l.image l.word l.text l.rest (map model_of_remark l.remarks.items) l.last

abbrev pub decreases-loop-line : goal.decreases-loop-line
decreases-loop-line l = length l.rest
