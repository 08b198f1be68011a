use Rattle.std.proofs.Common.{◌≡◌, ◌++◌, map, drop}
use Rattle.view_lines.specs.Remarks.{model_of_remark}
use Rattle.view_parts.specs.Said.{hidden_said}
use Rattle.view_parts.proofs.viewed.hidden_of.Given as goal

abbrev pub invariant-loop-remark : goal.invariant-loop-remark
invariant-loop-remark l =
    hidden_said (map model_of_remark l.remarks) ≡ l.hidden ++ hidden_said (map model_of_remark (drop l.remark-index l.remarks))
