use Rattle.std.proofs.Common.{◌≡◌, map, drop}
use Rattle.view_lines.specs.Remarks.{model_of_remark}
use Rattle.view_parts.proofs.Views.{said_on}
use Rattle.view_parts.specs.Said.{model_of_view, views_said}
use Rattle.view_parts.proofs.viewed.views_of.Given as goal

abbrev pub invariant-loop-remark : goal.invariant-loop-remark
invariant-loop-remark l =
    views_said l.storages (map model_of_remark l.remarks)
    ≡ said_on l.storages (map model_of_view l.views) (map model_of_remark (drop l.remark-index l.remarks))
