-- Where nothing is hidden, right code by views is right code as it is seen.
use Rattle.std.proofs.Common.{ℕ, ◌≡◌, []}
use Rattle.net_model.specs.declared.hardware.Netlist.{Netlist}
use Rattle.src_model.specs.Trace.{strace}
use Rattle.src_model.specs.Written.{ProgramModel}
use Rattle.code_model.specs.declared.views.Viewed.{Viewed}
use Rattle.code_model.proofs.Unviewed.{as_seen, as_shown, none_here}
use Rattle.follow.specs.RightByViews.{IsRightAsSeen, IsRightByViews}

module _ (netlist : Netlist) (width : ℕ) (l : ProgramModel) (viewed : Viewed) (none : viewed.hidden ≡ []) where
  pub right_as_seen : IsRightByViews netlist width l viewed → IsRightAsSeen netlist width l viewed
  right_as_seen h = record { laid = h.laid; views = h.views; marks = h.marks; traces = as_seen netlist viewed none (strace width l) h.traces }

  pub right_by_views : IsRightAsSeen netlist width l viewed → IsRightByViews netlist width l viewed
  right_by_views h = record {
    laid = h.laid;
    views = h.views;
    start = none_here netlist viewed none 0;
    marks = h.marks;
    traces = as_shown netlist viewed none (strace width l) h.traces;
  }
