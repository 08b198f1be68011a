use Rattle.std.proofs.Common.{[], refl}
use Rattle.follow.proofs.MarkFaultLemmas.{end_of, of_end}
use Rattle.follow.proofs.mark_faults.has_end.Goals as goal

pub returns-then-has_label : goal.returns-then-has_label
returns-then-has_label c = (
  λ last.
      end_of [] c.args.image.now c.as_slice-marks.result.now c.requires c.as_slice-marks.ensures c.len.result c.len.ensures
      (c.has_label.ensures.0 c.if-has_label.true) (c.are_on_last.ensures.0 last),
  λ h.
      c.are_on_last.ensures.1
      (of_end [] c.args.image.now c.as_slice-marks.result.now c.requires c.as_slice-marks.ensures c.len.result c.len.ensures h).1,
)

pub returns-else-has_label : goal.returns-else-has_label
returns-else-has_label c = (
  λ said. absurd (let none = c.if-has_label.false in cc),
  λ h. c.has_label.ensures.1 (of_end [] c.args.image.now c.as_slice-marks.result.now c.requires c.as_slice-marks.ensures _ refl h).0,
)
