use Rattle.follow.proofs.MarkFaultLemmas.{all_marked, bare_unmarked, found_none, found_stray}
use Rattle.follow.proofs.mark_faults.mark_fault.Goals as goal

pub returns-in-Some-clause-fault : goal.returns-in-Some-clause-fault
returns-in-Some-clause-fault c =
    bare_unmarked c.args.flow.now c.args.image.now c.as_slice-marks.result.now c.requires c.as_slice-marks.ensures c.in-Some.tree (rw c.in-Some.is at c.unmarked.ensures)

pub returns-then-not-has_end-clause-fault : goal.returns-then-not-has_end-clause-fault
returns-then-not-has_end-clause-fault c = (
  all_marked c.args.flow.now c.args.image.now c.as_slice-marks.result.now c.requires c.as_slice-marks.ensures (rw c.in_default.is at c.unmarked.ensures),
  λ h. absurd (let said = c.has_end.ensures.1 h in let none = c.if-not-has_end.true in cc),
)

pub returns-clause-fault : goal.returns-clause-fault
returns-clause-fault c =
    found_stray c.args.flow.now c.args.image.now c.as_slice-marks.result.now c.requires c.as_slice-marks.ensures
    (all_marked c.args.flow.now c.args.image.now c.as_slice-marks.result.now c.requires c.as_slice-marks.ensures (rw c.in_default.is at c.unmarked.ensures))
    (c.has_end.ensures.0 c.if-not-has_end.false) c.stray.result c.stray.ensures

pub returns-clause-right : goal.returns-clause-right
returns-clause-right c =
    found_none c.args.flow.now c.args.image.now c.as_slice-marks.result.now c.requires c.as_slice-marks.ensures
    (rw c.in_default.is at c.unmarked.ensures) (c.has_end.ensures.0 c.if-not-has_end.false) c.stray.result c.stray.ensures
