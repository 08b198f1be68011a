use Rattle.std.proofs.Common.{List, true, false, subst, sym}
use Rattle.mark_start.specs.declared.hints.Spot.{Spot}
use Rattle.mark_start.specs.Marked.{AreViewless}
use Rattle.mark_start.specs.Runs.{ArraysIn}
use Rattle.mark_start.proofs.Starting.{arrays_in, start_stands}
use Rattle.mark_start.proofs.run.Start.begin.Goals as goal

pub returns-clause-arrays : goal.returns-clause-arrays
returns-clause-arrays c v =
    let spots = c.as_slice-spots.result.now in
    let none = subst (λ (xs : List Spot). AreViewless xs) (sym c.as_slice-spots.ensures) v in
    let room = c.room-end.result in
    record {
      machine = subst (λ (xs : List Spot). ArraysIn xs c.in_ok-cells.cells) c.as_slice-spots.ensures (arrays_in spots true room c.in_ok-cells.cells c.in_ok-cells.ensures none c.room-end.ensures.all);
      vars = subst (λ (xs : List Spot). ArraysIn xs c.in_ok-kept.kept) c.as_slice-spots.ensures (arrays_in spots false room c.in_ok-kept.kept c.in_ok-kept.ensures none c.room-end.ensures.all);
    }

pub returns-clause-stands : goal.returns-clause-stands
returns-clause-stands c =
    start_stands c.args.self.now c.as_slice-spots.result.now c.as_slice-spots.ensures c.room-end.result c.room-end.ensures.least c.room-end.ensures.is _
    c.new.result c.in_ok-regs.regs c.in_ok-cells.cells c.new-2.result c.new-4.result c.in_ok-kept.kept c.new-5.result c.new-3.result c.new-6.result c.in_ok-file.file c.new-7.result
    c.new.ensures c.in_ok-regs.ensures c.in_ok-cells.ensures c.new-2.ensures c.new-4.ensures c.in_ok-kept.ensures c.new-5.ensures c.new-3.ensures c.new-6.ensures c.in_ok-file.ensures c.new-7.ensures
