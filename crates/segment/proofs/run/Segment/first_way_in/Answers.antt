use Rattle.segment.proofs.run.Segment.first_way_in.Goals as goal

pub first_way_from-requires-clause-begun : goal.first_way_from-requires-clause-begun
first_way_from-requires-clause-begun c = record {
  arrays = c.in_ok-run.ensures.arrays c.requires.viewless;
  stands = λ s cells memory m. c.in_ok-run.ensures.stands c.args.table.now s cells memory c.requires.bits m;
}
