use Rattle.segment.proofs.run.Segment.way_of.Goals as goal

pub way_from-requires-clause-begun : goal.way_from-requires-clause-begun
way_from-requires-clause-begun c = record {
  arrays = c.in_ok-run.ensures.arrays c.requires.viewless;
  stands = λ s cells memory m. c.in_ok-run.ensures.stands c.args.table.now s cells memory c.requires.bits m;
}
