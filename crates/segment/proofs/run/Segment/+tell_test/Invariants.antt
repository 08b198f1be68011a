use Rattle.segment.proofs.run.Segment.+tell_test.Given as goal

abbrev pub decreases-tell_test : goal.decreases-tell_test
decreases-tell_test l = l.count
