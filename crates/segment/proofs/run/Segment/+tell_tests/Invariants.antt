use Rattle.segment.proofs.run.Segment.+tell_tests.Given as goal

abbrev pub decreases-tell_tests : goal.decreases-tell_tests
decreases-tell_tests l = l.before
