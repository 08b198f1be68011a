use Rattle.std.proofs.Common.{drop}
use Rattle.net_model.specs.Depends.{Among}
use Rattle.net_check.proofs.cycle.is_named.Given as goal

abbrev pub invariant-loop-other : goal.invariant-loop-other
invariant-loop-other l = record {
  rest : Among l.net l.named → Among l.net (drop l.other-index l.named);
  whole : Among l.net (drop l.other-index l.named) → Among l.net l.named;
}
