use Rattle.std.proofs.Common.{◌≡◌, drop}
use Rattle.route_trace.specs.Inner.Verdicts.{first_fault}
use Rattle.route_trace.proofs.verdict.first_refusal.Given as goal

abbrev pub invariant-loop-verdict : goal.invariant-loop-verdict
invariant-loop-verdict l = record {
  counted : l.net ≡ l.verdict-index;
  so_far : first_fault 0 l.verdicts ≡ first_fault l.net (drop l.verdict-index l.verdicts);
}
