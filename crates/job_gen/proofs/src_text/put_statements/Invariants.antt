use Rattle.std.proofs.Common.{◌≡◌, ◌<◌, ◌++◌}
use Rattle.job_gen.specs.SrcText.{drawn, statements}
use Rattle.job_gen.proofs.src_text.put_statements.Given as goal

abbrev pub invariant-loop : goal.invariant-loop
invariant-loop l = record {
  small : l.x < 65536;
  drawn : l.x ≡ drawn l.number l.counter;
  text : l.out.items ≡ l.initial.out.items ++ statements l.number l.counter;
}
