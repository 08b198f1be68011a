use Rattle.std.proofs.Common.{Option, is_none, refl, subst}
use Rattle.segment.specs.declared.way.Why.{Why}
use Rattle.segment.specs.Proved.{IsAtOne}
use Rattle.segment.specs.Runs.{IsAgreed}
use Rattle.segment.proofs.run.Segment.meets.Goals as goal

pub returns-in-None : goal.returns-in-None
returns-in-None c =
    let seg = c.args.self.now in
    record {
      here = refl;
      rest = refl;
      agrees = subst (λ (o : Option Why). IsAgreed c.args.run.now (IsAtOne seg.start.pool.now c.args.address seg.label seg.hints.now) c.args.table.now c.unlike.new.table (is_none o)) c.in-None.is c.in_ok-why.ensures;
    }
