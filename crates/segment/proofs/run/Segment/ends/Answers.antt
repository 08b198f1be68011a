use Rattle.std.proofs.Common.{subst, sym}
use Rattle.std.specs.Prelude.{IfOk}
use Rattle.sym_run.specs.declared.walk.Walked.{Walked}
use Rattle.segment.specs.Proved.{HasEnded, IfFound}
use Rattle.segment.proofs.run.Segment.ends.Goals as goal

pub returns-in-Arrives : goal.returns-in-Arrives
returns-in-Arrives c =
    subst (λ (walked : Walked). IfOk c.comes.result (λ end. IfFound end (λ address left. HasEnded c.args.self.now c.args.run.now.facts c.args.run.now.vars walked address left c.args.table.now c.comes.new.table)))
    (sym c.in-Arrives.is) c.comes.ensures
