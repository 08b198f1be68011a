use Rattle.std.proofs.Common.{Option, subst}
use Rattle.std.specs.Prelude.{◌↔◌, IfOk, IsTrue}
use Rattle.net_model.specs.Patterns.{Pattern}
use Rattle.form_set.specs.Words.{TurnsAt}
use Rattle.form_set.proofs.words.can_turn.Goals as goal

pub returns-in-Some-clause-can : goal.returns-in-Some-clause-can
returns-in-Some-clause-can c =
    subst (λ (o : Option Pattern). IfOk c.turns.result (λ can. IsTrue can ↔ TurnsAt c.args.machine.now.checked.now.netlist o c.args.mode)) c.in-Some.ensures.pattern c.turns.ensures.can

pub turns-requires-clause-ids : goal.turns-requires-clause-ids
turns-requires-clause-ids c = c.in-Some.ensures.ids c.args.book.now c.requires.ready
