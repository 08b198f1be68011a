use Rattle.std.proofs.lemmas.Result.{err_from_is_err_and}
use Rattle.check_command.specs.Inner.Stops.{task_of}
use Rattle.check_command.proofs.ReadLemmas.{broken_stop, follow_stop}
use Rattle.check_command.proofs.checking.Read.accepted.Goals as goal

pub returns-in-Some-clause-refused : goal.returns-in-Some-clause-refused
returns-in-Some-clause-refused c = broken_stop (task_of c.args.self.now.checked.netlist c.args.self.now.typed c.args.self.now.found.viewed) c.in-Some.stop (rw c.in-Some.is at c.in_ok-broken.ensures)

pub returns-in_err-passed-clause-refused : goal.returns-in_err-passed-clause-refused
returns-in_err-passed-clause-refused c =
    let p = err_from_is_err_and c.from_residual-in_err-passed.result c.from_residual-in_err-passed.ensures.1 in
    rw (p.1, p.2) (follow_stop (task_of c.args.self.now.checked.netlist c.args.self.now.typed c.args.self.now.found.viewed) (rw c.in_default.is at c.in_ok-broken.ensures) _ c.in_err-passed.ensures.refused)

pub returns-clause-accepted : goal.returns-clause-accepted
returns-clause-accepted c =
    let passed = c.in_ok-passed.ensures.passed in
    record { rules = rw c.in_default.is at c.in_ok-broken.ensures; relation = passed.relation; passed = c.in_ok-passed.passed; has = passed.has; text = rw c.len.ensures at c.in_ok-out.ensures }
