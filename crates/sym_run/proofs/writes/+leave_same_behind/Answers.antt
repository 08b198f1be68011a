use Rattle.std.proofs.Common.{subst, sym}
use Rattle.sym_run.specs.Inner.Passed.{LeaveSameBehind}
use Rattle.sym_run.proofs.SamePuts.{if_same, same_behind_before}
use Rattle.sym_run.proofs.writes.+leave_same_behind.Goals as goal

pub returns-clause-same : goal.returns-clause-same
returns-clause-same t c =
    let t0 = c.args.table.now in
    let facts = c.args.facts.now in
    let near = c.args.near.now in
    let far = c.args.far.now in
    let puts = c.in-Some.rest.now in
    if_same c.leave_same_behind.result _ _ (λ rest. subst (LeaveSameBehind t0 facts near far) (sym c.in-Some.ensures.cases.0)
    (c.in_ok-leave_same_in.ensures.same c.if-not-branch.false, same_behind_before facts near far t0 c.leave_same_in.new.table c.in_ok-leave_same_in.ensures.grows puts rest)) c.leave_same_behind.ensures.same
