use Rattle.std.proofs.Common.{subst}
use Rattle.sym_run.specs.Inner.Passed.{LeaveSameBehind}
use Rattle.sym_run.proofs.SamePuts.{if_same, same_behind_before, same_in_all}
use Rattle.sym_run.proofs.writes.leave_same_in_all.Goals as goal

pub returns-clause-same : goal.returns-clause-same
returns-clause-same c =
    let t0 = c.args.table.now in
    let facts = c.args.facts.now in
    let near = c.args.near.now in
    let far = c.args.far.now in
    let first = subst (LeaveSameBehind t0 facts near far) c.as_slice.ensures (c.in_ok-leave_same_behind.ensures.same c.if-not-branch.false) in
    if_same c.leave_same_behind-2.result _ _ (λ second. same_in_all facts near far t0 first
    (same_behind_before facts near far t0 c.leave_same_behind.new.table c.in_ok-leave_same_behind.ensures.grows far.puts (subst (LeaveSameBehind c.leave_same_behind.new.table facts near far) c.as_slice-2.ensures second)))
    c.leave_same_behind-2.ensures.same
