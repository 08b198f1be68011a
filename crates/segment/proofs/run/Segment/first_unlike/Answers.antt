use Rattle.std.proofs.Common.{Option, is_none, subst, ℕ}
use Rattle.mark_start.specs.Marked.{AllHeld, AllNumbered, SpotsSeen}
use Rattle.segment.specs.Runs.{IsAgreed}
use Rattle.segment.proofs.Agreement.{hinted_all}
use Rattle.segment.proofs.run.Segment.first_unlike.Goals as goal

pub returns-in-None : goal.returns-in-None
returns-in-None c =
    let run = c.args.run.now in
    let pool = c.args.self.now.start.pool.now in
    let spots = c.as_slice.result.now in
    let holdings = c.as_slice-2.result.now in
    let numbers = c.as_slice-3.result.now in
    let t0 = c.args.table.now in
    let t1 = c.unlike_spot.new.table in
    let t2 = c.unlike_holding.new.table in
    let t3 = c.unlike_number.new.table in
    hinted_all run pool c.args.hint.now t0 t1 t2 t3 spots holdings numbers c.as_slice.ensures c.as_slice-2.ensures c.as_slice-3.ensures
    (subst (λ (o : Option ℕ). IsAgreed run (SpotsSeen pool spots) t0 t1 (is_none o)) c.in_default.is c.in_ok-k.ensures)
    (subst (λ (o : Option ℕ). IsAgreed run (AllHeld pool holdings) t1 t2 (is_none o)) c.in_default-2.is c.in_ok-k-2.ensures)
    (subst (λ (o : Option ℕ). IsAgreed run (λ s now. AllNumbered numbers now) t2 t3 (is_none o)) c.in-None.is c.in_ok-k-3.ensures)
